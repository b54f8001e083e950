-- A goal holds where it does with hypotheses more.
use Rattle.std.proofs.Common.{ℕ, List, [], ◌∷◌, ◌++◌, map, subst}
use Rattle.std.specs.List.{AllByRecursion}
use Rattle.floyd_tree.specs.Formulas.{PlainFormula}
use Rattle.floyd_tree_values.specs.BuiltIns.{Env}
use Rattle.floyd_truth.specs.Truth.{AllTrue}
use Rattle.floyd_assert_trees.specs.declared.items.Defs.{Defs}
use Rattle.floyd_assert_trees.specs.declared.spec.SpecTable.{SpecTable}
use Rattle.floyd_goal.specs.Goals.{enriched, pure_goal}
use Rattle.floyd_goal_trees.specs.Contexts.{context_of}
use Rattle.floyd_goal_trees.specs.declared.context.Context.{Context}
use Rattle.floyd_goal_trees.specs.declared.goal.Goal.{Goal}
use Rattle.floyd_goal_meaning.specs.declared.linked.Linked.{Linked}
use Rattle.floyd_goal_meaning.specs.GoalHolds.{Given, HoldsFor, LemmasAreTrue}
use Rattle.floyd_goal_meaning.specs.Links.{Has, AreApart}
use Rattle.floyd_goal_meaning.specs.Programs.{Further, Places, setting}
use Rattle.floyd_goal_laws.proofs.Givens.{given_after, given_more, other_context}
use Rattle.floyd_pure_formulas.specs.Holds.{AddsTrue, Refutes}
use Rattle.floyd_pure_formulas.specs.Rows.{Row, with_more}
use Rattle.floyd_pure_soundness.specs.Adding.{AddingHolds, RefutingHolds}
use Rattle.floyd_pure_soundness.specs.Rows.{IsSound}
use Rattle.floyd_pure_soundness.proofs.Arguments.{args_stay, hypotheses_stay}

module _ (L : Linked) (more : List Further) (place : Places) (defs : Defs) (specs : SpecTable) (n : ℕ) where
  -- what is asked for is true under an environment that is given for the context; the goals behind are left
  asked_true : (context : Context) (fs : List PlainFormula) (back : List Goal) → Has L defs specs → AreApart L more place → LemmasAreTrue (setting L more place) defs → (env : Env) → Given (setting L more place) defs context env → AllByRecursion (HoldsFor defs specs n) (map (pure_goal context) fs ++ back) → AllTrue (setting L more place).defs (setting L more place).has_spec env fs × AllByRecursion (HoldsFor defs specs n) back
  asked_true context [] back has apart lemmas env given h = (tt, h)
  asked_true context (f ∷ fs) back has apart lemmas env given h =
      let p = asked_true context fs back has apart lemmas env given h.1 in
      ((h.0.in_each L more place has apart lemmas env (given_after (setting L more place) defs env context given), p.0), p.1)

pub adding : AddingHolds
adding defs specs n goal goals adds h = record {
  in_each = λ L more place has apart lemmas env given.
      let a = adds L more place has in
      let p = asked_true L more place defs specs n (context_of goal) a.asked (with_more goal a.added ∷ []) has apart lemmas env given (subst (AllByRecursion (HoldsFor defs specs n)) a.made h) in
      let added = a.hold env given.suits given.hypotheses p.0 in
      other_context L more place defs specs n goal (enriched (context_of goal) a.added) env (p.1.0.in_each L more place has apart lemmas)
      (given_more (setting L more place) defs env (context_of goal) a.added given added);
}

pub refuting : RefutingHolds
refuting defs specs n goal refutes = record { in_each = λ L more place has apart lemmas env given. absurd (refutes L more place has env given.suits given.hypotheses) }

-- the row of a command that only adds hypotheses
pub adding_row : (R : Row) → AddsTrue R → IsSound R
adding_row R adds defs specs n goal args goals hyps args_fit row h =
    adding defs specs n goal goals (λ L more place has.
    adds (setting L more place).defs (setting L more place).has_spec goal args goals has.rules (hypotheses_stay L defs specs has (context_of goal) hyps) (args_stay L defs specs has (context_of goal) args args_fit) row)
    h

-- and of one that closes a goal whose hypotheses are true nowhere
pub refuting_row : (R : Row) → Refutes R → IsSound R
refuting_row R refutes defs specs n goal args goals hyps args_fit row h =
    refuting defs specs n goal (λ L more place has. (refutes (setting L more place).defs (setting L more place).has_spec goal args goals row).1)
