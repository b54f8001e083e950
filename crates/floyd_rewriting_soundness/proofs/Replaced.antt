-- What a goal says of an environment follows from what it says with other assertions in the place of its own.
use Rattle.std.proofs.Common.{ℕ, List, refl}
use Rattle.floyd_int.specs.declared.kinds.Value.{Value}
use Rattle.floyd_tree.specs.Formulas.{PlainFormula}
use Rattle.floyd_tree_values.specs.BuiltIns.{Env}
use Rattle.floyd_truth.specs.Truth.{Truth}
use Rattle.floyd_clight_heap.specs.Heaplet.{Heaplet}
use Rattle.floyd_assert_trees.specs.declared.assertion.Assertion.{Assertion}
use Rattle.floyd_assert_trees.specs.declared.items.Defs.{Defs}
use Rattle.floyd_assert_trees.specs.declared.spec.SpecTable.{SpecTable}
use Rattle.floyd_assert_meaning.specs.Assertions.{Holds}
use Rattle.floyd_assert_meaning.specs.Settings.{Setting}
use Rattle.floyd_goal_laws.proofs.Consequences.{follows_under}
use Rattle.floyd_goal_laws.proofs.Givens.{given_after}
use Rattle.floyd_goal_laws.specs.Following.{RunFollows}
use Rattle.floyd_goal_meaning.specs.declared.linked.Linked.{Linked}
use Rattle.floyd_goal_meaning.specs.GoalHolds.{Given, HoldsFor, HoldsUnder, LemmasAreTrue}
use Rattle.floyd_goal_meaning.specs.Links.{AreApart, Has}
use Rattle.floyd_goal_meaning.specs.Programs.{Further, Places, setting}
use Rattle.floyd_goal_trees.specs.declared.goal.Entail as e
use Rattle.floyd_goal_trees.specs.declared.goal.Goal.TheVariants as g
use Rattle.floyd_goal_trees.specs.declared.goal.Pure as p
use Rattle.floyd_goal_trees.specs.declared.goal.Run as r
use Rattle.floyd_pure_rewriting.proofs.PartsChanged.{entail_behind, pure_behind, run_behind}

module _ (L : Linked) (more : List Further) (place : Places) (defs : Defs) (specs : SpecTable) (n : ℕ) (has : Has L defs specs) (apart : AreApart L more place) (lemmas : LemmasAreTrue (setting L more place) defs) (env : Env) where
  abbrev S : Setting
  S = setting L more place

  -- the second holds where the first does
  abbrev pub Gives : Assertion → Assertion → Type 0
  Gives a b = (temps : List ℕ → Value) (h : Heaplet) → Holds S env a temps h → Holds S env b temps h

  pub run_from : (run : r.Run) (source : Assertion) → Given S defs run.context env → Gives run.source source → HoldsFor defs specs n (run_behind run source) → HoldsUnder L more place specs n env (g.Run run)
  run_from run source given f h =
      let follows : RunFollows S env env run (record run { source = source }) = record {
        rest = refl;
        source = λ act k s. record { result = s.result; blocks = s.blocks; distinct = s.distinct; places = s.places; holds = f act.temps k s.holds };
        exits = λ way k m. m;
      } in
      follows_under L more place defs specs n env env (g.Run run) (g.Run (record run { source = source })) follows
      (h.in_each L more place has apart lemmas env (given_after S defs env run.context given))

  pub entail_from : (entail : e.Entail) (source target : Assertion) → Given S defs entail.context env → Gives entail.source source → Gives target entail.target → HoldsFor defs specs n (entail_behind entail source target) → HoldsUnder L more place specs n env (g.Entail entail)
  entail_from entail source target given f k h =
      λ temps i s. k temps i (h.in_each L more place has apart lemmas env (given_after S defs env entail.context given) temps i (f temps i s))

  pub pure_from : (pure : p.Pure) (target : PlainFormula) → Given S defs pure.context env → (Truth S.defs S.has_spec env target → Truth S.defs S.has_spec env pure.target) → HoldsFor defs specs n (pure_behind pure target) → HoldsUnder L more place specs n env (g.Pure pure)
  pure_from pure target given f h = f (h.in_each L more place has apart lemmas env (given_after S defs env pure.context given))
