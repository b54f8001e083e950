-- Commands that put parts in place of one where side formulas are true.
use Rattle.std.proofs.Common.{◌≡◌, ℕ, List, Option, Some, None, Result, Ok, Err, subst}
use Rattle.std.specs.List.{AllByRecursion}
use Rattle.floyd_text.specs.declared.refusal.No.{No}
use Rattle.floyd_clight_heap.specs.Heaplet.{Heaplet}
use Rattle.floyd_tree.specs.Formulas.{PlainFormula}
use Rattle.floyd_tree_values.specs.BuiltIns.{Env}
use Rattle.floyd_truth.specs.Truth.{AllTrue}
use Rattle.floyd_assert_trees.specs.declared.items.Defs.{Defs}
use Rattle.floyd_assert_trees.specs.declared.sep.Sep.{Sep}
use Rattle.floyd_assert_trees.specs.declared.spec.SpecTable.{SpecTable}
use Rattle.floyd_assert_trees.specs.Meanings.{value_defs}
use Rattle.floyd_assert_meaning.specs.Parts.{PartHolds, PartsHold}
use Rattle.floyd_goal.specs.declared.side_goals.Sides.{Sides}
use Rattle.floyd_goal.specs.Goals.{enriched}
use Rattle.floyd_goal.specs.Rows.{after_side}
use Rattle.floyd_goal.specs.Sides.{Side}
use Rattle.floyd_goal_truth.specs.Scopes.{AllFit}
use Rattle.floyd_goal_trees.specs.Contexts.{context_of, scope_of}
use Rattle.floyd_goal_trees.specs.declared.context.Context.{Context}
use Rattle.floyd_goal_trees.specs.declared.goal.Goal.{Goal}
use Rattle.floyd_goal_trees.specs.declared.goal.Pure.{Pure}
use Rattle.floyd_goal_forms.specs.Assertions.{PartFits, PredicatesOf}
use Rattle.floyd_goal_forms.specs.Goals.{IsWellFormed}
use Rattle.floyd_goal_meaning.specs.declared.linked.Linked.{Linked}
use Rattle.floyd_goal_meaning.specs.GoalHolds.{HoldsFor}
use Rattle.floyd_goal_meaning.specs.Links.{Has}
use Rattle.floyd_goal_meaning.specs.Programs.{Further, Places, setting}
use Rattle.floyd_goal_laws.specs.Following.{Throughout}
use Rattle.floyd_goal_laws.specs.Sides.{HoldsIfAny}
use Rattle.floyd_goal_laws.proofs.Givens.{given_more}
use Rattle.floyd_goal_laws.proofs.SideGoals.{sides_true}
use Rattle.floyd_goal_parts.specs.declared.placing.Plan.{Plan}
use Rattle.floyd_goal_parts.specs.Rows.{Answer, InPlaceUnder, IsPutUnder, PutsUnder, Sided, after_sides, put_under}
use Rattle.floyd_goal_parts.specs.Sources.{in_place, part_of, with_parts}
use Rattle.floyd_entail_soundness.proofs.Placing.{of_number, same_Ok}
use Rattle.floyd_entail_soundness.proofs.Sources.{from_other, no_existentials, of_result, part_found, parts_fit, source_put}

-- ---- side formulas

-- the side formulas that were answered with the goals behind them
pub record Answered (context : Context) (fs : List PlainFormula) (behind : List PlainFormula → List Goal) (goals : List Goal) : Type 0 where
  pub sides : Sides
  pub side : Side context fs (Ok sides)
  pub goals_are : goals ≡ after_side sides.goal (behind sides.kept)

pub sides_answered : (context : Context) (fs : List PlainFormula) (behind : List PlainFormula → List Goal) (goals : List Goal) → Sided context fs behind (Ok goals) → Answered context fs behind goals
sides_answered context fs behind goals (answer, side, e) = by answer side e
  where
    by : (a : Result Sides No) → Side context fs a → ◌≡◌ {A = Answer} (Ok goals) (after_sides behind a) → Answered context fs behind goals
    by (Ok sides) s f = record { sides = sides; side = s; goals_are = same_Ok {A = List Goal} goals (after_side sides.goal (behind sides.kept)) f }
    by (Err why) s f = absurd cc

module _ (defs : Defs) (specs : SpecTable) (n : ℕ) where
  -- the goal of the side formulas holds, and so do those behind it
  apart : (o : Option Pure) (goals : List Goal) → AllByRecursion (HoldsFor defs specs n) (after_side o goals) → HoldsIfAny defs specs n o × AllByRecursion (HoldsFor defs specs n) goals
  apart None goals h = (tt, h)
  apart (Some pure) goals h = (h.0, h.1)

  -- they are true, and those that are kept, and the goals behind hold
  pub sides_hold : (context : Context) (fs : List PlainFormula) (behind : List PlainFormula → List Goal) (goals : List Goal) → AllFit (value_defs defs) context fs → (a : Answered context fs behind goals) → AllByRecursion (HoldsFor defs specs n) goals →
      Throughout defs specs context (λ S env. AllTrue S.defs S.has_spec env fs × AllTrue S.defs S.has_spec env a.sides.kept) × AllByRecursion (HoldsFor defs specs n) (behind a.sides.kept)
  sides_hold context fs behind goals fit a h =
      let p = apart a.sides.goal (behind a.sides.kept) (subst (AllByRecursion (HoldsFor defs specs n)) a.goals_are h) in
      (sides_true defs specs n context fs a.sides fit a.side p.0, p.1)

-- ---- the commands

-- The side formulas are well formed; where they are true, what is put in place of a well-formed part holds of each heaplet
-- of which that one does.
pub record KeepsUnder (defs : Defs) (specs : SpecTable) (context : Context) (planned : Sep → Result Plan No) : Type 0 where
  pub fit : (p : Sep) (plan : Plan) → PartFits defs (scope_of context) (PredicatesOf defs (scope_of context)) p → planned p ≡ Ok plan → AllFit (value_defs defs) context plan.sides
  pub keeps : (L : Linked) (more : List Further) (place : Places) → Has L defs specs → (p : Sep) (plan : Plan) → PartFits defs (scope_of context) (PredicatesOf defs (scope_of context)) p → planned p ≡ Ok plan →
      (env : Env) (h : Heaplet) → AllTrue (setting L more place).defs (setting L more place).has_spec env plan.sides → PartHolds (setting L more place) env p h → PartsHold (setting L more place) env plan.new h

pub under_sound : (defs : Defs) (specs : SpecTable) (n : ℕ) (goal : Goal) (k : ℕ) (planned : Sep → Result Plan No) (goals : List Goal) → IsWellFormed defs specs goal → KeepsUnder defs specs (context_of goal) planned → InPlaceUnder goal k planned (Ok goals) →
    AllByRecursion (HoldsFor defs specs n) goals → HoldsFor defs specs n goal
under_sound defs specs n goal k planned goals formed keeps row h =
    let context = context_of goal in
    let found = of_result (part_of goal k) (PutsUnder goal k planned) goals row in
    let source = found.0.0 in
    let part = found.0.1 in
    let is = part_found goal k source part found.1 in
    let made = of_result (planned part) (IsPutUnder goal k source) goals found.2 in
    let plan = made.0 in
    let answered = sides_answered context plan.sides (put_under goal k source plan.new) goals made.2 in
    let scope = scope_of context in
    let fits = of_number (PartFits defs scope (PredicatesOf defs scope)) k source.parts part is.part_is (parts_fit defs specs goal source is.source_is formed) in
    let hold = sides_hold defs specs n context plan.sides (put_under goal k source plan.new) goals (keeps.fit part plan fits made.1) answered h in
    let new = with_parts source (in_place k plan.new source.parts) in
    record {
      in_each = λ L more place has apart lemmas env given.
          let S = setting L more place in
          let true' = hold.0 L more place has apart lemmas env given in
          from_other L more place defs specs n goal (enriched context answered.sides.kept) source new env is.source_is
          (λ temps g x. source_put S env source k part plan.new is.part_is (no_existentials goal source is.source_is) (λ q m. keeps.keeps L more place has part plan fits made.1 env q true'.0 m) temps g x)
          (given_more S defs env context answered.sides.kept given true'.1)
          (hold.1.0.in_each L more place has apart lemmas);
    }
