-- Side formulas are true where their goal holds.
use Rattle.std.proofs.Common.{◌≡◌, ℕ, List, Option, Some, None, Ok, refl, sym, subst}
use Rattle.floyd_tree.specs.Formulas.{PlainFormula}
use Rattle.floyd_tree_values.specs.BuiltIns.{Env}
use Rattle.floyd_truth.specs.Truth.{AllTrue}
use Rattle.floyd_assert_trees.specs.declared.items.Defs.{Defs}
use Rattle.floyd_assert_trees.specs.declared.spec.SpecTable.{SpecTable}
use Rattle.floyd_assert_trees.specs.Meanings.{value_defs}
use Rattle.floyd_goal.specs.declared.side_goals.Sides.{Sides}
use Rattle.floyd_goal.specs.Sides.{Side}
use Rattle.floyd_goal_truth.specs.Scopes.{AllFit, scope_of}
use Rattle.floyd_goal_truth.proofs.Sides.{side_context, side_sound_at, TargetTrue}
use Rattle.floyd_goal_trees.specs.declared.context.Context.{Context}
use Rattle.floyd_goal_trees.specs.declared.goal.Pure.{Pure}
use Rattle.floyd_goal_meaning.specs.declared.linked.Linked.{Linked}
use Rattle.floyd_goal_meaning.specs.GoalHolds.{Given, LemmasAreTrue}
use Rattle.floyd_goal_meaning.specs.Links.{Has, AreApart}
use Rattle.floyd_goal_meaning.specs.Programs.{defs_of, Further, Places, setting}
use Rattle.floyd_goal_laws.specs.Following.{Throughout}
use Rattle.floyd_goal_laws.specs.Sides.{HoldsIfAny}
use Rattle.floyd_goal_laws.proofs.Givens.{given_after}
use Rattle.floyd_goal_laws.proofs.Growing.{all_fit_program}

target_true : (defs : Defs) (specs : SpecTable) (n : ℕ) (context : Context) (fs : List PlainFormula) (sides : Sides) → Side context fs (Ok sides) → (L : Linked) (more : List Further) (place : Places) → Has L defs specs → AreApart L more place → LemmasAreTrue (setting L more place) defs → (env : Env) → Given (setting L more place) defs context env → (o : Option Pure) → sides.goal ≡ o → HoldsIfAny defs specs n o → TargetTrue (defs_of L) (setting L more place).has_spec env o
target_true defs specs n context fs sides side L more place has apart lemmas env given None e h = tt
target_true defs specs n context fs sides side L more place has apart lemmas env given (Some pure) e h =
    h.in_each L more place has apart lemmas env
    (subst (λ c. Given (setting L more place) defs c env) (sym (side_context context fs sides side pure e)) (given_after (setting L more place) defs env context given))

pub sides_true : (defs : Defs) (specs : SpecTable) (n : ℕ) (context : Context) (fs : List PlainFormula) (sides : Sides) → AllFit (value_defs defs) context fs → Side context fs (Ok sides) → HoldsIfAny defs specs n sides.goal → Throughout defs specs context (λ S env. AllTrue S.defs S.has_spec env fs × AllTrue S.defs S.has_spec env sides.kept)
sides_true defs specs n context fs sides fit side h L more place has apart lemmas env given =
    side_sound_at (defs_of L) (setting L more place).has_spec context fs sides env has.rules (all_fit_program L defs specs has (scope_of context) fs fit) side given.suits given.hypotheses
    (target_true defs specs n context fs sides side L more place has apart lemmas env given sides.goal refl h)
