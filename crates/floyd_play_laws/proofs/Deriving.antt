-- Goals from which nothing is left hold.
use Rattle.std.proofs.Common.{◌≤◌, ℕ, List, [], ◌∷◌, ◌++◌, arith}
use Rattle.std.specs.List.{AllByRecursion}
use Rattle.floyd_assert_trees.specs.declared.items.Defs.{Defs}
use Rattle.floyd_assert_trees.specs.declared.spec.SpecTable.{SpecTable}
use Rattle.floyd_assert_trees.specs.Sizes.{sum_of}
use Rattle.floyd_clight.specs.declared.unit.Local.{Local}
use Rattle.floyd_goal.specs.Stacks.{most}
use Rattle.floyd_goal_forms.specs.Goals.{IsWellFormed}
use Rattle.floyd_goal_meaning.specs.GoalHolds.{HoldsFor}
use Rattle.floyd_goal_trees.specs.declared.goal.Goal.{Goal}
use Rattle.floyd_goal_trees.specs.Sizes.{goal_size}
use Rattle.floyd_formed_pure.proofs.Contexts.{both_all}
use Rattle.floyd_play_steps.specs.Derivations.{Derives, Makes, done, step}
use Rattle.floyd_play_steps.specs.Forms.{AreWellFormed}
use Rattle.floyd_play_steps.proofs.StepLemmas.{pushed_is}
use Rattle.floyd_play_laws.specs.Laws.{AreLawful, DerivedGoalsHold, LawfulKeepForms, Meets}

apart : {A : Type 0} (P : A → Type 0) (xs ys : List A) → AllByRecursion P (xs ++ ys) → AllByRecursion P xs × AllByRecursion P ys
apart P [] ys h = (tt, h)
apart P (x ∷ xs) ys h = let p = apart P xs ys h.1 in ((h.0, p.0), p.1)

first_size : (goal : Goal) (left : List Goal) → sum_of goal_size (goal ∷ left) ≤ most → goal_size goal ≤ most
first_size goal left h = omega (arith, h)

module _ (defs : Defs) (specs : SpecTable) (blocks : List Local) (lawful : AreLawful defs specs) (n : ℕ) where
  abbrev Hold : List Goal → Type 0
  Hold goals = AllByRecursion (HoldsFor defs specs n) goals

  met : (goal : Goal) (left made : List Goal) (m : Makes defs specs blocks goal left made) → IsWellFormed defs specs goal → goal_size goal ≤ most → Meets defs specs m.command.rule goal m.args
  met goal left made m formed size = record {
    formed = formed;
    few = m.few;
    variables = m.variables;
    size = size;
    blocks = blocks;
    bytes = m.command.bytes;
    list = m.command.tokens;
    count = m.own.count;
    read = m.read;
  }

  by_step : (goal : Goal) (left made : List Goal) → Makes defs specs blocks goal left made → AreWellFormed defs specs (goal ∷ left) → sum_of goal_size (goal ∷ left) ≤ most →
      (AreWellFormed defs specs (made ++ left) → sum_of goal_size (made ++ left) ≤ most → Hold (made ++ left)) → Hold (goal ∷ left)
  by_step goal left made m formed size rest =
      let command = lawful m.command.rule in
      let meets : Meets defs specs m.command.rule goal m.args = met goal left made m formed.0 (first_size goal left size) in
      let forms : AreWellFormed defs specs made = command.forms goal m.args made meets m.row in
      let all : Hold (made ++ left) = rest (both_all (IsWellFormed defs specs) made left forms formed.1) (pushed_is made (goal ∷ left) (made ++ left) m.within).small in
      let two = apart (HoldsFor defs specs n) made left all in
      (command.sound n goal m.args made meets m.row two.0, two.1)

  pub derived_hold : {goals : List Goal} → Derives defs specs blocks goals → AreWellFormed defs specs goals → sum_of goal_size goals ≤ most → Hold goals
  derived_hold done formed size = tt
  derived_hold (step {goal} {left} made m rest) formed size = by_step goal left made m formed size (λ f s. derived_hold rest f s)

pub holding : DerivedGoalsHold
holding defs specs start lawful formed h n = derived_hold defs specs start.blocks lawful n h.derives formed (pushed_is start.goals [] start.goals h.within).small

pub keeping : LawfulKeepForms
keeping defs specs lawful blocks c goal args made own formed few variables size read row =
    (lawful c.rule).forms goal args made (record { formed = formed; few = few; variables = variables; size = size; blocks = blocks; bytes = c.bytes; list = c.tokens; count = own.count; read = read }) row
