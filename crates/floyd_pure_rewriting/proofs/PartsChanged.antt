-- What is known where goals are made of changed parts.
use Rattle.std.proofs.Common.{◌≡◌, ◌⊎◌, inl, inr, List, [], ◌∷◌, Option, Some, None, Result, Ok, Err, refl}
use Rattle.floyd_text.specs.declared.refusal.No.{No}
use Rattle.floyd_tree.specs.Formulas.{PlainFormula}
use Rattle.floyd_assert_trees.specs.declared.assertion.Assertion.{Assertion}
use Rattle.floyd_goal_trees.specs.Contexts.{after_command}
use Rattle.floyd_goal_trees.specs.declared.goal.Entail as e
use Rattle.floyd_goal_trees.specs.declared.goal.Goal.{Goal}
use Rattle.floyd_goal_trees.specs.declared.goal.Goal.TheVariants as g
use Rattle.floyd_goal_trees.specs.declared.goal.Pure as p
use Rattle.floyd_goal_trees.specs.declared.goal.Run as r
use Rattle.floyd_pure_formulas.proofs.Rowing.{goals_are, no_goals}
use Rattle.floyd_pure_rewriting.specs.Changing.{entail_by, no_occurrence, pure_by, run_by}

-- the goals behind a command
abbrev pub run_behind : r.Run → Assertion → Goal
run_behind run source = g.Run (record run { context = after_command run.context; source = source })

abbrev pub entail_behind : e.Entail → Assertion → Assertion → Goal
entail_behind entail source target = g.Entail (record { context = after_command entail.context; source = source; target = target })

abbrev pub pure_behind : p.Pure → PlainFormula → Goal
pure_behind pure target = g.Pure (record { context = after_command pure.context; target = target })

pub record RunMade (run : r.Run) (x : Result (Option Assertion) No) (goals : List Goal) : Type 0 where
  pub source : Assertion
  pub is : x ≡ Ok (Some source)
  pub goals_are : goals ≡ run_behind run source ∷ []

pub run_made : (run : r.Run) (x : Result (Option Assertion) No) (goals : List Goal) → Ok goals ≡ run_by run x → RunMade run x goals
run_made run (Err refusal) goals row = absurd (no_goals goals refusal row)
run_made run (Ok None) goals row = absurd (no_goals goals no_occurrence row)
run_made run (Ok (Some source)) goals row = record { source = source; is = refl; goals_are = goals_are goals (run_behind run source ∷ []) row }

-- what stands in the place of an assertion: what was made of it, or itself
abbrev pub Becomes : Assertion → Result (Option Assertion) No → Assertion → Type 0
Becomes old x new = (x ≡ Ok (Some new)) ⊎ (new ≡ old)

pub record EntailMade (entail : e.Entail) (x y : Result (Option Assertion) No) (goals : List Goal) : Type 0 where
  pub source : Assertion
  pub target : Assertion
  pub source_is : Becomes entail.source x source
  pub target_is : Becomes entail.target y target
  pub goals_are : goals ≡ entail_behind entail source target ∷ []

pub entail_made : (entail : e.Entail) (x y : Result (Option Assertion) No) (goals : List Goal) → Ok goals ≡ entail_by entail x y → EntailMade entail x y goals
entail_made entail (Err refusal) y goals row = absurd (no_goals goals refusal row)
entail_made entail (Ok source) (Err refusal) goals row = absurd (no_goals goals refusal row)
entail_made entail (Ok None) (Ok None) goals row = absurd (no_goals goals no_occurrence row)
entail_made entail (Ok None) (Ok (Some target)) goals row = record {
  source = entail.source;
  target = target;
  source_is = inr refl;
  target_is = inl refl;
  goals_are = goals_are goals (entail_behind entail entail.source target ∷ []) row;
}
entail_made entail (Ok (Some source)) (Ok None) goals row = record {
  source = source;
  target = entail.target;
  source_is = inl refl;
  target_is = inr refl;
  goals_are = goals_are goals (entail_behind entail source entail.target ∷ []) row;
}
entail_made entail (Ok (Some source)) (Ok (Some target)) goals row = record {
  source = source;
  target = target;
  source_is = inl refl;
  target_is = inl refl;
  goals_are = goals_are goals (entail_behind entail source target ∷ []) row;
}

pub record PureMade (pure : p.Pure) (x : Result (Option PlainFormula) No) (goals : List Goal) : Type 0 where
  pub target : PlainFormula
  pub is : x ≡ Ok (Some target)
  pub goals_are : goals ≡ pure_behind pure target ∷ []

pub pure_made : (pure : p.Pure) (x : Result (Option PlainFormula) No) (goals : List Goal) → Ok goals ≡ pure_by pure x → PureMade pure x goals
pure_made pure (Err refusal) goals row = absurd (no_goals goals refusal row)
pure_made pure (Ok None) goals row = absurd (no_goals goals no_occurrence row)
pure_made pure (Ok (Some target)) goals row = record { target = target; is = refl; goals_are = goals_are goals (pure_behind pure target ∷ []) row }
