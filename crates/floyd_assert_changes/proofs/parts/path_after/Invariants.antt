use Rattle.std.proofs.Common.{◌≡◌, take, drop, map}
use Rattle.std.specs.List.{flat_map}
use Rattle.floyd_assert_changes.specs.Changed.{step_after, step_terms}
use Rattle.floyd_assert_changes.specs.ChangesClauses.{changes}
use Rattle.floyd_assert_changes.specs.FittingClauses.{fit_after}
use Rattle.floyd_assert_changes.proofs.parts.path_after.Given as goal

abbrev pub invariant-steps : goal.invariant-steps
invariant-steps g l = record {
  items : l.all ≡ map (step_after (changes l.changing)) (take l.place l.path);
  fits : fit_after (changes l.changing) (flat_map step_terms (drop l.place l.path)) ≡ fit_after (changes l.changing) (flat_map step_terms l.path);
}
