use Rattle.std.proofs.Common.{◌≡◌, ◌++◌, drop}
use Rattle.std.specs.List.{flat_map}
use Rattle.floyd_assert_changes.specs.Changed.{step_terms}
use Rattle.floyd_assert_terms.proofs.collecting.push_path.Given as goal

abbrev pub invariant-steps : goal.invariant-steps
invariant-steps l = l.all.items ++ flat_map step_terms (drop l.place l.path) ≡ l.initial.all.items ++ flat_map step_terms l.path
