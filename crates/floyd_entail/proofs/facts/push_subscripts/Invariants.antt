use Rattle.std.proofs.Common.{◌≡◌, ◌++◌, drop}
use Rattle.std.specs.List.{flat_map}
use Rattle.floyd_assert_changes.specs.Changed.{step_terms}
use Rattle.floyd_entail.proofs.facts.push_subscripts.Given as goal

abbrev pub invariant-steps : goal.invariant-steps
invariant-steps l = l.all.items ++ flat_map step_terms (drop l.place l.path) ≡ l.initial.all.items ++ flat_map step_terms l.path
