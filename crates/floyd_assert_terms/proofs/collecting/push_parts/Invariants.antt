use Rattle.std.proofs.Common.{◌≡◌, ◌++◌, drop}
use Rattle.std.specs.List.{flat_map}
use Rattle.floyd_assert_changes.specs.Changed.{part_terms}
use Rattle.floyd_assert_terms.proofs.collecting.push_parts.Given as goal

abbrev pub invariant-parts : goal.invariant-parts
invariant-parts l = l.all.items ++ flat_map part_terms (drop l.part-index l.parts) ≡ l.initial.all.items ++ flat_map part_terms l.parts
