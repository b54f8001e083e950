use Rattle.std.proofs.Common.{◌≡◌, take, drop, map}
use Rattle.std.specs.List.{flat_map}
use Rattle.floyd_assert_changes.specs.Changed.{part_after, part_terms}
use Rattle.floyd_assert_changes.specs.ChangesClauses.{changes}
use Rattle.floyd_assert_changes.specs.FittingClauses.{fit_after}
use Rattle.floyd_assert_changes.proofs.parts.parts_after.Given as goal

abbrev pub invariant-parts : goal.invariant-parts
invariant-parts g l = record {
  items : l.all.items ≡ map (part_after (changes l.changing)) (take l.part-index l.parts);
  fits : fit_after (changes l.changing) (flat_map part_terms (drop l.part-index l.parts)) ≡ fit_after (changes l.changing) (flat_map part_terms l.parts);
}
