use Rattle.std.proofs.Common.{◌≡◌, ◌++◌, take}
use Rattle.std.specs.Prelude.{flat_map}
use Rattle.floyd_clight.specs.Flat.{flat}
use Rattle.floyd_clight.proofs.flatten.+flat_onto.Given as goal

abbrev pub invariant-parts : goal.invariant-parts
invariant-parts l = l.all ≡ l.initial.all ++ flat_map flat (take l.part-index l.part-items)
