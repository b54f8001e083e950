use Rattle.std.proofs.Common.{◌≡◌, ◌++◌, drop, map}
use Rattle.floyd_elab.specs.Units.{struct_of as struct_of_lem}
use Rattle.floyd_elab.proofs.units.all_structs.Given as goal

abbrev pub invariant-tags : goal.invariant-tags
invariant-tags l = l.structs ++ map (struct_of_lem l.tags.structs) (drop l.tag-index l.tag-items) ≡ map (struct_of_lem l.tags.structs) l.tag-items
