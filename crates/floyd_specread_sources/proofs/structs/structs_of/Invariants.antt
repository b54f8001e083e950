use Rattle.std.proofs.Common.{◌≡◌, [], length}
use Rattle.floyd_specread_sources.specs.Sources.{StructsLie, with_structs}
use Rattle.floyd_specread_sources.proofs.structs.structs_of.Given as goal

abbrev pub decreases-structs : goal.decreases-structs
decreases-structs l = length l.rest

abbrev pub invariant-structs : goal.invariant-structs
invariant-structs l = record {
  lies : StructsLie l.rest l.structs;
  same : with_structs l.rest l.structs ≡ with_structs l.defs [];
}
