use Rattle.std.proofs.Common.{take}
use Rattle.floyd_assert.specs.Removal.{Lacks}
use Rattle.floyd_arrays_structs.proofs.objects.lacks.Given as goal

abbrev pub invariant-parts : goal.invariant-parts
invariant-parts l = Lacks l.part (take l.other-index l.parts)
