use Rattle.std.proofs.Common.{◌≡◌, take}
use Rattle.floyd_arrays_structs.proofs.around.outer_path.Given as goal

abbrev pub invariant-steps : goal.invariant-steps
invariant-steps l = l.outer ≡ take l.place l.path
