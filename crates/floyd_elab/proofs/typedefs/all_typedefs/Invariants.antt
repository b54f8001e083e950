use Rattle.std.proofs.Common.{◌≡◌, drop}
use Rattle.floyd_elab.specs.Units.{all_typedefs as all_typedefs_lem}
use Rattle.floyd_elab.proofs.typedefs.all_typedefs.Given as goal

-- what is left gives the same as all of them
abbrev pub invariant-declarators : goal.invariant-declarators
invariant-declarators l = all_typedefs_lem l.specifiers l.base (drop l.d-index l.declarators) l.file ≡ all_typedefs_lem l.specifiers l.base l.declarators l.fn.file
