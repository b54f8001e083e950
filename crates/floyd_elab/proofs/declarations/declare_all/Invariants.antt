use Rattle.std.proofs.Common.{◌≡◌, drop}
use Rattle.floyd_elab.specs.Units.{declare_all as declare_all_lem}
use Rattle.floyd_elab.proofs.declarations.declare_all.Given as goal

-- what is left gives the same as all of them
abbrev pub invariant-declarators : goal.invariant-declarators
invariant-declarators l = declare_all_lem l.external l.specifiers l.base (drop l.d-index l.declarators) l.file ≡ declare_all_lem l.external l.specifiers l.base l.declarators l.fn.file
