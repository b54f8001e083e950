use Rattle.std.proofs.Common.{◌≡◌, drop}
use Rattle.floyd_elab.specs.Units.{elaborate_externals as elaborate_externals_lem}
use Rattle.floyd_elab.proofs.source.elaborate_externals.Given as goal

-- what is left gives the same as all of them
abbrev pub invariant-externals : goal.invariant-externals
invariant-externals l = elaborate_externals_lem (drop l.e-index l.externals) l.file ≡ elaborate_externals_lem l.externals l.fn.file
