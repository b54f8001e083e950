use Rattle.std.proofs.Common.{◌≡◌, length}
use Rattle.floyd_specread_state.specs.States.{module_named}
use Rattle.floyd_specread_state.proofs.modules.module_of.Given as goal

abbrev pub decreases-modules : goal.decreases-modules
decreases-modules l = length l.rest

abbrev pub invariant-modules : goal.invariant-modules
invariant-modules l = module_named l.name l.rest ≡ module_named l.name l.before
