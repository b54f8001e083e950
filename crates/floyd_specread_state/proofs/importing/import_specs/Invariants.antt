use Rattle.std.proofs.Common.{◌≡◌, drop}
use Rattle.floyd_specread_state.specs.States.{with_specs}
use Rattle.floyd_specread_state.proofs.importing.import_specs.Given as goal

abbrev pub invariant-items : goal.invariant-items
invariant-items l = with_specs (drop l.i l.items) l.state ≡ with_specs l.items l.fn.state
