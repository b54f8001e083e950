use Rattle.std.proofs.Common.{◌≡◌, drop}
use Rattle.floyd_specread_state.specs.States.{with_funs}
use Rattle.floyd_specread_state.proofs.importing.import_funs.Given as goal

abbrev pub invariant-items : goal.invariant-items
invariant-items l = with_funs (drop l.i l.funs) l.state ≡ with_funs l.funs l.fn.state
