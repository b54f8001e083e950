use Rattle.std.proofs.Common.{◌≡◌, drop}
use Rattle.floyd_specread_state.specs.States.{with_preds}
use Rattle.floyd_specread_state.proofs.importing.import_preds.Given as goal

abbrev pub invariant-items : goal.invariant-items
invariant-items l = with_preds (drop l.i l.preds) l.state ≡ with_preds l.preds l.fn.state
