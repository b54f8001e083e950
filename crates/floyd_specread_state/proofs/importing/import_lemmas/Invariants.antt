use Rattle.std.proofs.Common.{◌≡◌, drop}
use Rattle.floyd_specread_state.specs.States.{with_lemmas}
use Rattle.floyd_specread_state.proofs.importing.import_lemmas.Given as goal

abbrev pub invariant-items : goal.invariant-items
invariant-items l = with_lemmas (drop l.i l.lemmas) l.state ≡ with_lemmas l.lemmas l.fn.state
