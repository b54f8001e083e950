use Rattle.floyd_arrays_soundness.proofs.Pieces.{pieces_stand, wholes_stand}
use Rattle.floyd_arrays_soundness.proofs.laws.pieces_of_arrays.Goals as goal

pub returns-clause-cut : goal.returns-clause-cut
returns-clause-cut c = λ structs t m n bytes b o size fits. pieces_stand structs t m n bytes b o size fits

pub returns-clause-uncut : goal.returns-clause-uncut
returns-clause-uncut c = λ structs t m n bytes b o size first second. wholes_stand structs t m n bytes b o size first second
