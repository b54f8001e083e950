use Rattle.floyd_compatible_laws.proofs.Parts.{parts_are_objects}
use Rattle.floyd_compatible_laws.proofs.laws.parts_are_objects.Goals as goal

pub returns : goal.returns
returns c = λ structs t u path block offset shift fits nested shifted. parts_are_objects structs t u path block offset shift fits nested shifted
