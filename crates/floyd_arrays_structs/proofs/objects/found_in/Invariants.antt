use Rattle.std.proofs.Common.{Result, drop}
use Rattle.floyd_text.specs.declared.refusal.No.{No}
use Rattle.floyd_arrays_structs.specs.declared.objects.Found.{Found}
use Rattle.floyd_arrays_structs.specs.JoinStruct.{IsFound}
use Rattle.floyd_arrays_structs.specs.JoinStructClauses.{found_ahead}
use Rattle.floyd_arrays_structs.proofs.objects.found_in.Given as goal

abbrev pub invariant-fields : goal.invariant-fields
invariant-fields l =
    (answer : Result Found No) → IsFound l.region l.parts (drop l.field-index l.fields) answer → IsFound l.region l.parts l.fields (found_ahead l.found answer)
