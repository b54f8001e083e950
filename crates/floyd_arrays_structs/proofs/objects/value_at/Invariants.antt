use Rattle.std.proofs.Common.{Result, drop}
use Rattle.floyd_text.specs.declared.refusal.No.{No}
use Rattle.floyd_tree.specs.Plain.{Plain}
use Rattle.floyd_arrays_structs.specs.JoinStruct.{IsValue}
use Rattle.floyd_arrays_structs.proofs.objects.value_at.Given as goal

abbrev pub invariant-parts : goal.invariant-parts
invariant-parts l = (value : Result Plain No) → IsValue l.region (drop l.part-index l.parts) value → IsValue l.region l.parts value
