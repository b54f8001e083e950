use Rattle.std.proofs.Common.{◌≡◌, length}
use Rattle.floyd_link_names.specs.StructsDiffer.{same_fields}
use Rattle.floyd_link_names.proofs.structs.same_fields.Given as goal

abbrev pub decreases-fields : goal.decreases-fields
decreases-fields l = length l.left

abbrev pub invariant-fields : goal.invariant-fields
invariant-fields l = same_fields l.left l.right ≡ same_fields l.a l.b
