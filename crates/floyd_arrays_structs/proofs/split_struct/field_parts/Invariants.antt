use Rattle.std.proofs.Common.{◌≡◌, drop}
use Rattle.floyd_arrays_structs.specs.SplitStruct.{field_parts}
use Rattle.floyd_arrays_structs.specs.SplitStructClauses.{ahead}
use Rattle.floyd_arrays_structs.proofs.split_struct.field_parts.Given as goal

abbrev pub invariant-fields : goal.invariant-fields
invariant-fields g l =
    ahead l.parts (field_parts l.structs l.whole l.fn.behind (drop l.field-index l.fields)) ≡ field_parts l.structs l.whole l.fn.behind l.fields
