use Rattle.std.proofs.Common.{◌≡◌, List, ℕ, Some, subst}
use Rattle.floyd_ctypes.specs.declared.field.Field.{Field}
use Rattle.floyd_ctypes.specs.Layout.{IsLaidOut}
use Rattle.floyd_ctypes.specs.Structs.{Structs, fields_of}
use Rattle.floyd_ctypes.proofs.Tables.{all_laid_out}
use Rattle.floyd_ctypes.proofs.table.StructTable.laws.Goals as goal

pub returns : goal.returns
returns c =
    subst (λ (structs : Structs). (tag : List ℕ) (fields : List Field) → fields_of structs tag ≡ Some fields → IsLaidOut structs tag fields) c.self.view_is
    (all_laid_out c.self.inside.structs.entries c.self.invariant)
