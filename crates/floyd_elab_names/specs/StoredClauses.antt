-- Words of private clauses: fields whose types have a size that an object may have, and what stops the completion of a
-- struct that has such fields.
use Rattle.std.specs.Prelude.{IsTrue, IsSome, List, [], ◌∷◌}
use Rattle.floyd_ctypes.specs.declared.ctype.CType.{CType}
use Rattle.floyd_ctypes.specs.declared.define.DefineStop.{DefineStop}
use Rattle.floyd_ctypes.specs.declared.define.DefineStop.TheVariants.{Again}
use Rattle.floyd_ctypes.specs.declared.field.Field.{Field}
use Rattle.floyd_ctypes.specs.Layout.{layout, type_fits}
use Rattle.floyd_ctypes.specs.Structs.{Structs}
use Rattle.floyd_text.specs.declared.refusal.Halt.{Halt}
use Rattle.floyd_text.specs.declared.refusal.Halt.TheVariants.{Refused, Memory}
use Rattle.floyd_cparse_trees.specs.declared.types.Identifier.{Identifier}
use Rattle.floyd_elab_names.specs.Refusals.{redeclared}

abbrev pub IsStored : Structs → CType → Type 0
IsStored structs t = IsTrue (type_fits structs t) × IsSome (layout structs t)

abbrev pub AllStored : Structs → List Field → Type 0
AllStored structs [] = Unit {0}
AllStored structs (f ∷ fs) = IsStored structs f.ty × AllStored structs fs

abbrev pub halt_at : Identifier → DefineStop → Halt
halt_at tag Again = Refused (redeclared tag)
halt_at tag stop = Memory
