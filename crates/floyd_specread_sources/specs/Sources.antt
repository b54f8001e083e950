-- What a source gives its specification file.
use Rattle.std.specs.Prelude.{ℕ, ◌<◌, ◌^◌, if◌then◌else◌, List, [], ◌∷◌, length, map, All, IsTrue, is_some}
use Rattle.floyd_ctypes.specs.declared.field.Field.{Field}
use Rattle.floyd_ctypes.specs.Define.{completed, declared, refusal}
use Rattle.floyd_ctypes.specs.Layout.{type_fits}
use Rattle.floyd_ctypes.specs.Structs.{Structs}
use Rattle.floyd_clight.specs.declared.unit.ClightUnit.{ClightUnit}
use Rattle.floyd_clight.specs.declared.unit.Declared.{Declared}
use Rattle.floyd_clight.specs.declared.unit.Defined.{Defined}
use Rattle.floyd_clight.specs.declared.unit.StructDef.{StructDef}
use Rattle.floyd_clight.specs.declared.unit.Variable.{Variable}
use Rattle.floyd_fieldpath.specs.Nested.{sized_type}
use Rattle.floyd_termread_scope.specs.Scopes.{Named}
use Rattle.floyd_specread_sources.specs.declared.functions.Prototype.{Prototype}
use Rattle.floyd_specread_sources.specs.Tables.{put_new}

-- ---- structs

-- with the fields of a struct that is declared, unless it is complete or a field has no size
abbrev pub with_fields : StructDef → Structs → Structs
with_fields d structs = if is_some (refusal structs d.tag d.fields) then structs else completed structs d.tag d.fields

abbrev pub with_struct : StructDef → Structs → Structs
with_struct d structs = with_fields d (declared structs d.tag)

abbrev pub with_structs : List StructDef → Structs → Structs
with_structs [] structs = structs
with_structs (d ∷ ds) structs = with_structs ds (with_struct d structs)

-- there are some fields, fewer than 2 ^ 31, and none is larger than an object may be
pub record FieldsLie (structs : Structs) (fields : List Field) : Type 0 where
  pub some : 0 < length fields
  pub few : length fields < 2 ^ 31
  pub fits : All (λ f. IsTrue (type_fits structs f.ty)) fields

abbrev pub StructLies : Structs → StructDef → Type 0
StructLies structs d = FieldsLie (declared structs d.tag) d.fields

-- as those of every source that was elaborated do
abbrev pub StructsLie : List StructDef → Structs → Type 0
StructsLie [] structs = Unit {0}
StructsLie (d ∷ ds) structs = StructLies structs d × StructsLie ds (with_struct d structs)

-- ---- functions and names

abbrev pub prototype_of : Declared → Prototype
prototype_of d = record { params = map sized_type d.parameters; result = sized_type d.result }

abbrev pub with_prototype : Declared → Named Prototype → Named Prototype
with_prototype d table = put_new d.name (prototype_of d) table

-- the types of the functions that are declared
abbrev pub with_prototypes : List Declared → Named Prototype → Named Prototype
with_prototypes [] table = table
with_prototypes (d ∷ ds) table = with_prototypes ds (with_prototype d table)

abbrev pub Names : Type 0
Names = Named (Unit {0})

abbrev pub with_variables : List Variable → Names → Names
with_variables [] names = names
with_variables (v ∷ vs) names = with_variables vs (put_new v.name tt names)

abbrev pub with_functions : List Declared → Names → Names
with_functions [] names = names
with_functions (d ∷ ds) names = with_functions ds (put_new d.name tt names)

-- the functions that have a body
abbrev pub with_bodies : List Defined → Names → Names
with_bodies [] names = names
with_bodies (d ∷ ds) names = with_bodies ds (put_new d.name tt names)

-- what `gv` may take: variables and functions that are declared
abbrev pub globals : ClightUnit → Names
globals unit = with_functions unit.declared (with_variables unit.variables [])
