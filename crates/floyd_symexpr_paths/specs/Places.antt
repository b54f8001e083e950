-- Where an object is that an expression stands for: at a root, along a path of fields and subscripts.
use Rattle.std.specs.Prelude.{ℕ, List, [], ◌∷◌, ◌++◌, map, Bool, true, false, pos, Some, Result, Ok, Err, if◌then◌else◌}
use Rattle.floyd_text.specs.declared.code.Code.TheVariants.{NoPart}
use Rattle.floyd_text.specs.declared.refusal.No.{No}
use Rattle.floyd_text.specs.declared.refusal.Shown.TheVariants.{Nothing}
use Rattle.floyd_int.specs.declared.kinds.IntKind.TheVariants.{I32}
use Rattle.floyd_ctypes.specs.declared.ctype.CType.{CType, Array', Array, Struct, Function'}
use Rattle.floyd_ctypes.specs.Structs.{Structs}
use Rattle.floyd_clight.specs.declared.syntax.Binding.{Binding}
use Rattle.floyd_clight.specs.declared.syntax.Binding.TheVariants.{Block, File}
use Rattle.floyd_tree_sorts.specs.declared.heads.Head.TheVariants.{Gv, Lv}
use Rattle.floyd_tree.specs.declared.paths.PathStep.{PathStep}
use Rattle.floyd_tree.specs.declared.paths.PathStep.TheVariants.{Field, Subscript}
use Rattle.floyd_tree.specs.Formulas.{PlainFormula}
use Rattle.floyd_tree.specs.Plain.{Plain, At, Done}
use Rattle.floyd_tree.specs.Types.{SizedType}
use Rattle.floyd_fieldpath.specs.Addresses.{address}
use Rattle.floyd_fieldpath.specs.Nested.{literal, sized_type}
use Rattle.floyd_symexpr_rows.specs.declared.needs.Needs.{Needs}
use Rattle.floyd_symexpr_rows.specs.declared.needs.Number.{Number}
use Rattle.floyd_symexpr_rows.specs.Formulas.{is_pointer}
use Rattle.floyd_symexpr_rows.specs.Rows.{not_number, range, row}
use Rattle.floyd_symexpr_paths.specs.declared.lvalue.Lvalue.{Lvalue}
use Rattle.floyd_symexpr_paths.specs.declared.lvalue.Taken.{Taken}

-- what is no object has no part of memory
abbrev pub no_part : No
no_part = record { code = NoPart; shown = Nothing }

-- the whole object of a type at a root, which is a pointer's value or the address of a variable
abbrev pub object_at : Plain → Bool → CType → Lvalue
object_at root is_value t = record { root = root; is_value = is_value; whole = t; form = []; subscripts = [] }

-- the address of a variable with a block of its own, or of a variable or a function of the file
abbrev pub root_of : Binding → List ℕ → Plain
root_of Block x = At (Lv x) Done
root_of File x = At (Gv x) Done

abbrev pub variable : Binding → List ℕ → CType → Lvalue
variable binding x t = object_at (root_of binding x) false t

-- the object of a type that a pointer leads to
abbrev pub pointed : Plain → CType → Lvalue
pointed v t = object_at v true t

-- the objects of a type that a pointer leads to, as an array; its number of elements is not known, and nothing depends on it
abbrev pub elements_at : Plain → CType → Lvalue
elements_at v t = object_at v true (Array t 0)

-- a step with the type beside it: of a field that of the struct, of a subscript that of the element
abbrev pub own : PathStep → SizedType → Taken
own step t = record { step = step; ty = Some t }

-- a field of a struct
abbrev pub field : CType → List ℕ → Lvalue → Lvalue
field struct x l = record l { form = l.form ++ own (Field x) (sized_type struct) ∷ [] }

-- an element of an array
abbrev pub element : CType → Number → Lvalue → Lvalue
element t i l = record l { form = l.form ++ own (Subscript i.term) (sized_type t) ∷ []; subscripts = l.subscripts ++ i ∷ [] }

abbrev pub path_of : List Taken → List PathStep
path_of form = map (λ (t : Taken). t.step) form

-- the subscript of `*a`, which is `a[0]`
abbrev pub first : Number
first = record { kind = I32; term = literal (pos 0) }

-- each subscript is one of its kind
abbrev pub subscript_ranges : List Number → List PlainFormula
subscript_ranges [] = []
subscript_ranges (i ∷ more) = range i.kind i.term ++ subscript_ranges more

abbrev pub root_sides : Lvalue → List PlainFormula
root_sides l = if l.is_value then is_pointer l.root ∷ [] else []

-- `&lv`
abbrev pub address_row : Structs → Lvalue → Needs → Result (Plain × Needs) No
address_row structs l needs = row (address structs (sized_type l.whole) (path_of l.form) l.root) (root_sides l ++ subscript_ranges l.subscripts) needs

-- An array, a struct or a function gives its address. A number or a pointer in memory has no term: it is read by a command.
abbrev pub object_value : Structs → CType → Lvalue → Needs → Result (Plain × Needs) No
object_value structs (Array' p t n) l needs = address_row structs l needs
object_value structs (Struct tag) l needs = address_row structs l needs
object_value structs (Function' shape ps p r) l needs = address_row structs l needs
object_value structs t l needs = Err not_number
