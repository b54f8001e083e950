-- What the sizes of a type and the steps of a path stand for, and what the terms that are answered along the path mean.
use Rattle.std.specs.Prelude.{◌≡◌, ◌<◌, ◌^◌, ◌+◌, ℕ, ℤ, true, List, map, Some, Ok}
use Rattle.floyd_int.specs.declared.kinds.Value.{Value}
use Rattle.floyd_int.specs.declared.kinds.Value.TheVariants.{Vptr}
use Rattle.floyd_clight_heap.specs.Heaplet.{Heaplet}
use Rattle.floyd_tree_sorts.specs.declared.sorts.Sort.{Sort, Val as ValSort}
use Rattle.floyd_tree.specs.declared.paths.PathStep.{PathStep}
use Rattle.floyd_tree.specs.Plain.{Plain, plains}
use Rattle.floyd_tree.specs.Types.{SizedType}
use Rattle.floyd_tree.specs.WellSorted.{sort_of}
use Rattle.floyd_tree_values.specs.BuiltIns.{Env}
use Rattle.floyd_tree_values.specs.Data.{Datum, Number, Val}
use Rattle.floyd_tree_values.specs.Defaults.{value_sort}
use Rattle.floyd_tree_values.specs.Means.{Defs, Means, AllMean}
use Rattle.floyd_tree_values.specs.Values.{ptr_add}
use Rattle.floyd_assert_cells.specs.Cells.{Cells, Located}
use Rattle.floyd_assert_cells.specs.Forms.{Form, form_of}
use Rattle.floyd_assert_cells.specs.Items.{item_at, with_at}
use Rattle.floyd_assert_cells.specs.Laws.{FocusAt}
use Rattle.floyd_assert_cells.specs.Types.{Sized, Step, is_legal, offset_at}
use Rattle.floyd_assert_meaning.specs.Parts.{PathMeans}
use Rattle.floyd_fieldpath.specs.Addresses.{address}
use Rattle.floyd_fieldpath.specs.Nested.{type_at}
use Rattle.floyd_fieldpath.specs.Projections.{project}
use Rattle.floyd_fieldpath.specs.Updates.{update}
use Rattle.floyd_fieldpath_laws.specs.Conditions.{HasSizes, IsPath}

-- the type and the path keep the condition of the calls, and these are the numbers that their sizes and subscripts are
pub record Sense (defs : Defs) (env : Env) (t : SizedType) (path : List PathStep) : Type 0 where
  pub type : Sized
  pub steps : List Step
  pub has_sizes : HasSizes t
  pub is_path : IsPath path
  pub shape : type.shape ≡ t.shape
  pub sizes : AllMean defs env (plains t.sizes) (map Number type.sizes)
  pub of_path : PathMeans defs env path steps

-- the address at a path is the pointer, moved by the offset of the path
abbrev pub AddressesArePlaces : Type 0
AddressesArePlaces =
    (defs : Defs) (env : Env) (t : SizedType) (path : List PathStep) (root a : Plain) (m : Sense defs env t path) (block offset : ℕ) (z : ℤ) →
    sort_of root ≡ Some ValSort → Means defs env root (Val (Vptr block offset)) → offset < 2 ^ 64 →
    offset_at defs.structs m.type m.steps ≡ Some z → address defs.structs t path root ≡ Ok a →
    Means defs env a (Val (ptr_add (Vptr block offset) z))

-- where a part stands at the path of an object at the root, the address at the path is the part's place
abbrev pub AddressesAreOfParts : Type 0
AddressesAreOfParts =
    (defs : Defs) (env : Env) (t : SizedType) (path : List PathStep) (root a : Plain) (m : Sense defs env t path) (r : Value) →
    sort_of root ≡ Some ValSort → Means defs env root (Val r) → (l : Located defs.structs m.type m.steps r) → address defs.structs t path root ≡ Ok a →
    Means defs env a (Val (Vptr l.block (l.offset + l.shift)))

-- the datum d is the value of v; its item at the path is the value of the item, and d with another item there that of the
-- updated value
pub record ItemsMean (defs : Defs) (env : Env) (t u : SizedType) (path : List PathStep) (steps : List Step) (f : Form) (v : Plain) (d : Datum) : Type 0 where
  pub item : (w : Plain) → project defs.structs t path v ≡ Ok w → Means defs env w (item_at steps f d)
  pub updated : (new w : Plain) (r : Sort) (e : Datum) →
      value_sort defs.structs u.shape ≡ Some r → sort_of new ≡ Some r → Means defs env new e → update defs.structs t path v new ≡ Ok w →
      Means defs env w (with_at steps f d e)

-- what a part of memory that holds a value of the type gives: the item at the path stands at the path's offset, and
-- another item may be put there; its term means that item, and the updated value's term means what the part then holds
pub record IsTaken (defs : Defs) (env : Env) (share : ℤ) (t u : SizedType) (path : List PathStep) (m : Sense defs env t path) (f : Form) (v : Plain) (d : Datum) (block offset : ℕ) (h : Heaplet) : Type 0 where
  pub place : FocusAt defs.structs share m.type m.steps f d block offset h
  pub means : ItemsMean defs env t u path m.steps f v d

abbrev pub PartsHaveItems : Type 0
PartsHaveItems =
    (defs : Defs) (env : Env) (share : ℤ) (t u : SizedType) (path : List PathStep) (m : Sense defs env t path) (v : Plain) (s : Sort) (f : Form) (d : Datum) (block offset : ℕ) (h : Heaplet) →
    type_at defs.structs t path ≡ Some u → value_sort defs.structs t.shape ≡ Some s → sort_of v ≡ Some s → Means defs env v d →
    form_of defs.structs m.type ≡ Some f → is_legal defs.structs m.type m.steps ≡ true → Cells defs.structs share m.type d block offset h →
    IsTaken defs env share t u path m f v d block offset h
