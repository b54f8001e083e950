-- What holds of a part of memory at a path, where the sizes, the subscripts and the root are terms.
use Rattle.std.specs.Prelude.{◌≡◌, IsTrue, ℤ, pos, int_le, [], Some, Ok}
use Rattle.floyd_ctypes.specs.Structs.{Structs}
use Rattle.floyd_clight_heap.specs.Heaplet.{Heaplet}
use Rattle.floyd_tree_sorts.specs.declared.sorts.Sort.{Sort, Val as ValSort}
use Rattle.floyd_tree.specs.Plain.{Plain}
use Rattle.floyd_tree.specs.Types.{SizedType}
use Rattle.floyd_tree.specs.WellSorted.{sort_of}
use Rattle.floyd_tree_values.specs.BuiltIns.{Env}
use Rattle.floyd_tree_values.specs.Data.{Number}
use Rattle.floyd_tree_values.specs.Defaults.{value_sort}
use Rattle.floyd_tree_values.specs.Means.{Means}
use Rattle.floyd_assert_trees.specs.declared.sep.Region.{Region}
use Rattle.floyd_assert_meaning.specs.Parts.{ObjectHolds, ValidHolds}
use Rattle.floyd_assert_meaning.specs.Settings.{Setting}
use Rattle.floyd_fieldpath.specs.Addresses.{address, size_term}
use Rattle.floyd_fieldpath.specs.Nested.{type_at}
use Rattle.floyd_fieldpath.specs.Projections.{default_of}
use Rattle.floyd_fieldpath_laws.specs.Conditions.{HasSizes, IsPath}

-- The type has a value sort and a number for the size of each array, each subscript is a number, and the root is a value.
pub record IsPlace (structs : Structs) (r : Region) : Type 0 where
  pub sizes : HasSizes r.ty
  pub sort : Sort
  pub has : value_sort structs r.ty.shape ≡ Some sort
  pub path : IsPath r.path
  pub root : sort_of r.root ≡ Some ValSort

-- a whole object
abbrev pub whole_at : Plain → SizedType → Plain → Region
whole_at share t root = record { share = share; ty = t; path = []; root = root }

-- A part at a path of an object is a whole object of the type there, at the address there.
abbrev pub PartsAreRerooted : Type 0
PartsAreRerooted =
    (S : Setting) (env : Env) (r : Region) (u : SizedType) (value a : Plain) (h : Heaplet) → IsPlace S.defs.structs r →
    type_at S.defs.structs r.ty r.path ≡ Some u → address S.defs.structs r.ty r.path r.root ≡ Ok a →
    ObjectHolds S env r value h → ObjectHolds S env (whole_at r.share u a) value h

-- It has the default value of the type there.
abbrev pub PartsHaveDefaults : Type 0
PartsHaveDefaults =
    (S : Setting) (env : Env) (r : Region) (u : SizedType) (value d : Plain) (h : Heaplet) → IsPlace S.defs.structs r →
    type_at S.defs.structs r.ty r.path ≡ Some u → default_of S.defs.structs u ≡ Ok d →
    ObjectHolds S env r value h → ObjectHolds S env r d h

-- The address there is valid, if the type there has one byte at least.
abbrev pub PartsAreValid : Type 0
PartsAreValid =
    (S : Setting) (env : Env) (r : Region) (u : SizedType) (value a bytes : Plain) (n : ℤ) (h : Heaplet) → IsPlace S.defs.structs r →
    type_at S.defs.structs r.ty r.path ≡ Some u → address S.defs.structs r.ty r.path r.root ≡ Ok a →
    size_term S.defs.structs u.shape u.sizes ≡ Ok bytes → Means S.defs env bytes (Number n) → IsTrue (int_le (pos 1) n) →
    ObjectHolds S env r value h → ValidHolds S env a h
