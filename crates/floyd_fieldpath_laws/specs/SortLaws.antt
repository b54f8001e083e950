-- What is answered along a path: it is refused where the path has no type, and where it has one a term of the right sort
-- is answered, unless something that is written is beyond the limits.
use Rattle.std.specs.Prelude.{◌≡◌, List, Some, None, Err}
use Rattle.floyd_ctypes.specs.Structs.{Structs}
use Rattle.floyd_tree_sorts.specs.declared.sorts.Sort.{Sort, Val}
use Rattle.floyd_tree.specs.declared.paths.PathStep.{PathStep}
use Rattle.floyd_tree.specs.Plain.{Plain}
use Rattle.floyd_tree.specs.Types.{SizedType}
use Rattle.floyd_tree.specs.WellSorted.{sort_of}
use Rattle.floyd_tree_values.specs.Defaults.{value_sort}
use Rattle.floyd_fieldpath.specs.Addresses.{address}
use Rattle.floyd_fieldpath.specs.Nested.{nested_type, path_illegal, type_at}
use Rattle.floyd_fieldpath.specs.Projections.{project}
use Rattle.floyd_fieldpath.specs.Updates.{update}
use Rattle.floyd_fieldpath_laws.specs.Conditions.{Answers, HasSizes, IsPath}

pub record IsRefused (structs : Structs) (t : SizedType) (path : List PathStep) (root v new : Plain) : Type 0 where
  pub of_type : nested_type structs t path ≡ Err path_illegal
  pub of_address : address structs t path root ≡ Err path_illegal
  pub of_item : project structs t path v ≡ Err path_illegal
  pub of_update : update structs t path v new ≡ Err path_illegal

abbrev pub UntypedPathsAreRefused : Type 0
UntypedPathsAreRefused =
    (structs : Structs) (t : SizedType) (path : List PathStep) (root v new : Plain) → type_at structs t path ≡ None → IsRefused structs t path root v new

-- the type at a path has sizes for its arrays, and a value sort if the whole type has one
pub record IsNested (structs : Structs) (u : SizedType) : Type 0 where
  pub sizes : HasSizes u
  pub sort : Sort
  pub has : value_sort structs u.shape ≡ Some sort

abbrev pub TypesHaveSorts : Type 0
TypesHaveSorts =
    (structs : Structs) (t u : SizedType) (path : List PathStep) (s : Sort) →
    HasSizes t → IsPath path → type_at structs t path ≡ Some u → value_sort structs t.shape ≡ Some s → IsNested structs u

abbrev pub AddressesAreValues : Type 0
AddressesAreValues =
    (structs : Structs) (t u : SizedType) (path : List PathStep) (root : Plain) →
    HasSizes t → IsPath path → type_at structs t path ≡ Some u → sort_of root ≡ Some Val → Answers Val (address structs t path root)

abbrev pub ItemsHaveSorts : Type 0
ItemsHaveSorts =
    (structs : Structs) (t u : SizedType) (path : List PathStep) (v : Plain) (s r : Sort) →
    HasSizes t → IsPath path → type_at structs t path ≡ Some u → value_sort structs t.shape ≡ Some s → value_sort structs u.shape ≡ Some r →
    sort_of v ≡ Some s → Answers r (project structs t path v)

abbrev pub UpdatesHaveSorts : Type 0
UpdatesHaveSorts =
    (structs : Structs) (t u : SizedType) (path : List PathStep) (v new : Plain) (s r : Sort) →
    HasSizes t → IsPath path → type_at structs t path ≡ Some u → value_sort structs t.shape ≡ Some s → value_sort structs u.shape ≡ Some r →
    sort_of v ≡ Some s → sort_of new ≡ Some r → Answers s (update structs t path v new)
