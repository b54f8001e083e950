-- The address at a path: the root, moved by the sum of what each step adds.
use Rattle.std.specs.Prelude.{List, [], ◌∷◌, ℤ, pos, unwrap_or, Option, Some, None, Result, Ok, Err}
use Rattle.floyd_text.specs.declared.refusal.No.{No}
use Rattle.floyd_ctypes.specs.Structs.{Structs}
use Rattle.floyd_tree_sorts.specs.declared.shape.Shape.{Shape, Array', more_of-Shape, end_of-Shape}
use Rattle.floyd_tree.specs.declared.paths.PathStep.{PathStep}
use Rattle.floyd_tree.specs.declared.paths.PathStep.TheVariants.{Field, Subscript}
use Rattle.floyd_tree.specs.Plain.{Plain}
use Rattle.floyd_tree.specs.Types.{SizedType}
use Rattle.floyd_assert_cells.specs.Types.{dot_offset, size_by}
use Rattle.floyd_fieldpath.specs.Nested.{literal, path_illegal, type_after, type_at}
use Rattle.floyd_fieldpath.specs.Sums.{plus, times, moved}
use Rattle.floyd_fieldpath.specs.Written.{on_ok}

-- the number, or 0 where there is none, which is at no path that has a type
abbrev pub number_or_zero : Option ℤ → Plain
number_or_zero o = literal (unwrap_or o (pos 0))

-- the size of a type in bytes: of an array that of its elements times their number
abbrev pub size_term : Structs → Shape → List Plain → Result Plain No
size_term structs (Array' p (more_of-Shape element end_of-Shape)) (n ∷ sizes) = on_ok (size_term structs element sizes) (λ bytes. times bytes n)
size_term structs shape sizes = Ok (number_or_zero (size_by structs shape []))

-- the size of a type times a subscript
abbrev pub element_offset : Structs → SizedType → Plain → Result Plain No
element_offset structs element i = on_ok (size_term structs element.shape element.sizes) (λ bytes. times bytes i)

-- what a step adds: the offset of a field, or the size of an element, the type after the step, times the subscript
abbrev pub step_term : Structs → SizedType → SizedType → PathStep → Result Plain No
step_term structs t after (Field name) = Ok (number_or_zero (dot_offset structs t.shape name))
step_term structs t after (Subscript i) = element_offset structs after i

-- the sum with one more
abbrev pub with_term : Option Plain → Plain → Result Plain No
with_term None n = Ok n
with_term (Some sum) n = plus sum n

-- the sum behind a step
abbrev pub step_sum : Structs → SizedType → SizedType → PathStep → Option Plain → Result Plain No
step_sum structs t after step sum = on_ok (step_term structs t after step) (with_term sum)

abbrev pub on_type : {A : Type 0} → Option SizedType → (SizedType → Result A No) → Result A No
on_type None f = Err path_illegal
on_type (Some t) f = f t

abbrev pub or_zero : Option Plain → Result Plain No
or_zero None = Ok (literal (pos 0))
or_zero (Some sum) = Ok sum

-- the sum of what the steps of a path add, from the left, behind what was added before; of no steps it is 0
abbrev pub path_sum : Structs → SizedType → List PathStep → Option Plain → Result Plain No
path_sum structs t [] sum = or_zero sum
path_sum structs t (step ∷ path) sum =
    on_type (type_after structs t step) (λ after. on_ok (step_sum structs t after step sum) (λ more. path_sum structs after path (Some more)))

-- where the path has no type, this is refused before anything is written
abbrev pub where_typed : {A : Type 0} → Structs → SizedType → List PathStep → Result A No → Result A No
where_typed structs t path answer = on_type (type_at structs t path) (λ nested. answer)

abbrev pub address : Structs → SizedType → List PathStep → Plain → Result Plain No
address structs t path root = where_typed structs t path (on_ok (path_sum structs t path None) (moved root))
