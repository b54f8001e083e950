-- A value with another item at a path.
use Rattle.std.specs.Prelude.{ℕ, Bool, true, false, List, [], ◌∷◌, bytes_eq, Option, Some, None, Result, Ok, Err, if◌then◌else◌}
use Rattle.floyd_text.specs.declared.refusal.No.{No}
use Rattle.floyd_ctypes.specs.declared.field.Field.{Field}
use Rattle.floyd_ctypes.specs.Structs.{Structs, fields_of}
use Rattle.floyd_tree_sorts.specs.declared.heads.Head.{Head}
use Rattle.floyd_tree_sorts.specs.declared.heads.Head.TheVariants as h
use Rattle.floyd_tree_sorts.specs.declared.operators.Operator.{Operator}
use Rattle.floyd_tree_sorts.specs.declared.operators.Operator.TheVariants.{Pair, Upd, Vint, Vints, Vlong, Vlongs}
use Rattle.floyd_tree_sorts.specs.declared.shape.Shape.{Shape, Struct}
use Rattle.floyd_tree.specs.declared.paths.PathStep.{PathStep}
use Rattle.floyd_tree.specs.declared.paths.PathStep.TheVariants.{Field as FieldStep, Subscript}
use Rattle.floyd_tree.specs.Plain.{Plain, At, Done, More, head_of}
use Rattle.floyd_tree.specs.Types.{SizedType}
use Rattle.floyd_fieldpath.specs.Addresses.{on_type, where_typed}
use Rattle.floyd_fieldpath.specs.Nested.{path_illegal, sized_type, type_after}
use Rattle.floyd_fieldpath.specs.Projections.{default_of, first_of, is_default, is_ints, is_longs, item, kid_under, of_fields, one, second_of}
use Rattle.floyd_fieldpath.specs.Sums.{two}
use Rattle.floyd_fieldpath.specs.Written.{written, on_ok}

-- ---- elements

abbrev pub is_int : Head → Bool
is_int (h.Operator Vint) = true
is_int head = false

abbrev pub is_long : Head → Bool
is_long (h.Operator Vlong) = true
is_long head = false

abbrev pub three : Operator → Plain → Plain → Plain → Plain
three operator a b c = At (h.Operator operator) (More a (More b (More c Done)))

-- a number and a list of numbers, where there are both
abbrev pub both : Option Plain → Option Plain → Option (Plain × Plain)
both (Some z) (Some l) = Some (z, l)
both z l = None

-- a list of numbers with another number at a subscript, as values
abbrev pub numbers_with : Operator → Plain → Plain × Plain → Result Plain No
numbers_with values i p = on_ok (written (three Upd i p.0 p.1)) (λ l. written (one values l))

abbrev pub list_with : Option (Plain × Plain) → Option (Plain × Plain) → Plain → Plain → Plain → Result Plain No
list_with (Some p) longs i v u = numbers_with Vints i p
list_with None (Some p) i v u = numbers_with Vlongs i p
list_with None None i v u = written (three Upd i u v)

-- an array's value with another element at a subscript
abbrev pub with_element : Plain → Plain → Plain → Result Plain No
with_element i v u =
    list_with (both (kid_under is_int 0 u) (kid_under is_ints 0 v)) (both (kid_under is_long 0 u) (kid_under is_longs 0 v)) i v u

-- ---- fields

abbrev pub pair : Plain → Plain → Result Plain No
pair a b = written (two Pair a b)

abbrev pub default_of_field : Structs → Field → Result Plain No
default_of_field structs f = default_of structs (sized_type f.ty)

-- the default of a field, paired with a value
abbrev pub default_and : Structs → Field → Plain → Result Plain No
default_and structs f rest = on_ok (default_of_field structs f) (λ a. pair a rest)

-- the defaults of fields from the last one back, as the pairs that are their value
abbrev pub fields_default : Structs → List Field → Result Plain No
fields_default structs [] = Err path_illegal
fields_default structs (f ∷ []) = default_of_field structs f
fields_default structs (f ∷ g ∷ more) = on_ok (fields_default structs (g ∷ more)) (default_and structs f)

-- of the value of a field and others: the first one's, what stands for that of the others, and that of the others written
-- out. A default stands for the defaults of all fields.
abbrev pub first_value : Structs → Field → Plain → Result Plain No
first_value structs f v = if is_default (head_of v) then default_of_field structs f else first_of v

abbrev pub other_values : Plain → Result Plain No
other_values v = if is_default (head_of v) then Ok v else second_of v

abbrev pub others_written : Structs → List Field → Plain → Result Plain No
others_written structs fields v = if is_default (head_of v) then fields_default structs fields else second_of v

-- the value of these fields with u for that of the first field of that name: the last field has the whole value, and only
-- the pairs on the way to the field are made anew
abbrev pub with_component : Structs → List Field → List ℕ → Plain → Plain → Result Plain No
with_component structs [] x v u = Err path_illegal
with_component structs (f ∷ []) x v u = Ok u
with_component structs (f ∷ g ∷ more) x v u =
    if bytes_eq x f.name then on_ok (others_written structs (g ∷ more) v) (λ rest. pair u rest)
    else on_ok (first_value structs f v) (λ a. on_ok (other_values v) (λ w. on_ok (with_component structs (g ∷ more) x w u) (pair a)))

-- a struct's value with another one for a field
abbrev pub with_field : Structs → Shape → List ℕ → Plain → Plain → Result Plain No
with_field structs (Struct tag) x v u = of_fields (fields_of structs tag) (λ fields. with_component structs fields x v u)
with_field structs shape x v u = Err path_illegal

-- ---- paths

-- the value with another item after a step
abbrev pub with_item : Structs → Shape → PathStep → Plain → Plain → Result Plain No
with_item structs shape (FieldStep x) v u = with_field structs shape x v u
with_item structs shape (Subscript i) v u = with_element i v u

-- the value with another item at a path: where more steps follow, the item after the first one is taken, and put back with
-- the other item in it
abbrev pub updated_at : Structs → SizedType → List PathStep → Plain → Plain → Result Plain No
updated_at structs t [] v new = Ok new
updated_at structs t (step ∷ []) v new = on_type (type_after structs t step) (λ after. with_item structs t.shape step v new)
updated_at structs t (step ∷ next ∷ path) v new =
    on_type (type_after structs t step) (λ after.
    on_ok (item structs t after step v) (λ w. on_ok (updated_at structs after (next ∷ path) w new) (λ u. with_item structs t.shape step v u)))

abbrev pub update : Structs → SizedType → List PathStep → Plain → Plain → Result Plain No
update structs t path v new = where_typed structs t path (updated_at structs t path v new)
