-- The item of a value at a path.
use Rattle.std.specs.Prelude.{ℕ, Bool, true, false, List, [], ◌∷◌, bytes_eq, slice_get, Option, Some, None, Result, Ok, Err, if◌then◌else◌}
use Rattle.floyd_text.specs.declared.refusal.No.{No}
use Rattle.floyd_ctypes.specs.declared.field.Field.{Field}
use Rattle.floyd_ctypes.specs.Structs.{Structs, fields_of}
use Rattle.floyd_tree_sorts.specs.declared.heads.Head.{Head}
use Rattle.floyd_tree_sorts.specs.declared.heads.Head.TheVariants as h
use Rattle.floyd_tree_sorts.specs.declared.operators.Operator.{Operator}
use Rattle.floyd_tree_sorts.specs.declared.operators.Operator.TheVariants.{Fst, Snd, Nth, Pair, Vint, Vints, Vlong, Vlongs}
use Rattle.floyd_tree_sorts.specs.declared.shape.Shape.{Shape, Struct}
use Rattle.floyd_tree_sorts.specs.declared.sorts.Sort.{Sort}
use Rattle.floyd_tree.specs.declared.paths.PathStep.{PathStep}
use Rattle.floyd_tree.specs.declared.paths.PathStep.TheVariants.{Field as FieldStep, Subscript}
use Rattle.floyd_tree.specs.Plain.{Plain, At, Done, More, head_of, kids_of}
use Rattle.floyd_tree.specs.Types.{SizedType}
use Rattle.floyd_tree_values.specs.Defaults.{value_sort}
use Rattle.floyd_fieldpath.specs.Addresses.{on_type, where_typed}
use Rattle.floyd_fieldpath.specs.DefaultTerms.{default_term}
use Rattle.floyd_fieldpath.specs.Nested.{path_illegal, type_after}
use Rattle.floyd_fieldpath.specs.Sums.{two}
use Rattle.floyd_fieldpath.specs.Written.{ill_sorted, written, on_ok}

-- what stands at the head of a value
abbrev pub is_default : Head → Bool
is_default (h.Default shape s) = true
is_default head = false

abbrev pub is_pair : Head → Bool
is_pair (h.Operator Pair) = true
is_pair head = false

abbrev pub is_ints : Head → Bool
is_ints (h.Operator Vints) = true
is_ints head = false

abbrev pub is_longs : Head → Bool
is_longs (h.Operator Vlongs) = true
is_longs head = false

-- the kid at that place, of a term with such a head
abbrev pub kid_under : (Head → Bool) → ℕ → Plain → Option Plain
kid_under test place t = if test (head_of t) then slice_get (kids_of t) place else None

abbrev pub one : Operator → Plain → Plain
one operator a = At (h.Operator operator) (More a Done)

abbrev pub or_written : Option Plain → Plain → Result Plain No
or_written None t = written t
or_written (Some part) t = Ok part

-- the components of a pair term, or else what takes them
abbrev pub first_of : Plain → Result Plain No
first_of v = or_written (kid_under is_pair 0 v) (one Fst v)

abbrev pub second_of : Plain → Result Plain No
second_of v = or_written (kid_under is_pair 1 v) (one Snd v)

-- the default of a type, which has a value sort
abbrev pub default_with : Option Sort → SizedType → Result Plain No
default_with None t = Err ill_sorted
default_with (Some s) t = written (default_term t s)

abbrev pub default_of : Structs → SizedType → Result Plain No
default_of structs t = default_with (value_sort structs t.shape) t

-- a number of a list of numbers, as a value
abbrev pub value_at : Operator → Plain → Plain → Result Plain No
value_at operator i l = on_ok (written (two Nth i l)) (λ n. written (one operator n))

abbrev pub of_list : Option Plain → Option Plain → Plain → Plain → Result Plain No
of_list (Some l) longs i v = value_at Vint i l
of_list None (Some l) i v = value_at Vlong i l
of_list None None i v = written (two Nth i v)

-- the element of an array's value at a subscript
abbrev pub element : Structs → SizedType → Plain → Plain → Result Plain No
element structs after i v =
    if is_default (head_of v) then default_of structs after else of_list (kid_under is_ints 0 v) (kid_under is_longs 0 v) i v

-- the part of the value of these fields that is the value of the first field of that name: the last field has the whole
-- value, and a default stands for the defaults of all fields
abbrev pub component : Structs → SizedType → List Field → List ℕ → Plain → Result Plain No
component structs after [] x v = Err path_illegal
component structs after (f ∷ []) x v = Ok v
component structs after (f ∷ g ∷ more) x v =
    if is_default (head_of v) then default_of structs after
    else if bytes_eq x f.name then first_of v
    else on_ok (second_of v) (component structs after (g ∷ more) x)

abbrev pub of_fields : Option (List Field) → (List Field → Result Plain No) → Result Plain No
of_fields None f = Err path_illegal
of_fields (Some fields) f = f fields

-- the field's value in a struct's
abbrev pub field_item : Structs → Shape → SizedType → List ℕ → Plain → Result Plain No
field_item structs (Struct tag) after x v =
    if is_default (head_of v) then default_of structs after else of_fields (fields_of structs tag) (λ fields. component structs after fields x v)
field_item structs shape after x v = Err path_illegal

-- the item after a step
abbrev pub item : Structs → SizedType → SizedType → PathStep → Plain → Result Plain No
item structs t after (FieldStep x) v = field_item structs t.shape after x v
item structs t after (Subscript i) v = element structs after i v

-- the item along a path
abbrev pub item_at : Structs → SizedType → List PathStep → Plain → Result Plain No
item_at structs t [] v = Ok v
item_at structs t (step ∷ path) v =
    on_type (type_after structs t step) (λ after. on_ok (item structs t after step v) (item_at structs after path))

abbrev pub project : Structs → SizedType → List PathStep → Plain → Result Plain No
project structs t path v = where_typed structs t path (item_at structs t path v)
