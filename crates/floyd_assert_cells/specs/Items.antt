-- The item of a value at a path, and the value with another item there.
use Rattle.std.specs.Prelude.{ℕ, ◌+◌, ◌*◌, nat_lt, pos, negsuc, List, [], ◌∷◌, get_or, set, Option, None, Some, option_map, option_and_then, if◌then◌else◌, bytes_eq}
use Rattle.floyd_tree_values.specs.Data.{Datum, Pair, first_in, items_in, second_in, seq}
use Rattle.floyd_tree_values.specs.Defaults.{undefined}
use Rattle.floyd_assert_cells.specs.Types.{Step, Dot, At}
use Rattle.floyd_assert_cells.specs.Forms.{Form, Single, Array, Struct, Fields, EndAt, FieldAt, form_size}

-- the form at a path and how far it is away, in bytes
pub record Found : Type 0 where
  pub form : Form
  pub offset : ℕ

-- the first field of that name
abbrev pub field_in : Fields → List ℕ → Option Found
field_in (EndAt size) x = None
field_in (FieldAt name offset f rest) x = if bytes_eq x name then Some (record { form = f; offset = offset }) else field_in rest x

-- a step to a field, or to an element that the array has
abbrev pub step_in : Form → Step → Option Found
step_in (Single s) step = None
step_in (Array f n) (Dot x) = None
step_in (Array f n) (At (pos i)) = if nat_lt i n then Some (record { form = f; offset = form_size f * i }) else None
step_in (Array f n) (At (negsuc i)) = None
step_in (Struct fields) (Dot x) = field_in fields x
step_in (Struct fields) (At i) = None

abbrev pub further : ℕ → Found → Found
further offset g = record { form = g.form; offset = offset + g.offset }

abbrev pub form_at : Form → List Step → Option Found
form_at f [] = Some (record { form = f; offset = 0 })
form_at f (step ∷ path) = option_and_then (λ g. option_map (further g.offset) (form_at g.form path)) (step_in f step)

-- The value of the first field and that of the others: the last field has the whole value.
abbrev pub first_part : Fields → Datum → Datum
first_part (EndAt size) v = v
first_part (FieldAt name offset f rest) v = first_in v

abbrev pub other_part : Fields → Datum → Datum
other_part (EndAt size) v = undefined
other_part (FieldAt name offset f rest) v = second_in v

-- the value with another first field, and with other fields behind it
abbrev pub with_first : Fields → Datum → Datum → Datum
with_first (EndAt size) v e = e
with_first (FieldAt name offset f rest) v e = Pair e (second_in v)

abbrev pub with_others : Fields → Datum → Datum → Datum
with_others (EndAt size) v e = v
with_others (FieldAt name offset f rest) v e = Pair (first_in v) e

abbrev pub field_value : Fields → List ℕ → Datum → Datum
field_value (EndAt size) x v = undefined
field_value (FieldAt name offset f rest) x v = if bytes_eq x name then first_part rest v else field_value rest x (other_part rest v)

abbrev pub with_field : Fields → List ℕ → Datum → Datum → Datum
with_field (EndAt size) x v e = v
with_field (FieldAt name offset f rest) x v e =
    if bytes_eq x name then with_first rest v e else with_others rest v (with_field rest x (other_part rest v) e)

-- the item of a value after a step
abbrev pub item_in : Form → Step → Datum → Datum
item_in (Single s) step v = undefined
item_in (Array f n) (Dot x) v = undefined
item_in (Array f n) (At (pos i)) v = get_or (items_in v) i undefined
item_in (Array f n) (At (negsuc i)) v = undefined
item_in (Struct fields) (Dot x) v = field_value fields x v
item_in (Struct fields) (At i) v = undefined

-- the value with another item after the step
abbrev pub with_item : Form → Step → Datum → Datum → Datum
with_item (Single s) step v e = v
with_item (Array f n) (Dot x) v e = v
with_item (Array f n) (At (pos i)) v e = seq (set (items_in v) i e)
with_item (Array f n) (At (negsuc i)) v e = v
with_item (Struct fields) (Dot x) v e = with_field fields x v e
with_item (Struct fields) (At i) v e = v

-- where a step leads on, what stands there gives
abbrev pub on_step : Option Found → (Form → Datum) → Datum → Datum
on_step None f otherwise = otherwise
on_step (Some g) f otherwise = f g.form

-- the item of a value at a path
abbrev pub item_at : List Step → Form → Datum → Datum
item_at [] f v = v
item_at (step ∷ path) f v = on_step (step_in f step) (λ g. item_at path g (item_in f step v)) undefined

-- the value with another item at the path
abbrev pub with_at : List Step → Form → Datum → Datum → Datum
with_at [] f v e = e
with_at (step ∷ path) f v e = with_item f step v (on_step (step_in f step) (λ g. with_at path g (item_in f step v) e) undefined)
