-- What the parts of an update answer.
use Rattle.std.specs.Prelude.{ℕ, List, [], ◌∷◌, ◌++◌, bytes_eq, Option, Some, None, Result, Ok, Err, if◌then◌else◌}
use Rattle.floyd_text.specs.declared.refusal.No.{No}
use Rattle.floyd_ctypes.specs.declared.field.Field.{Field}
use Rattle.floyd_ctypes.specs.Structs.{Structs}
use Rattle.floyd_tree_sorts.specs.declared.shape.Shape.{Shape}
use Rattle.floyd_tree.specs.declared.paths.PathStep.{PathStep}
use Rattle.floyd_tree.specs.Plain.{Plain}
use Rattle.floyd_tree.specs.Types.{SizedType}
use Rattle.floyd_fieldpath.specs.declared.fields.Others.{Others}
use Rattle.floyd_fieldpath.specs.declared.updates.Level.{Level}
use Rattle.floyd_fieldpath.specs.Addresses.{on_type}
use Rattle.floyd_fieldpath.specs.Nested.{path_illegal, type_after}
use Rattle.floyd_fieldpath.specs.Projections.{item}
use Rattle.floyd_fieldpath.specs.Updates.{first_value, other_values, others_written, pair, with_item}
use Rattle.floyd_fieldpath.specs.Written.{on_ok}

-- ---- fields

abbrev pub beside : List Plain → Option Plain → Others
beside before behind = record { before = before; behind = behind }

-- with one more before them
abbrev pub behind_one : Plain → Others → Result Others No
behind_one a o = Ok (beside (a ∷ o.before) o.behind)

-- the values of the fields beside the first one of that name
abbrev pub others : Structs → List Field → List ℕ → Plain → Result Others No
others structs [] x v = Err path_illegal
others structs (f ∷ []) x v = Ok (beside [] None)
others structs (f ∷ g ∷ more) x v =
    if bytes_eq x f.name then on_ok (others_written structs (g ∷ more) v) (λ rest. Ok (beside [] (Some rest)))
    else on_ok (first_value structs f v) (λ a. on_ok (other_values v) (λ w. on_ok (others structs (g ∷ more) x w) (behind_one a)))

-- a value, paired with what stands behind it
abbrev pub with_behind : Option Plain → Plain → Result Plain No
with_behind None u = Ok u
with_behind (Some rest) u = pair u rest

-- a value that each item changes, from the last one back
abbrev pub from_last : {A : Type 0} → (A → Plain → Result Plain No) → List A → Plain → Result Plain No
from_last change [] u = Ok u
from_last change (a ∷ items) u = on_ok (from_last change items u) (change a)

-- a value, paired with what stands before it
abbrev pub with_before : List Plain → Plain → Result Plain No
with_before before u = from_last pair before u

abbrev pub with_others : Others → Plain → Result Plain No
with_others o u = on_ok (with_behind o.behind u) (with_before o.before)

-- ---- paths

abbrev pub level : Shape → PathStep → Plain → Level
level shape step v = record { shape = shape; step = step; value = v }

-- with one level around them
abbrev pub inside_one : Level → List Level → Result (List Level) No
inside_one l ls = Ok (l ∷ ls)

-- the levels of a value along a path, from the outermost one in
abbrev pub levels : Structs → SizedType → List PathStep → Plain → Result (List Level) No
levels structs t [] v = Ok []
levels structs t (step ∷ []) v = on_type (type_after structs t step) (λ after. Ok (level t.shape step v ∷ []))
levels structs t (step ∷ next ∷ path) v =
    on_type (type_after structs t step) (λ after.
    on_ok (item structs t after step v) (λ w. on_ok (levels structs after (next ∷ path) w) (inside_one (level t.shape step v))))

abbrev pub around : Structs → Level → Plain → Result Plain No
around structs l u = with_item structs l.shape l.step l.value u

-- a value with its levels around it, from the innermost one out
abbrev pub within_levels : Structs → List Level → Plain → Result Plain No
within_levels structs ls u = from_last (around structs) ls u
