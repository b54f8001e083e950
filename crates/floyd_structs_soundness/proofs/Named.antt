-- The fields of a struct, found by their names.
use Rattle.std.proofs.Common.{◌≡◌, ℕ, Bool, true, false, List, [], ◌∷◌, Option, Some, refl, ap, ◌∙◌, bytes_eq}
use Rattle.std.specs.Prelude.{if◌then◌else◌}
use Rattle.std.specs.List.{AllByRecursion}
use Rattle.std.proofs.lemmas.Option.{same_Some}
use Rattle.std.proofs.lemmas.Slice.Eq.{bytes_eq-Decides}
use Rattle.floyd_ctypes.specs.declared.field.Field.{Field}
use Rattle.floyd_tree_values.specs.Data.{Datum, Number, Val, Seq, Tree, Pair}
use Rattle.floyd_tree_values.specs.Defaults.{undefined}
use Rattle.floyd_assert_cells.specs.Cells.{parted}
use Rattle.floyd_assert_cells.specs.Forms.{Form, Fields, EndAt, FieldAt}
use Rattle.floyd_assert_cells.specs.Items.{Found, field_in, field_value, first_part, other_part}

-- a field of the whole struct is found among its last fields
pub record Same (forms g : Fields) (d v : Datum) (x : List ℕ) : Type 0 where
  pub form : field_in forms x ≡ field_in g x
  pub value : field_value forms x d ≡ field_value g x v

pub both_parts : (rest : Fields) (v first others : Datum) → parted rest v ≡ Some (first, others) → (first_part rest v ≡ first) × (other_part rest v ≡ others)
both_parts (EndAt size) v first others e =
    let same = same_Some {A = Datum × Datum} (v, undefined) (first, others) e in
    (ap (λ (p : Datum × Datum). p.0) same, ap (λ (p : Datum × Datum). p.1) same)
both_parts (FieldAt name at f rest) (Pair a b) first others e =
    let same = same_Some {A = Datum × Datum} (a, b) (first, others) e in
    (ap (λ (p : Datum × Datum). p.0) same, ap (λ (p : Datum × Datum). p.1) same)
both_parts (FieldAt name at f rest) (Number z) first others e = absurd cc
both_parts (FieldAt name at f rest) (Val u) first others e = absurd cc
both_parts (FieldAt name at f rest) (Seq items) first others e = absurd cc
both_parts (FieldAt name at f rest) (Tree t) first others e = absurd cc

module _ (forms : Fields) (d : Datum) (name : List ℕ) (at : ℕ) (k : Form) (rest : Fields) (v : Datum) where
  abbrev found : Bool → List ℕ → Option Found
  found t x = if t then Some (record { form = k; offset = at }) else field_in rest x

  abbrev valued : Bool → List ℕ → Datum
  valued t x = if t then first_part rest v else field_value rest x (other_part rest v)

  -- the first one
  pub first_found : (x : List ℕ) → x ≡ name → Same forms (FieldAt name at k rest) d v x → (field_in forms x ≡ Some (record { form = k; offset = at })) × (field_value forms x d ≡ first_part rest v)
  first_found x e s =
      let here : bytes_eq x name ≡ true = (bytes_eq-Decides x name).1 e in
      (s.form ∙ ap (λ t. found t x) here, s.value ∙ ap (λ t. valued t x) here)

  -- the others
  pub others_found : (fs : List Field) → AllByRecursion (λ (g : Field). bytes_eq g.name name ≡ false) fs → AllByRecursion (λ (g : Field). Same forms (FieldAt name at k rest) d v g.name) fs → AllByRecursion (λ (g : Field). Same forms rest d (other_part rest v) g.name) fs
  others_found [] differ s = tt
  others_found (g ∷ fs) differ s = (
    record { form = s.0.form ∙ ap (λ t. found t g.name) differ.0; value = s.0.value ∙ ap (λ t. valued t g.name) differ.0 },
    others_found fs differ.1 s.1,
  )

pub all_same : (forms : Fields) (d : Datum) (fs : List Field) → AllByRecursion (λ (g : Field). Same forms forms d d g.name) fs
all_same forms d [] = tt
all_same forms d (g ∷ fs) = (record { form = refl; value = refl }, all_same forms d fs)
