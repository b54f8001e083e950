-- The first of the fields of a struct, taken out and put back.
use Rattle.std.proofs.Common.{◌≡◌, ℕ, ◌+◌, List, Option, None, Some, IsSomeAnd, refl, sym, subst}
use Rattle.floyd_clight_heap.specs.Heaplet.{Heaplet, Joins}
use Rattle.floyd_tree_values.specs.Data.{Datum}
use Rattle.floyd_assert_cells.specs.Forms.{Form, Fields, FieldAt}
use Rattle.floyd_assert_cells.specs.Cells.{parted, FormCells, FieldCells}

-- what a value has, where there is one
pub some_and : {A : Type 0} (o : Option A) (Q : A → Type 0) → IsSomeAnd o Q → (x : A) × (o ≡ Some x) × Q x
some_and None Q q = absurd q
some_and (Some x) Q q = (x, refl, q)

pub and_some : {A : Type 0} (o : Option A) (Q : A → Type 0) (x : A) → o ≡ Some x → Q x → IsSomeAnd o Q
and_some o Q x e q = subst (λ z. IsSomeAnd z Q) (sym e) q

-- the first field and the fields behind it
pub record FirstField (less b : ℕ) (at : ℕ) (f : Form) (rest : Fields) (v : Datum) (o : ℕ) (h : Heaplet) : Type 0 where
  pub first : Datum
  pub others : Datum
  pub parts : parted rest v ≡ Some (first, others)
  pub here : Heaplet
  pub behind : Heaplet
  pub joins : Joins here behind h
  pub holds : FormCells less b f first (o + at) here
  pub more : FieldCells less b rest others o behind

abbrev Both : (less b : ℕ) → (at : ℕ) → Form → Fields → ℕ → Heaplet → Datum × Datum → Type 0
Both less b at f rest o h p = (g : Heaplet) × (k : Heaplet) × Joins g k h × FormCells less b f p.0 (o + at) g × FieldCells less b rest p.1 o k

pub take_field : (less b : ℕ) (name : List ℕ) (at : ℕ) (f : Form) (rest : Fields) (v : Datum) (o : ℕ) (h : Heaplet) → FieldCells less b (FieldAt name at f rest) v o h → FirstField less b at f rest v o h
take_field less b name at f rest v o h c =
    let p = some_and (parted rest v) (Both less b at f rest o h) c in
    record { first = p.0.0; others = p.0.1; parts = p.1; here = p.2.0; behind = p.2.1; joins = p.2.2; holds = p.2.3; more = p.2.4 }

pub put_field : (less b : ℕ) (name : List ℕ) (at : ℕ) (f : Form) (rest : Fields) (v x y : Datum) (o : ℕ) (g k h : Heaplet) → parted rest v ≡ Some (x, y) → Joins g k h → FormCells less b f x (o + at) g → FieldCells less b rest y o k → FieldCells less b (FieldAt name at f rest) v o h
put_field less b name at f rest v x y o g k h e j c d = and_some (parted rest v) (Both less b at f rest o h) (x, y) e (g, k, j, c, d)
