-- A heaplet that holds an object has exactly the object's bytes.
use Rattle.std.proofs.Common.{◌≡◌, ℕ, ◌+◌, ◌-◌, ◌*◌, ◌≤◌, ◌<◌, ◌==◌, ◌&&◌, ◌||◌, not, nat_le, nat_lt, Bool, true, false, List, [], ◌∷◌, length, Option, None, Some, ⊎_elim, refl, sym, ◌∙◌, ap, subst, arith, leb-true, ltb-true, le-leb, lt-ltb, eqb-true, eq-eqb}
use Rattle.std.proofs.lemmas.Bool.{and_parts, and_from, or_cases, or_left, or_right, not-true, false_from_ne_true, cases_lt, both_ways}
use Rattle.floyd_memval.specs.declared.bytes.MemByte.{MemByte}
use Rattle.floyd_memval.specs.Chunks.{chunk_size}
use Rattle.floyd_int.specs.declared.kinds.IntKind.{IntKind}
use Rattle.floyd_int.specs.declared.kinds.IntKind.TheVariants.{I8, U8, I16, U16, I32, U32, I64, U64}
use Rattle.floyd_clight_heap.specs.Heaplet.{Cell, Heaplet, JoinsAt, Joins, empty, spread}
use Rattle.floyd_clight_memory.proofs.Places.{nth_below}
use Rattle.floyd_clight_heap.proofs.Spreads.{SpreadAt, one_of, nothing, spread_at}
use Rattle.floyd_tree_values.specs.Data.{Datum, Number, Val, Seq, Tree, Pair, listed}
use Rattle.floyd_assert_cells.specs.Scalars.{Scalar, Integer, Address, chunk, scalar_size}
use Rattle.floyd_assert_cells.specs.Forms.{Form, Single, Array, Struct, Fields, EndAt, FieldAt, end_of, form_size}
use Rattle.floyd_assert_cells.specs.Cells.{IsCell, HasExactly, within, in_fields, is_padding, ItemsAt, FormCells, FieldCells}
use Rattle.floyd_assert_cells.proofs.FieldParts.{take_field}
use Rattle.floyd_assert_cells.proofs.FormOrders.{IsForm, IsFields}

-- ---- tests of places

pub same_test : (p q : Bool) → (p ≡ true → q ≡ true) → (q ≡ true → p ≡ true) → p ≡ q
same_test true q f g = sym (f refl)
same_test false true f g = g refl
same_test false false f g = refl

pub within_parts : (from n o : ℕ) → within from n o ≡ true → (from ≤ o) × (o < from + n)
within_parts from n o e =
    let p = and_parts (nat_le from o) (nat_lt o (from + n)) e in
    (leb-true from o p.0, ltb-true o (from + n) p.1)

pub within_from : (from n o : ℕ) → from ≤ o → o < from + n → within from n o ≡ true
within_from from n o l m = and_from (nat_le from o) (nat_lt o (from + n)) (le-leb from o l) (lt-ltb o (from + n) m)

pub not_within : (from n o : ℕ) → (from ≤ o → o < from + n → ⊥) → within from n o ≡ false
not_within from n o ne = false_from_ne_true (within from n o) (λ e. let p = within_parts from n o e in ne p.0 p.1)

-- ---- exactly the places of a test

cell_some : (less : ℕ) (k : Option Cell) → IsCell less true k → (c : Cell) × (k ≡ Some c) × (c.less ≡ less)
cell_some less None w = absurd w
cell_some less (Some c) w = (c, refl, w)

cell_joined : (less : ℕ) (t p q : Bool) (g k h : Option Cell) → (p ≡ true → q ≡ true → ⊥) → IsCell less (t && p) g → IsCell less (t && q) k → JoinsAt g k h → IsCell less (t && (p || q)) h
cell_joined less false p q g k h apart w v j =
    let e : h ≡ k = subst (λ z. JoinsAt z k h) w j in
    e ∙ v
cell_joined less true true true g k h apart w v j = absurd (apart refl refl)
cell_joined less true true false None k h apart w v j = absurd w
cell_joined less true true false (Some c) k h apart w v j =
    let e : h ≡ Some c = subst (λ z. JoinsAt (Some c) z h) v j in
    subst (IsCell less true) (sym e) w
cell_joined less true false q g k h apart w v j =
    let e : h ≡ k = subst (λ z. JoinsAt z k h) w j in
    subst (IsCell less q) (sym e) v

-- a sum has the places of both
pub exact_sum : (less b : ℕ) (p q : ℕ → Bool) (g k h : Heaplet) → Joins g k h → ((o : ℕ) → p o ≡ true → q o ≡ true → ⊥) → HasExactly less b p g → HasExactly less b q k → HasExactly less b (λ o. p o || q o) h
exact_sum less b p q g k h j apart w v =
    record { at = λ x o. cell_joined less (x == b) (p o) (q o) (g x o) (k x o) (h x o) (apart o) (w.at x o) (v.at x o) (j.at x o) }

-- the test may be said in other words
pub exact_by : (less b : ℕ) (p q : ℕ → Bool) (h : Heaplet) → ((o : ℕ) → p o ≡ q o) → HasExactly less b p h → HasExactly less b q h
exact_by less b p q h same w = record { at = λ x o. subst (λ t. IsCell less (x == b && t) (h x o)) (same o) (w.at x o) }

exact_none : (less b : ℕ) (t : Bool) → IsCell less (t && false) None
exact_none less b true = refl
exact_none less b false = refl

pub exact_empty : (less b : ℕ) (p : ℕ → Bool) → ((o : ℕ) → p o ≡ false) → HasExactly less b p empty
exact_empty less b p none = record { at = λ x o. subst (λ t. IsCell less (x == b && t) None) (sym (none o)) (exact_none less b (x == b)) }

-- ---- bytes

spread_cell : (less : ℕ) (bytes : List MemByte) (b o x y : ℕ) (k : Option Cell) (t u : Bool) → (x == b) ≡ t → within o (length bytes) y ≡ u → SpreadAt less bytes b o x y k → IsCell less (t && u) k
spread_cell less bytes b o x y k true true e f (one_of i byte p q n g) = subst (IsCell less true) (sym g) refl
spread_cell less bytes b o x y k true false e f (one_of i byte p q n g) =
    let l = nth_below bytes i byte n in
    absurd (both_ways (within o (length bytes) y) f (within_from o (length bytes) y (omega (arith, q)) (omega (arith, q, l))))
spread_cell less bytes b o x y k false u e f (one_of i byte p q n g) = absurd (both_ways (x == b) e (eq-eqb x b p))
spread_cell less bytes b o x y k true true e f (nothing none g) =
    let p = within_parts o (length bytes) y f in
    absurd (none (y - o) (omega (arith, p.0, p.1)) (eqb-true x b e) (omega (arith, p.0)))
spread_cell less bytes b o x y k true false e f (nothing none g) = g
spread_cell less bytes b o x y k false u e f (nothing none g) = g

pub spread_exact : (less b : ℕ) (bytes : List MemByte) (o : ℕ) → HasExactly less b (within o (length bytes)) (spread less bytes b o)
spread_exact less b bytes o = record { at = λ x y. spread_cell less bytes b o x y (spread less bytes b o x y) (x == b) (within o (length bytes) y) refl refl (spread_at less bytes b o x y) }

kind_chunk_size : (k : IntKind) → chunk_size (chunk (Integer k)) ≡ scalar_size (Integer k)
kind_chunk_size I8 = refl
kind_chunk_size U8 = refl
kind_chunk_size I16 = refl
kind_chunk_size U16 = refl
kind_chunk_size I32 = refl
kind_chunk_size U32 = refl
kind_chunk_size I64 = refl
kind_chunk_size U64 = refl

pub chunk_fits : (s : Scalar) → chunk_size (chunk s) ≡ scalar_size s
chunk_fits (Integer k) = kind_chunk_size k
chunk_fits Address = refl

-- ---- items

none_in_nothing : (from o : ℕ) → within from 0 o ≡ false
none_in_nothing from o = not_within from 0 o (λ l m. omega (arith, l, m))

pub items_exact : (P : Datum → ℕ → Heaplet → Type 0) (less b s : ℕ) → ((d : Datum) (o : ℕ) (h : Heaplet) → P d o h → HasExactly less b (within o s) h) → (ds : List Datum) (o : ℕ) (h : Heaplet) → ItemsAt P s ds o h → HasExactly less b (within o (s * length ds)) h
items_exact P less b s each [] o h w =
    subst (HasExactly less b (within o (s * 0))) (sym w)
    (exact_empty less b (within o (s * 0)) (λ y. ap (λ n. within o n y) (omega arith) ∙ none_in_nothing o y))
items_exact P less b s each (d ∷ ds) o h w =
    let n = s * length ds in
    let size : s * length (d ∷ ds) ≡ s + n = omega arith in
    exact_by less b (λ y. within o s y || within (o + s) n y) (within o (s * length (d ∷ ds))) h
    (λ y. same_test (within o s y || within (o + s) n y) (within o (s * length (d ∷ ds)) y)
    (λ e. ⊎_elim
    (λ f. let p = within_parts o s y f in within_from o (s * length (d ∷ ds)) y p.0 (omega (arith, p.1, size)))
    (λ f. let p = within_parts (o + s) n y f in within_from o (s * length (d ∷ ds)) y (omega (arith, p.0)) (omega (arith, p.1, size)))
    (or_cases (within o s y) (within (o + s) n y) e))
    (λ e. in_one o s n y (s * length (d ∷ ds)) size (within_parts o (s * length (d ∷ ds)) y e)))
    (exact_sum less b (within o s) (within (o + s) n) w.0 w.1 h w.2
    (λ y e f. let p = within_parts o s y e in let q = within_parts (o + s) n y f in omega (arith, p.1, q.0))
    (each d o w.0 w.3) (items_exact P less b s each ds (o + s) w.1 w.4))
  where
    in_one : (o s n y m : ℕ) → m ≡ s + n → (o ≤ y) × (y < o + m) → (within o s y || within (o + s) n y) ≡ true
    in_one o s n y m e p = ⊎_elim
        (λ (l : y < o + s). or_left (within o s y) (within (o + s) n y) (within_from o s y p.0 l))
        (λ (l : o + s ≤ y). or_right (within o s y) (within (o + s) n y) (within_from (o + s) n y l (omega (arith, p.1, e))))
        (cases_lt y (o + s))

-- ---- fields

-- the places of fields that are in order are behind what ends there, and before the end
pub in_fields_after : (o from : ℕ) (fields : Fields) (y : ℕ) → IsFields from fields → in_fields o fields y ≡ true → (o + from ≤ y) × (y < o + end_of fields)
in_fields_after o from (EndAt size) y w e = cc
in_fields_after o from (FieldAt name at f rest) y w e = ⊎_elim
    (λ g. let p = within_parts (o + at) (form_size f) y g in
    let l = ends_after (at + form_size f) rest w.3 in
    (omega (arith, p.0, w.0), omega (arith, p.1, l)))
    (λ g. let p = in_fields_after o (at + form_size f) rest y w.3 g in
    (omega (arith, p.0, w.0), p.1))
    (or_cases (within (o + at) (form_size f) y) (in_fields o rest y) e)
  where
    ends_after : (from : ℕ) (fields : Fields) → IsFields from fields → from ≤ end_of fields
    ends_after from (EndAt size) w = w
    ends_after from (FieldAt name at f rest) w =
        let l = ends_after (at + form_size f) rest w.3 in
        omega (arith, w.0, l)

either_test : (t w : Bool) → (t ≡ true → w ≡ true) → (t || (w && not t)) ≡ w
either_test true w f = sym (f refl)
either_test false true f = refl
either_test false false f = refl

apart_test : (t w : Bool) → t ≡ true → (w && not t) ≡ true → ⊥
apart_test t true e f = both_ways t (not-true t f) e
apart_test t false e f = cc

-- the fields and the padding are the whole struct
struct_test : (o : ℕ) (fields : Fields) (y : ℕ) → IsFields 0 fields → (in_fields o fields y || is_padding o fields y) ≡ within o (end_of fields) y
struct_test o fields y w =
    either_test (in_fields o fields y) (within o (end_of fields) y)
    (λ e. let p = in_fields_after o 0 fields y w e in within_from o (end_of fields) y (omega (arith, p.0)) p.1)

-- ---- objects

module _ (less b : ℕ) where
  mutual
    pub cells_exact : (f : Form) (v : Datum) (o : ℕ) (h : Heaplet) → IsForm f → FormCells less b f v o h → HasExactly less b (within o (form_size f)) h
    cells_exact (Single s) (Val v) o h w c =
        subst (λ n. HasExactly less b (within o n) h) (c.count ∙ chunk_fits s)
        (subst (HasExactly less b (within o (length c.bytes))) (sym c.exact) (spread_exact less b c.bytes o))
    cells_exact (Array f n) (Seq items) o h w c =
        subst (λ m. HasExactly less b (within o (form_size f * m)) h) c.0
        (items_exact (FormCells less b f) less b (form_size f) (λ d p g x. cells_exact f d p g w x) (listed items) o h c.1)
    cells_exact (Struct fields) v o h w c =
        exact_by less b (λ y. in_fields o fields y || is_padding o fields y) (within o (end_of fields)) h (λ y. struct_test o fields y w.0)
        (exact_sum less b (in_fields o fields) (is_padding o fields) c.0 c.1 h c.2 (λ y. apart_test (in_fields o fields y) (within o (end_of fields) y))
        (fields_exact fields v 0 o c.0 w.0 c.3) c.4)
    cells_exact (Single s) (Number z) o h w c = absurd c
    cells_exact (Single s) (Seq items) o h w c = absurd c
    cells_exact (Single s) (Tree t) o h w c = absurd c
    cells_exact (Single s) (Pair x y) o h w c = absurd c
    cells_exact (Array f n) (Number z) o h w c = absurd c
    cells_exact (Array f n) (Val v) o h w c = absurd c
    cells_exact (Array f n) (Tree t) o h w c = absurd c
    cells_exact (Array f n) (Pair x y) o h w c = absurd c

    pub fields_exact : (fields : Fields) (v : Datum) (from o : ℕ) (h : Heaplet) → IsFields from fields → FieldCells less b fields v o h → HasExactly less b (in_fields o fields) h
    fields_exact (EndAt size) v from o h w c = subst (HasExactly less b (in_fields o (EndAt size))) (sym c) (exact_empty less b (in_fields o (EndAt size)) (λ y. refl))
    fields_exact (FieldAt name at f rest) v from o h w c =
        let t = take_field less b name at f rest v o h c in
        exact_sum less b (within (o + at) (form_size f)) (in_fields o rest) t.here t.behind h t.joins
        (λ y e g. let p = within_parts (o + at) (form_size f) y e in let q = in_fields_after o (at + form_size f) rest y w.3 g in omega (arith, p.1, q.0))
        (cells_exact f t.first (o + at) t.here w.2 t.holds)
        (fields_exact rest t.others (at + form_size f) o t.behind w.3 t.more)
