-- What has exactly the bytes of an object holds the object with the default value of its type.
use Rattle.std.proofs.Common.{◌≡◌, ℕ, zero, suc, ◌+◌, ◌*◌, ◌==◌, ◌&&◌, ◌||◌, ◌≤◌, ◌<◌, not, Bool, true, false, cond, ℤ, pos, List, [], ◌∷◌, length, replicate, Option, None, Some, ⊎_elim, inl, refl, sym, ◌∙◌, ap, subst, arith, ◌-◌, eq-eqb, eqb-true}
use Rattle.std.proofs.lemmas.Bool.{or_cases, or_left, or_right, not-true, cases_lt, both_ways}
use Rattle.std.proofs.lemmas.List.{length-replicate}
use Rattle.std.proofs.lemmas.Option.{same_Some}
use Rattle.floyd_memval.specs.declared.bytes.MemByte.{MemByte}
use Rattle.floyd_memval.specs.declared.bytes.MemByte.TheVariants.{Undef}
use Rattle.floyd_ctypes.specs.Structs.{Structs}
use Rattle.floyd_clight_memory.specs.Memory.{nth}
use Rattle.floyd_clight_memory.proofs.Places.{nth_below}
use Rattle.floyd_clight_heap.specs.Heaplet.{Cell, Heaplet, JoinsAt, Joins, empty, spread}
use Rattle.floyd_clight_heap.proofs.Spreads.{SpreadAt, one_of, nothing, spread_at}
use Rattle.floyd_tree_values.specs.Data.{Datum}
use Rattle.floyd_tree_values.specs.Defaults.{default_value}
use Rattle.floyd_assert_cells.specs.Types.{Sized, none_negative, size}
use Rattle.floyd_assert_cells.specs.Forms.{Form, Single, Array, Struct, Fields, EndAt, FieldAt, end_of, form_of, form_size}
use Rattle.floyd_assert_cells.specs.Scalars.{Scalar, scalar_size}
use Rattle.floyd_assert_cells.specs.Cells.{Cells, FieldCells, FormCells, HasExactly, IsCell, ItemsAt, in_fields, is_padding, parted, within}
use Rattle.floyd_assert_cells.proofs.DefaultCells.{default_is, fields_value, first_value, form_default, listed_data}
use Rattle.floyd_assert_cells.proofs.Exact.{chunk_fits, exact_by, in_fields_after, not_within, same_test, within_from, within_parts}
use Rattle.floyd_assert_cells.proofs.FieldParts.{and_some, put_field}
use Rattle.floyd_assert_cells.proofs.FormLaws.{has_form, size_is}
use Rattle.floyd_assert_cells.proofs.FormOrders.{IsFields, IsForm, is_form}

-- ---- the places of a test, taken out

abbrev only : ℕ → (ℕ → Bool) → Heaplet → Heaplet
only b p h = λ x y. cond (x == b && p y) (h x y) None

joins_at : (less : ℕ) (t p q : Bool) (k : Option Cell) → (p ≡ true → q ≡ true → ⊥) → IsCell less (t && (p || q)) k → JoinsAt (cond (t && p) k None) (cond (t && q) k None) k
joins_at less false p q k ne w = w
joins_at less true true true k ne w = absurd (ne refl refl)
joins_at less true true false None ne w = absurd w
joins_at less true true false (Some c) ne w = refl
joins_at less true false true k ne w = refl
joins_at less true false false k ne w = w

first_at : (less : ℕ) (t p q : Bool) (k : Option Cell) → IsCell less (t && (p || q)) k → IsCell less (t && p) (cond (t && p) k None)
first_at less false p q k w = refl
first_at less true true q k w = w
first_at less true false q k w = refl

second_at : (less : ℕ) (t p q : Bool) (k : Option Cell) → IsCell less (t && (p || q)) k → IsCell less (t && q) (cond (t && q) k None)
second_at less false p q k w = refl
second_at less true true true k w = w
second_at less true true false k w = refl
second_at less true false true k w = w
second_at less true false false k w = refl

record Split (less b : ℕ) (p q : ℕ → Bool) (h : Heaplet) : Type 0 where
  pub here : Heaplet
  pub there : Heaplet
  pub joins : Joins here there h
  pub first : HasExactly less b p here
  pub second : HasExactly less b q there

split : (less b : ℕ) (p q : ℕ → Bool) (h : Heaplet) → ((o : ℕ) → p o ≡ true → q o ≡ true → ⊥) → HasExactly less b (λ o. p o || q o) h → Split less b p q h
split less b p q h ne w = record {
  here = only b p h;
  there = only b q h;
  joins = record { at = λ x o. joins_at less (x == b) (p o) (q o) (h x o) (ne o) (w.at x o) };
  first = record { at = λ x o. first_at less (x == b) (p o) (q o) (h x o) (w.at x o) };
  second = record { at = λ x o. second_at less (x == b) (p o) (q o) (h x o) (w.at x o) };
}

cell_none : (less : ℕ) (t u : Bool) (k : Option Cell) → u ≡ false → IsCell less (t && u) k → k ≡ None
cell_none less true true k e w = absurd cc
cell_none less true false k e w = w
cell_none less false u k e w = w

-- no place at all
nothing_there : (less b : ℕ) (p : ℕ → Bool) (h : Heaplet) → ((o : ℕ) → p o ≡ false) → HasExactly less b p h → h ≡ empty
nothing_there less b p h none w = λ i x y. cell_none less (x == b) (p y) (h x y) (none y) (w.at x y) i

-- ---- scalars

abbrev byte_in : Option Cell → MemByte
byte_in None = Undef
byte_in (Some c) = c.byte

abbrev bytes_in : Heaplet → ℕ → ℕ → ℕ → List MemByte
bytes_in h b o zero = []
bytes_in h b o (suc n) = byte_in (h b o) ∷ bytes_in h b (o + 1) n

count_bytes : (h : Heaplet) (b o n : ℕ) → length (bytes_in h b o n) ≡ n
count_bytes h b o zero = refl
count_bytes h b o (suc n) = ap (λ k. suc k) (count_bytes h b (o + 1) n)

byte_is : (h : Heaplet) (b o n i : ℕ) (byte : MemByte) → nth (bytes_in h b o n) i ≡ Some byte → byte_in (h b (o + i)) ≡ byte
byte_is h b o zero i byte e = absurd cc
byte_is h b o (suc n) zero byte e =
    let place : o + 0 ≡ o = omega arith in
    ap (λ k. byte_in (h b k)) place ∙ same_Some (byte_in (h b o)) byte e
byte_is h b o (suc n) (suc i) byte e =
    let place : o + suc i ≡ (o + 1) + i = omega arith in
    ap (λ k. byte_in (h b k)) place ∙ byte_is h b (o + 1) n i byte e

cell_is : (less : ℕ) (k : Option Cell) (byte : MemByte) → IsCell less true k → byte_in k ≡ byte → k ≡ Some (record { byte = byte; less = less })
cell_is less None byte w e = absurd w
cell_is less (Some c) byte w e = ap (λ (x : MemByte). Option.Some (record { byte = x; less = c.less })) e ∙ ap (λ n. Option.Some (record { byte = byte; less = n })) w

spread_point : (less b o n : ℕ) (h : Heaplet) (x y : ℕ) (k : Option Cell) (t u : Bool) → (x == b) ≡ t → within o n y ≡ u → IsCell less (t && u) (h x y) → SpreadAt less (bytes_in h b o n) b o x y k → h x y ≡ k
spread_point less b o n h x y k true true e f w (one_of i byte p q m g) =
    cell_is less (h x y) byte w (ap (λ z. byte_in (h z y)) p ∙ ap (λ z. byte_in (h b z)) q ∙ byte_is h b o n i byte m) ∙ sym g
spread_point less b o n h x y k true false e f w (one_of i byte p q m g) =
    let l = nth_below (bytes_in h b o n) i byte m in
    let c = count_bytes h b o n in
    absurd (both_ways (within o n y) f (within_from o n y (omega (arith, q)) (omega (arith, q, l, c))))
spread_point less b o n h x y k false u e f w (one_of i byte p q m g) = absurd (both_ways (x == b) e (eq-eqb x b p))
spread_point less b o n h x y k true true e f w (nothing none g) =
    let p = within_parts o n y f in
    let c = count_bytes h b o n in
    absurd (none (y - o) (omega (arith, p.0, p.1, c)) (eqb-true x b e) (omega (arith, p.0)))
spread_point less b o n h x y k true false e f w (nothing none g) = w ∙ sym g
spread_point less b o n h x y k false u e f w (nothing none g) = w ∙ sym g

-- exactly these places are bytes spread over them
is_spread : (less b o n : ℕ) (h : Heaplet) → HasExactly less b (within o n) h → h ≡ spread less (bytes_in h b o n) b o
is_spread less b o n h w = λ i x y.
    spread_point less b o n h x y (spread less (bytes_in h b o n) b o x y) (x == b) (within o n y) refl refl (w.at x y) (spread_at less (bytes_in h b o n) b o x y) i

scalar_there : (less b : ℕ) (s : Scalar) (o : ℕ) (h : Heaplet) → HasExactly less b (within o (scalar_size s)) h → FormCells less b (Single s) (form_default (Single s)) o h
scalar_there less b s o h w = record {
  bytes = bytes_in h b o (scalar_size s);
  count = count_bytes h b o (scalar_size s) ∙ sym (chunk_fits s);
  exact = is_spread less b o (scalar_size s) h w;
  reads = inl refl;
}

-- ---- arrays

two_parts : (o s m y : ℕ) → within o (s + m) y ≡ (within o s y || within (o + s) m y)
two_parts o s m y = same_test (within o (s + m) y) (within o s y || within (o + s) m y)
    (λ e.
    let p = within_parts o (s + m) y e in
    ⊎_elim
    (λ (l : y < o + s). or_left (within o s y) (within (o + s) m y) (within_from o s y p.0 l))
    (λ (l : o + s ≤ y). or_right (within o s y) (within (o + s) m y) (within_from (o + s) m y l (omega (arith, p.1))))
    (cases_lt y (o + s)))
    (λ e. ⊎_elim
    (λ f. let p = within_parts o s y f in within_from o (s + m) y p.0 (omega (arith, p.1)))
    (λ f. let p = within_parts (o + s) m y f in within_from o (s + m) y (omega (arith, p.0)) (omega (arith, p.1)))
    (or_cases (within o s y) (within (o + s) m y) e))

items_there : (P : Datum → ℕ → Heaplet → Type 0) (less b s : ℕ) (d : Datum) → ((o : ℕ) (h : Heaplet) → HasExactly less b (within o s) h → P d o h) → (n o : ℕ) (h : Heaplet) → HasExactly less b (within o (s * n)) h → ItemsAt P s (replicate n d) o h
items_there P less b s d each zero o h w =
    nothing_there less b (within o (s * 0)) h (λ y. not_within o (s * 0) y (λ l m. omega (arith, l, m))) w
items_there P less b s d each (suc n) o h w =
    let count : s * suc n ≡ s + s * n = omega arith in
    let p = split less b (within o s) (within (o + s) (s * n)) h
    (λ y e f. let l = within_parts o s y e in let m = within_parts (o + s) (s * n) y f in omega (arith, l.1, m.0))
    (exact_by less b (within o (s * suc n)) (λ y. within o s y || within (o + s) (s * n) y) h (λ y. ap (λ k. within o k y) count ∙ two_parts o s (s * n) y) w) in
    (p.here, p.there, p.joins, each o p.here p.first, items_there P less b s d each n (o + s) p.there p.second)

-- ---- structs

either_test : (t w : Bool) → (t ≡ true → w ≡ true) → w ≡ (t || (w && not t))
either_test true w f = f refl
either_test false true f = refl
either_test false false f = refl

apart_test : (t w : Bool) → t ≡ true → (w && not t) ≡ true → ⊥
apart_test t true e f = both_ways t (not-true t f) e
apart_test t false e f = cc

fields_or_padding : (o : ℕ) (fields : Fields) (y : ℕ) → IsFields 0 fields → within o (end_of fields) y ≡ (in_fields o fields y || is_padding o fields y)
fields_or_padding o fields y w =
    either_test (in_fields o fields y) (within o (end_of fields) y)
    (λ e. let p = in_fields_after o 0 fields y w e in within_from o (end_of fields) y (omega (arith, p.0)) p.1)

first_parts : (f : Form) (rest : Fields) → parted rest (first_value (form_default f) rest (fields_value rest)) ≡ Some (form_default f, fields_value rest)
first_parts f (EndAt size) = refl
first_parts f (FieldAt name at g rest) = refl

-- ---- objects

module _ (less b : ℕ) where
  mutual
    pub object_there : (f : Form) (o : ℕ) (h : Heaplet) → IsForm f → HasExactly less b (within o (form_size f)) h → FormCells less b f (form_default f) o h
    object_there (Single s) o h k w = scalar_there less b s o h w
    object_there (Array f n) o h k w = (
      ap length (listed_data (replicate n (form_default f))) ∙ length-replicate n (form_default f),
      subst (λ ds. ItemsAt (FormCells less b f) (form_size f) ds o h) (sym (listed_data (replicate n (form_default f))))
          (items_there (FormCells less b f) less b (form_size f) (form_default f) (λ p g v. object_there f p g k v) n o h w),
    )
    object_there (Struct fields) o h k w =
        let p = split less b (in_fields o fields) (is_padding o fields) h (λ y. apart_test (in_fields o fields y) (within o (end_of fields) y))
        (exact_by less b (within o (end_of fields)) (λ y. in_fields o fields y || is_padding o fields y) h (λ y. fields_or_padding o fields y k.0) w) in
        (p.here, p.there, p.joins, fields_there fields 0 o p.here k.0 p.first, p.second)

    pub fields_there : (fields : Fields) (from o : ℕ) (h : Heaplet) → IsFields from fields → HasExactly less b (in_fields o fields) h → FieldCells less b fields (fields_value fields) o h
    fields_there (EndAt size) from o h k w = nothing_there less b (in_fields o (EndAt size)) h (λ y. refl) w
    fields_there (FieldAt name at f rest) from o h k w =
        let p = split less b (within (o + at) (form_size f)) (in_fields o rest) h
        (λ y e g. let l = within_parts (o + at) (form_size f) y e in let m = in_fields_after o (at + form_size f) rest y k.3 g in omega (arith, l.1, m.0)) w in
        put_field less b name at f rest (first_value (form_default f) rest (fields_value rest)) (form_default f) (fields_value rest) o p.here p.there h (first_parts f rest) p.joins
        (object_there f (o + at) p.here k.2 p.first)
        (fields_there rest (at + form_size f) o p.there k.3 p.second)

same_pos : (m n : ℕ) → ◌≡◌ {A = Option ℤ} (Some (pos m)) (Some (pos n)) → m ≡ n
same_pos m n e = cc

-- bytes of the whole share, as many as the type has
pub new_object : (structs : Structs) (t : Sized) (n b : ℕ) (h : Heaplet) → size structs t ≡ Some (pos n) → none_negative t.sizes ≡ true → HasExactly 15 b (within 0 n) h → Cells structs (pos 16) t (default_value structs t.shape t.sizes) b 0 h
new_object structs t n b h e s w =
    let f = has_form structs t.shape t.sizes (pos n) e s in
    let count : n ≡ form_size f.0 = same_pos n (form_size f.0) (sym e ∙ size_is structs t.shape t.sizes f.0 f.1) in (
      omega arith,
      and_some (form_of structs t) (λ g. FormCells 15 b g (default_value structs t.shape t.sizes) 0 h) f.0 f.1
          (subst (λ d. FormCells 15 b f.0 d 0 h) (sym (default_is structs t f.0 f.1))
          (object_there 15 b f.0 0 h (is_form structs t f.0 f.1) (subst (λ k. HasExactly 15 b (within 0 k) h) count w))),
    )
