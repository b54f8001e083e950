-- The share of what holds an object is split, and joined again.
use Rattle.std.proofs.Common.{◌≡◌, ℕ, ◌+◌, ◌≤◌, ◌==◌, ◌&&◌, Bool, true, false, List, [], ◌∷◌, length, Option, None, Some, option_map, refl, sym, ◌∙◌, ap, ap₂, subst, arith, cond}
use Rattle.std.proofs.lemmas.Option.{same_Some}
use Rattle.floyd_memval.specs.declared.bytes.MemByte.{MemByte}
use Rattle.floyd_clight_heap.specs.Heaplet.{Cell, Heaplet, HasBytes, Joins, JoinsAt, byte_of, empty, spread}
use Rattle.floyd_clight_heap.proofs.Places.{at_place}
use Rattle.floyd_clight_heap.proofs.Spreads.{spread_has}
use Rattle.floyd_clight_heap.proofs.Sums.{exchange, left_empty, one_sum, same_cell}
use Rattle.floyd_tree_values.specs.Data.{Datum, Number, Val, Seq, Tree, Pair, listed}
use Rattle.floyd_assert_cells.specs.Forms.{Form, Single, Array, Struct, Fields, EndAt, FieldAt, form_size}
use Rattle.floyd_assert_cells.specs.Cells.{IsCell, HasExactly, ItemsAt, is_padding, FormCells, FieldCells}
use Rattle.floyd_assert_cells.proofs.FieldParts.{take_field, put_field}

-- ---- bytes

cells_join : (byte : MemByte) (l m : ℕ) (t : Bool) (g k h : Option Cell) → l + m + 2 ≤ 16 → JoinsAt g k h →
    JoinsAt (cond t (Some (record { byte = byte; less = l })) g) (cond t (Some (record { byte = byte; less = m })) k) (cond t (Some (record { byte = byte; less = l + m + 1 })) h)
cells_join byte l m true g k h fits j = (refl, fits, refl)
cells_join byte l m false g k h fits j = j

-- both shares of some bytes are the bytes with the sum
pub spreads_join : (l m : ℕ) (bytes : List MemByte) (b o : ℕ) → l + m + 2 ≤ 16 → Joins (spread l bytes b o) (spread m bytes b o) (spread (l + m + 1) bytes b o)
spreads_join l m [] b o fits = left_empty empty
spreads_join l m (byte ∷ bytes) b o fits =
    let more = spreads_join l m bytes b (o + 1) fits in
    record { at = λ x y. cells_join byte l m (at_place b o x y) (spread l bytes b (o + 1) x y) (spread m bytes b (o + 1) x y) (spread (l + m + 1) bytes b (o + 1) x y) fits (more.at x y) }

same_byte : (x y : MemByte) (g k h : Option Cell) → JoinsAt g k h → byte_of g ≡ Some x → byte_of k ≡ Some y → x ≡ y
same_byte x y None k h j e f = cc
same_byte x y (Some c) None h j e f = cc
same_byte x y (Some c) (Some d) h j e f = sym (same_Some c.byte x e) ∙ j.0 ∙ same_Some d.byte y f

-- two heaplets that have a sum have the same bytes where both have some
pub same_bytes : (xs ys : List MemByte) (b o : ℕ) (g k h : Heaplet) → Joins g k h → HasBytes g xs b o → HasBytes k ys b o → length xs ≡ length ys → xs ≡ ys
same_bytes [] [] b o g k h j w v e = refl
same_bytes [] (y ∷ ys) b o g k h j w v e = absurd (omega (arith, e))
same_bytes (x ∷ xs) [] b o g k h j w v e = absurd (omega (arith, e))
same_bytes (x ∷ xs) (y ∷ ys) b o g k h j w v e =
    ap₂ (λ z zs. z ∷ zs) (same_byte x y (g b o) (k b o) (h b o) (j.at b o) w.0 v.0) (same_bytes xs ys b (o + 1) g k h j w.1 v.1 (omega (arith, e)))

-- ---- exactly some places

abbrev with_less : ℕ → Option Cell → Option Cell
with_less l k = option_map (λ c. record { byte = c.byte; less = l }) k

abbrev pub shared : ℕ → Heaplet → Heaplet
shared l h = λ x y. with_less l (h x y)

shared_cell : (less l : ℕ) (t : Bool) (k : Option Cell) → IsCell less t k → IsCell l t (with_less l k)
shared_cell less l true None w = absurd w
shared_cell less l true (Some c) w = refl
shared_cell less l false k w = ap (with_less l) w

shared_join : (l m : ℕ) (t : Bool) (k : Option Cell) → l + m + 2 ≤ 16 → IsCell (l + m + 1) t k → JoinsAt (with_less l k) (with_less m k) k
shared_join l m true None fits w = absurd w
shared_join l m true (Some c) fits w = (refl, fits, ap Some (same_cell c (record { byte = c.byte; less = l + m + 1 }) refl w))
shared_join l m false None fits w = refl
shared_join l m false (Some c) fits w = cc

pub split_exact : (l m b : ℕ) (p : ℕ → Bool) (h : Heaplet) → l + m + 2 ≤ 16 → HasExactly (l + m + 1) b p h → Joins (shared l h) (shared m h) h × HasExactly l b p (shared l h) × HasExactly m b p (shared m h)
split_exact l m b p h fits w = (
  record { at = λ x y. shared_join l m (x == b && p y) (h x y) fits (w.at x y) },
  record { at = λ x y. shared_cell (l + m + 1) l (x == b && p y) (h x y) (w.at x y) },
  record { at = λ x y. shared_cell (l + m + 1) m (x == b && p y) (h x y) (w.at x y) },
)

joined_cell : (l m : ℕ) (t : Bool) (g k h : Option Cell) → IsCell l t g → IsCell m t k → JoinsAt g k h → IsCell (l + m + 1) t h
joined_cell l m true None k h w v j = absurd w
joined_cell l m true (Some c) None h w v j = absurd v
joined_cell l m true (Some c) (Some d) h w v j = subst (IsCell (l + m + 1) true) (sym j.2) (omega (arith, w, v))
joined_cell l m false g k h w v j =
    let e : h ≡ k = subst (λ z. JoinsAt z k h) w j in
    e ∙ v

pub join_exact : (l m b : ℕ) (p : ℕ → Bool) (g k h : Heaplet) → Joins g k h → HasExactly l b p g → HasExactly m b p k → HasExactly (l + m + 1) b p h
join_exact l m b p g k h j w v = record { at = λ x y. joined_cell l m (x == b && p y) (g x y) (k x y) (h x y) (w.at x y) (v.at x y) (j.at x y) }

-- ---- items

-- two heaplets that make h, one of each meaning
abbrev pub Halves : (Heaplet → Type 0) → (Heaplet → Type 0) → Heaplet → Type 0
Halves P Q h = (g : Heaplet) × (k : Heaplet) × Joins g k h × P g × Q k

pub split_items : (P Q R : Datum → ℕ → Heaplet → Type 0) (s : ℕ) → ((d : Datum) (o : ℕ) (h : Heaplet) → P d o h → Halves (Q d o) (R d o) h) → (ds : List Datum) (o : ℕ) (h : Heaplet) → ItemsAt P s ds o h → Halves (ItemsAt Q s ds o) (ItemsAt R s ds o) h
split_items P Q R s each [] o h w = (empty, empty, subst (Joins empty empty) (sym w) (left_empty empty), refl, refl)
split_items P Q R s each (d ∷ ds) o h w =
    let one = each d o w.0 w.3 in
    let more = split_items P Q R s each ds (o + s) w.1 w.4 in
    let x = exchange one.2 more.2 w.2 in
    (x.0, x.1, x.4, (one.0, more.0, x.2, one.3, more.3), (one.1, more.1, x.3, one.4, more.4))

pub join_items : (P Q R : Datum → ℕ → Heaplet → Type 0) (s : ℕ) → ((d : Datum) (o : ℕ) (g k h : Heaplet) → Joins g k h → Q d o g → R d o k → P d o h) → (ds : List Datum) (o : ℕ) (g k h : Heaplet) → Joins g k h → ItemsAt Q s ds o g → ItemsAt R s ds o k → ItemsAt P s ds o h
join_items P Q R s each [] o g k h j w v = one_sum j (subst (λ z. Joins z k empty) (sym w) (subst (λ z. Joins empty z empty) (sym v) (left_empty empty)))
join_items P Q R s each (d ∷ ds) o g k h j w v =
    let x = exchange w.2 v.2 j in
    (x.0, x.1, x.4, each d o w.0 v.0 x.0 x.2 w.3 v.3, join_items P Q R s each ds (o + s) w.1 v.1 x.1 x.3 w.4 v.4)

-- ---- objects

module _ (l m b : ℕ) (fits : l + m + 2 ≤ 16) where
  mutual
    pub split_cells : (f : Form) (v : Datum) (o : ℕ) (h : Heaplet) → FormCells (l + m + 1) b f v o h → Halves (FormCells l b f v o) (FormCells m b f v o) h
    split_cells (Single s) (Val v) o h c = (
      spread l c.bytes b o,
      spread m c.bytes b o,
      subst (Joins (spread l c.bytes b o) (spread m c.bytes b o)) (sym c.exact) (spreads_join l m c.bytes b o fits),
      record { bytes = c.bytes; count = c.count; exact = refl; reads = c.reads },
      record { bytes = c.bytes; count = c.count; exact = refl; reads = c.reads },
    )
    split_cells (Array f n) (Seq items) o h c =
        let s = split_items (FormCells (l + m + 1) b f) (FormCells l b f) (FormCells m b f) (form_size f) (λ d p g w. split_cells f d p g w) (listed items) o h c.1 in
        (s.0, s.1, s.2, (c.0, s.3), (c.0, s.4))
    split_cells (Struct fields) v o h c =
        let s = split_fields fields v o c.0 c.3 in
        let p = split_exact l m b (is_padding o fields) c.1 fits c.4 in
        let x = exchange s.2 p.0 c.2 in
        (x.0, x.1, x.4, (s.0, shared l c.1, x.2, s.3, p.1), (s.1, shared m c.1, x.3, s.4, p.2))
    split_cells (Single s) (Number z) o h c = absurd c
    split_cells (Single s) (Seq items) o h c = absurd c
    split_cells (Single s) (Tree t) o h c = absurd c
    split_cells (Single s) (Pair x y) o h c = absurd c
    split_cells (Array f n) (Number z) o h c = absurd c
    split_cells (Array f n) (Val v) o h c = absurd c
    split_cells (Array f n) (Tree t) o h c = absurd c
    split_cells (Array f n) (Pair x y) o h c = absurd c

    pub split_fields : (fields : Fields) (v : Datum) (o : ℕ) (h : Heaplet) → FieldCells (l + m + 1) b fields v o h → Halves (FieldCells l b fields v o) (FieldCells m b fields v o) h
    split_fields (EndAt size) v o h c = (empty, empty, subst (Joins empty empty) (sym c) (left_empty empty), refl, refl)
    split_fields (FieldAt name at f rest) v o h c =
        let t = take_field (l + m + 1) b name at f rest v o h c in
        let one = split_cells f t.first (o + at) t.here t.holds in
        let more = split_fields rest t.others o t.behind t.more in
        let x = exchange one.2 more.2 t.joins in (
          x.0,
          x.1,
          x.4,
          put_field l b name at f rest v t.first t.others o one.0 more.0 x.0 t.parts x.2 one.3 more.3,
          put_field m b name at f rest v t.first t.others o one.1 more.1 x.1 t.parts x.3 one.4 more.4,
        )

  mutual
    pub join_cells : (f : Form) (v : Datum) (o : ℕ) (g k h : Heaplet) → Joins g k h → FormCells l b f v o g → FormCells m b f v o k → FormCells (l + m + 1) b f v o h
    join_cells (Single s) (Val v) o g k h j c d =
        let same : c.bytes ≡ d.bytes = same_bytes c.bytes d.bytes b o g k h j (subst (λ z. HasBytes z c.bytes b o) (sym c.exact) (spread_has l c.bytes b o))
        (subst (λ z. HasBytes z d.bytes b o) (sym d.exact) (spread_has m d.bytes b o)) (c.count ∙ sym d.count) in
        let whole : Joins g k (spread (l + m + 1) c.bytes b o) =
        subst (λ z. Joins z k (spread (l + m + 1) c.bytes b o)) (sym c.exact)
        (subst (λ z. Joins (spread l c.bytes b o) z (spread (l + m + 1) c.bytes b o)) (sym (d.exact ∙ ap (λ bs. spread m bs b o) (sym same))) (spreads_join l m c.bytes b o fits)) in
        record { bytes = c.bytes; count = c.count; exact = one_sum j whole; reads = c.reads }
    join_cells (Array f n) (Seq items) o g k h j c d =
        (c.0, join_items (FormCells (l + m + 1) b f) (FormCells l b f) (FormCells m b f) (form_size f) (λ e p x y z i w v. join_cells f e p x y z i w v) (listed items) o g k h j c.1 d.1)
    join_cells (Struct fields) v o g k h j c d =
        let x = exchange c.2 d.2 j in
        (x.0, x.1, x.4, join_fields fields v o c.0 d.0 x.0 x.2 c.3 d.3, join_exact l m b (is_padding o fields) c.1 d.1 x.1 x.3 c.4 d.4)
    join_cells (Single s) (Number z) o g k h j c d = absurd c
    join_cells (Single s) (Seq items) o g k h j c d = absurd c
    join_cells (Single s) (Tree t) o g k h j c d = absurd c
    join_cells (Single s) (Pair x y) o g k h j c d = absurd c
    join_cells (Array f n) (Number z) o g k h j c d = absurd c
    join_cells (Array f n) (Val v) o g k h j c d = absurd c
    join_cells (Array f n) (Tree t) o g k h j c d = absurd c
    join_cells (Array f n) (Pair x y) o g k h j c d = absurd c

    pub join_fields : (fields : Fields) (v : Datum) (o : ℕ) (g k h : Heaplet) → Joins g k h → FieldCells l b fields v o g → FieldCells m b fields v o k → FieldCells (l + m + 1) b fields v o h
    join_fields (EndAt size) v o g k h j c d = one_sum j (subst (λ z. Joins z k empty) (sym c) (subst (λ z. Joins empty z empty) (sym d) (left_empty empty)))
    join_fields (FieldAt name at f rest) v o g k h j c d =
        let t = take_field l b name at f rest v o g c in
        let u = take_field m b name at f rest v o k d in
        let e : ◌≡◌ {A = Datum × Datum} (u.first, u.others) (t.first, t.others) = same_Some (u.first, u.others) (t.first, t.others) (sym u.parts ∙ t.parts) in
        let x = exchange t.joins u.joins j in
        put_field (l + m + 1) b name at f rest v t.first t.others o x.0 x.1 h t.parts x.4
        (join_cells f t.first (o + at) t.here u.here x.0 x.2 t.holds (subst (λ z. FormCells m b f z (o + at) u.here) (ap (λ (p : Datum × Datum). p.0) e) u.holds))
        (join_fields rest t.others o t.behind u.behind x.1 x.3 t.more (subst (λ z. FieldCells m b rest z o u.behind) (ap (λ (p : Datum × Datum). p.1) e) u.more))
