-- Arrays are cut before an item, and joined again.
use Rattle.std.proofs.Common.{◌≡◌, ℕ, ◌+◌, ◌*◌, ◌-◌, List, [], ◌∷◌, ◌++◌, length, take, drop, length-append, length-drop, refl, sym, ◌∙◌, ap, subst, arith}
use Rattle.std.proofs.lemmas.List.{take-append-drop, length-take-le}
use Rattle.floyd_clight_heap.specs.Heaplet.{Heaplet, Joins, empty}
use Rattle.floyd_clight_heap.proofs.Sums.{assoc, assoc_back, left_empty, one_sum}
use Rattle.floyd_tree_values.specs.Data.{Datum, Number, Val, Seq, Tree, Pair, items_in, listed, seq}
use Rattle.floyd_assert_cells.specs.Forms.{Form, Array, form_size}
use Rattle.floyd_assert_cells.specs.Cells.{ItemsAt, FormCells}
use Rattle.floyd_assert_cells.proofs.DefaultCells.{listed_data}
use Rattle.floyd_assert_cells.proofs.SplitShares.{Halves}

-- items are cut between two lists
pub cut : (P : Datum → ℕ → Heaplet → Type 0) (s : ℕ) (xs ys : List Datum) (o : ℕ) (h : Heaplet) → ItemsAt P s (xs ++ ys) o h → Halves (ItemsAt P s xs o) (ItemsAt P s ys (o + s * length xs)) h
cut P s [] ys o h w =
    let place : o ≡ o + s * 0 = omega arith in
    (empty, h, left_empty h, refl, subst (λ n. ItemsAt P s ys n h) place w)
cut P s (x ∷ xs) ys o h w =
    let r = cut P s xs ys (o + s) w.1 w.4 in
    let b = assoc_back r.2 w.2 in
    let place : (o + s) + s * length xs ≡ o + s * length (x ∷ xs) = omega arith in
    (b.0, r.1, b.2, (w.0, r.0, b.1, w.3, r.3), subst (λ n. ItemsAt P s ys n r.1) place r.4)

-- and joined again
pub uncut : (P : Datum → ℕ → Heaplet → Type 0) (s : ℕ) (xs ys : List Datum) (o : ℕ) (g k h : Heaplet) → Joins g k h → ItemsAt P s xs o g → ItemsAt P s ys (o + s * length xs) k → ItemsAt P s (xs ++ ys) o h
uncut P s [] ys o g k h j w v =
    let place : o + s * 0 ≡ o = omega arith in
    let same : h ≡ k = one_sum (subst (λ z. Joins z k h) w j) (left_empty k) in
    subst (ItemsAt P s ys o) (sym same) (subst (λ n. ItemsAt P s ys n k) place v)
uncut P s (x ∷ xs) ys o g k h j w v =
    let a = assoc w.2 j in
    let place : o + s * length (x ∷ xs) ≡ (o + s) + s * length xs = omega arith in
    (w.0, a.0, a.2, w.3, uncut P s xs ys (o + s) w.1 k a.0 a.1 w.4 (subst (λ n. ItemsAt P s ys n k) place v))

seq_cells : (less b : ℕ) (f : Form) (ds : List Datum) (n o : ℕ) (h : Heaplet) → length ds ≡ n → ItemsAt (FormCells less b f) (form_size f) ds o h → FormCells less b (Array f n) (seq ds) o h
seq_cells less b f ds n o h e w = (ap length (listed_data ds) ∙ e, subst (λ z. ItemsAt (FormCells less b f) (form_size f) z o h) (sym (listed_data ds)) w)

-- an array's first m elements and the others
pub cut_cells : (less b : ℕ) (f : Form) (m n : ℕ) (v : Datum) (o : ℕ) (h : Heaplet) → FormCells less b (Array f (m + n)) v o h →
    Halves (FormCells less b (Array f m) (seq (take m (items_in v))) o) (FormCells less b (Array f n) (seq (drop m (items_in v))) (o + form_size f * m)) h
cut_cells less b f m n (Seq items) o h c =
    let ds = listed items in
    let count : length (take m ds) ≡ m = length-take-le m ds (omega (arith, c.0)) in
    let others : length (drop m ds) ≡ length ds - m = length-drop m ds in
    let r = cut (FormCells less b f) (form_size f) (take m ds) (drop m ds) o h (subst (λ z. ItemsAt (FormCells less b f) (form_size f) z o h) (sym (take-append-drop m ds)) c.1) in (
      r.0,
      r.1,
      r.2,
      seq_cells less b f (take m ds) m o r.0 count r.3,
      seq_cells less b f (drop m ds) n (o + form_size f * m) r.1 (omega (arith, others, c.0)) (subst (λ z. ItemsAt (FormCells less b f) (form_size f) (drop m ds) (o + form_size f * z) r.1) count r.4),
    )
cut_cells less b f m n (Number z) o h c = absurd c
cut_cells less b f m n (Val v) o h c = absurd c
cut_cells less b f m n (Tree t) o h c = absurd c
cut_cells less b f m n (Pair x y) o h c = absurd c

pub uncut_cells : (less b : ℕ) (f : Form) (m n : ℕ) (v w : Datum) (o : ℕ) (g k h : Heaplet) → Joins g k h → FormCells less b (Array f m) v o g → FormCells less b (Array f n) w (o + form_size f * m) k →
    FormCells less b (Array f (m + n)) (seq (items_in v ++ items_in w)) o h
uncut_cells less b f m n (Seq xs) (Seq ys) o g k h j c d =
    let count = length-append (listed xs) (listed ys) in
    seq_cells less b f (listed xs ++ listed ys) (m + n) o h (omega (arith, count, c.0, d.0))
    (uncut (FormCells less b f) (form_size f) (listed xs) (listed ys) o g k h j c.1 (subst (λ z. ItemsAt (FormCells less b f) (form_size f) (listed ys) (o + form_size f * z) k) (sym c.0) d.1))
uncut_cells less b f m n (Seq xs) (Number z) o g k h j c d = absurd d
uncut_cells less b f m n (Seq xs) (Val v) o g k h j c d = absurd d
uncut_cells less b f m n (Seq xs) (Tree t) o g k h j c d = absurd d
uncut_cells less b f m n (Seq xs) (Pair x y) o g k h j c d = absurd d
uncut_cells less b f m n (Number z) w o g k h j c d = absurd c
uncut_cells less b f m n (Val v) w o g k h j c d = absurd c
uncut_cells less b f m n (Tree t) w o g k h j c d = absurd c
uncut_cells less b f m n (Pair x y) w o g k h j c d = absurd c
