-- What stands at a path of an object is taken out, and something else is put there.
use Rattle.std.proofs.Common.{◌≡◌, ℕ, zero, suc, ◌+◌, ◌*◌, ◌<◌, pos, negsuc, nat_lt, Bool, true, false, List, [], ◌∷◌, length, get_or, set, length-set, Some, option_map, bytes_eq, sym, ◌∙◌, ap, subst, arith, cond, ltb-true}
use Rattle.std.proofs.lemmas.Option.{same_Some, cond_some}
use Rattle.floyd_clight_heap.specs.Heaplet.{Heaplet, Joins, empty}
use Rattle.floyd_clight_heap.proofs.Sums.{assoc, assoc_back, comm, one_sum, right_empty}
use Rattle.floyd_tree_values.specs.Data.{Datum, Number, Val, Seq, Tree, Pair, listed, seq}
use Rattle.floyd_tree_values.specs.Defaults.{undefined}
use Rattle.floyd_assert_cells.specs.Types.{Step, Dot, At}
use Rattle.floyd_assert_cells.specs.Forms.{Form, Single, Array, Struct, Fields, EndAt, FieldAt, form_size}
use Rattle.floyd_assert_cells.specs.Cells.{ItemsAt, parted, FormCells, FieldCells}
use Rattle.floyd_assert_cells.specs.Items.{Found, field_in, step_in, further, form_at, first_part, other_part, with_first, with_others, field_value, with_field, item_in, with_item, on_step, item_at, with_at}
use Rattle.floyd_assert_cells.specs.Focus.{Focus}
use Rattle.floyd_assert_cells.proofs.DefaultCells.{listed_data}
use Rattle.floyd_assert_cells.proofs.FieldParts.{take_field, put_field}
use Rattle.floyd_assert_cells.proofs.FormLaws.{mapped, chained}

-- a focus of a part is one of a sum
pub aside : (P : Datum → Heaplet → Type 0) (d : Datum) (D E : Datum → Heaplet → Type 0) (h c k : Heaplet) → Joins h c k → ((e : Datum) (g l : Heaplet) → D e g → Joins g c l → E e l) → Focus P d D h → Focus P d E k
aside P d D E h c k j put f =
    let r = assoc f.joins j in
    record {
      here = f.here;
      others = r.0;
      joins = r.2;
      holds = f.holds;
      back = λ e g l i p.
          let b = assoc_back r.1 i in
          put e b.0 l (f.back e g b.0 b.1 p) b.2;
    }

-- a focus in what a focus has
pub deeper : (P Q : Datum → Heaplet → Type 0) (d e : Datum) (D : Datum → Heaplet → Type 0) (f : Datum → Datum) (h : Heaplet) → Focus P d D h → ((g : Heaplet) → P d g → Focus Q e (λ x k. P (f x) k) g) → Focus Q e (λ x k. D (f x) k) h
deeper P Q d e D f h o i = aside Q e (λ x k. P (f x) k) (λ x k. D (f x) k) o.here o.others h o.joins (λ x g l p j. o.back (f x) g l j p) (i o.here o.holds)

-- ---- items

pub items_focus : (P : Datum → ℕ → Heaplet → Type 0) (s : ℕ) (ds : List Datum) (i o : ℕ) (h : Heaplet) → i < length ds → ItemsAt P s ds o h → Focus (λ e k. P e (o + s * i) k) (get_or ds i undefined) (λ e k. ItemsAt P s (set ds i e) o k) h
items_focus P s [] i o h l w = absurd (omega arith)
items_focus P s (d ∷ ds) zero o h l w =
    let place : o ≡ o + s * 0 = omega arith in
    record {
      here = w.0;
      others = w.1;
      joins = w.2;
      holds = subst (λ n. P d n w.0) place w.3;
      back = λ e g k j p. (g, w.1, j, subst (λ n. P e n g) (sym place) p, w.4);
    }
items_focus P s (d ∷ ds) (suc i) o h l w =
    let place : (o + s) + s * i ≡ o + s * suc i = omega arith in
    subst (λ n. Focus (λ e k. P e n k) (get_or ds i undefined) (λ e k. ItemsAt P s (d ∷ set ds i e) o k) h) place
    (aside (λ e k. P e ((o + s) + s * i) k) (get_or ds i undefined) (λ e k. ItemsAt P s (set ds i e) (o + s) k) (λ e k. ItemsAt P s (d ∷ set ds i e) o k) w.1 w.0 h (comm w.2)
    (λ e g k q j. (w.0, g, comm j, w.3, q))
    (items_focus P s ds i (o + s) w.1 (omega (arith, l)) w.4))

-- ---- fields

first_is : (rest : Fields) (v x y : Datum) → parted rest v ≡ Some (x, y) → (x ≡ first_part rest v) × (y ≡ other_part rest v)
first_is (EndAt size) v x y e =
    let p : ◌≡◌ {A = Datum × Datum} (v, undefined) (x, y) = same_Some (v, undefined) (x, y) e in
    (ap (λ (q : Datum × Datum). q.0) (sym p), ap (λ (q : Datum × Datum). q.1) (sym p))
first_is (FieldAt name at f rest) (Pair a b) x y e =
    let p : ◌≡◌ {A = Datum × Datum} (a, b) (x, y) = same_Some (a, b) (x, y) e in
    (ap (λ (q : Datum × Datum). q.0) (sym p), ap (λ (q : Datum × Datum). q.1) (sym p))
first_is (FieldAt name at f rest) (Number z) x y e = cc
first_is (FieldAt name at f rest) (Val v) x y e = cc
first_is (FieldAt name at f rest) (Seq items) x y e = cc
first_is (FieldAt name at f rest) (Tree t) x y e = cc

parted_first : (rest : Fields) (v x y e : Datum) → parted rest v ≡ Some (x, y) → parted rest (with_first rest v e) ≡ Some (e, y)
parted_first (EndAt size) v x y e p = ap (λ z. Some (e, z)) (sym (first_is (EndAt size) v x y p).1)
parted_first (FieldAt name at f rest) v x y e p = ap (λ z. Some (e, z)) (sym (first_is (FieldAt name at f rest) v x y p).1)

-- whether there are fields
abbrev HasFields : Fields → Type 0
HasFields (EndAt size) = ⊥
HasFields (FieldAt name at f rest) = Unit {0}

parted_others : (rest : Fields) (v x y e : Datum) → HasFields rest → parted rest v ≡ Some (x, y) → parted rest (with_others rest v e) ≡ Some (x, e)
parted_others (EndAt size) v x y e some p = absurd some
parted_others (FieldAt name at f rest) v x y e some p = ap (λ z. Some (z, e)) (sym (first_is (FieldAt name at f rest) v x y p).0)

some_fields : (fields : Fields) (x : List ℕ) (g : Found) → field_in fields x ≡ Some g → HasFields fields
some_fields (EndAt size) x g e = cc
some_fields (FieldAt name at f rest) x g e = tt

module _ (less b : ℕ) where
  -- a focus on a form at a place
  abbrev pub On : Found → ℕ → Datum → Heaplet → Type 0
  On g o e k = FormCells less b g.form e (o + g.offset) k

  field_by : (name : List ℕ) (at : ℕ) (f : Form) (rest : Fields) (x : List ℕ) (g : Found) (v : Datum) (o : ℕ) (h : Heaplet) → FieldCells less b (FieldAt name at f rest) v o h →
      ((w : Datum) (k : Heaplet) → field_in rest x ≡ Some g → FieldCells less b rest w o k → Focus (On g o) (field_value rest x w) (λ e k. FieldCells less b rest (with_field rest x w e) o k) k) →
      (t : Bool) → cond t (Some (record { form = f; offset = at })) (field_in rest x) ≡ Some g →
      Focus (On g o) (cond t (first_part rest v) (field_value rest x (other_part rest v)))
      (λ e k. FieldCells less b (FieldAt name at f rest) (cond t (with_first rest v e) (with_others rest v (with_field rest x (other_part rest v) e))) o k) h
  field_by name at f rest x g v o h c more true e =
      let t = take_field less b name at f rest v o h c in
      let p = first_is rest v t.first t.others t.parts in
      subst (λ z. Focus (On z o) (first_part rest v) (λ e k. FieldCells less b (FieldAt name at f rest) (with_first rest v e) o k) h) (same_Some (record { form = f; offset = at }) g e)
      (record {
        here = t.here;
        others = t.behind;
        joins = t.joins;
        holds = subst (λ z. FormCells less b f z (o + at) t.here) p.0 t.holds;
        back = λ d k l j q. put_field less b name at f rest (with_first rest v d) d t.others o k t.behind l (parted_first rest v t.first t.others d t.parts) j q t.more;
      })
  field_by name at f rest x g v o h c more false e =
      let t = take_field less b name at f rest v o h c in
      let p = first_is rest v t.first t.others t.parts in
      let w = other_part rest v in
      aside (On g o) (field_value rest x w) (λ e k. FieldCells less b rest (with_field rest x w e) o k)
      (λ e k. FieldCells less b (FieldAt name at f rest) (with_others rest v (with_field rest x w e)) o k) t.behind t.here h (comm t.joins)
      (λ d k l q j. put_field less b name at f rest (with_others rest v (with_field rest x w d)) t.first (with_field rest x w d) o t.here k l
      (parted_others rest v t.first t.others (with_field rest x w d) (some_fields rest x g e) t.parts) (comm j) t.holds q)
      (more w t.behind e (subst (λ z. FieldCells less b rest z o t.behind) p.1 t.more))

  pub field_focus : (fields : Fields) (x : List ℕ) (g : Found) (v : Datum) (o : ℕ) (h : Heaplet) → field_in fields x ≡ Some g → FieldCells less b fields v o h → Focus (On g o) (field_value fields x v) (λ e k. FieldCells less b fields (with_field fields x v e) o k) h
  field_focus (EndAt size) x g v o h e c = cc
  field_focus (FieldAt name at f rest) x g v o h e c = field_by name at f rest x g v o h c (λ w k q d. field_focus rest x g w o k q d) (bytes_eq x name) e

  -- ---- a step

  pub step_focus : (f : Form) (step : Step) (g : Found) (v : Datum) (o : ℕ) (h : Heaplet) → step_in f step ≡ Some g → FormCells less b f v o h → Focus (On g o) (item_in f step v) (λ e k. FormCells less b f (with_item f step v e) o k) h
  step_focus (Single s) step g v o h e c = cc
  step_focus (Array f n) (Dot x) g v o h e c = cc
  step_focus (Array f n) (At (negsuc i)) g v o h e c = cc
  step_focus (Array f n) (At (pos i)) g (Seq items) o h e c =
      let p = cond_some (nat_lt i n) (record { form = f; offset = form_size f * i }) g e in
      let l : i < n = ltb-true i n p.0 in
      let z = items_focus (FormCells less b f) (form_size f) (listed items) i o h (omega (arith, l, c.0)) c.1 in
      subst (λ z. Focus (On z o) (get_or (listed items) i undefined) (λ e k. FormCells less b (Array f n) (seq (set (listed items) i e)) o k) h) p.1
      (record {
        here = z.here;
        others = z.others;
        joins = z.joins;
        holds = z.holds;
        back = λ d k l j q.
            let new = set (listed items) i d in
            (ap length (listed_data new) ∙ length-set (listed items) i d ∙ c.0, subst (λ ds. ItemsAt (FormCells less b f) (form_size f) ds o l) (sym (listed_data new)) (z.back d k l j q));
      })
  step_focus (Array f n) (At (pos i)) g (Number z) o h e c = absurd c
  step_focus (Array f n) (At (pos i)) g (Val v) o h e c = absurd c
  step_focus (Array f n) (At (pos i)) g (Tree t) o h e c = absurd c
  step_focus (Array f n) (At (pos i)) g (Pair x y) o h e c = absurd c
  step_focus (Struct fields) (At i) g v o h e c = cc
  step_focus (Struct fields) (Dot x) g v o h e c =
      aside (On g o) (field_value fields x v) (λ e k. FieldCells less b fields (with_field fields x v e) o k) (λ e k. FormCells less b (Struct fields) (with_field fields x v e) o k) c.0 c.1 h c.2
      (λ d k l q j. (k, c.1, j, q, c.4))
      (field_focus fields x g v o c.0 e c.3)

  -- ---- a path

  pub path_focus : (path : List Step) (f : Form) (g : Found) (v : Datum) (o : ℕ) (h : Heaplet) → form_at f path ≡ Some g → FormCells less b f v o h → Focus (On g o) (item_at path f v) (λ e k. FormCells less b f (with_at path f v e) o k) h
  path_focus [] f g v o h e c =
      subst (λ z. Focus (On z o) v (λ e k. FormCells less b f e o k) h) (same_Some (record { form = f; offset = 0 }) g e)
      (record {
        here = h;
        others = empty;
        joins = right_empty h;
        holds = subst (λ n. FormCells less b f v n h) (omega arith) c;
        back = λ d k l j q. subst (FormCells less b f d o) (sym (one_sum j (right_empty k))) (subst (λ n. FormCells less b f d n k) (omega arith) q);
      })
  path_focus (step ∷ path) f g v o h e c =
      let first = chained (λ g. option_map (further g.offset) (form_at g.form path)) (step_in f step) g e in
      let s = first.0 in
      let rest = mapped (further s.offset) (form_at s.form path) g first.2 in
      let w = item_in f step v in
      let place : (o + s.offset) + rest.0.offset ≡ o + (s.offset + rest.0.offset) = omega arith in
      let one = step_focus f step s v o h first.1 c in
      let both = deeper (On s o) (λ e k. FormCells less b rest.0.form e ((o + s.offset) + rest.0.offset) k) w (item_at path s.form w) (λ e k. FormCells less b f (with_item f step v e) o k) (with_at path s.form w) h one
      (λ k q. path_focus path s.form rest.0 w (o + s.offset) k rest.1 q) in
      let here = subst (λ n. Focus (λ e k. FormCells less b rest.0.form e n k) (item_at path s.form w) (λ e k. FormCells less b f (with_item f step v (with_at path s.form w e)) o k) h) place both in
      subst (λ z. Focus (On z o) (item_at (step ∷ path) f v) (λ e k. FormCells less b f (with_at (step ∷ path) f v e) o k) h) rest.2
      (subst (λ z. Focus (λ e k. FormCells less b rest.0.form e (o + (s.offset + rest.0.offset)) k) (on_step z (λ g. item_at path g w) undefined) (λ e k. FormCells less b f (with_item f step v (on_step z (λ g. with_at path g w e) undefined)) o k) h) (sym first.1) here)
