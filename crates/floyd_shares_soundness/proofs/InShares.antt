-- Objects and padding in two shares, and in one.
use Rattle.std.proofs.Common.{◌≡◌, ℕ, zero, suc, ◌+◌, ◌-◌, ◌≤◌, ◌<◌, true, ℤ, pos, negsuc, ◌+ℤ◌, ◌-ℤ◌, refl, sym, ap, subst, ◌∙◌, arith, leb-true}
use Rattle.std.specs.Prelude.{int_le}
use Rattle.std.proofs.lemmas.Int.{ints}
use Rattle.floyd_ctypes.specs.Structs.{Structs}
use Rattle.floyd_clight_heap.specs.Heaplet.{Heaplet, Joins}
use Rattle.floyd_tree.specs.Plain.{Plain}
use Rattle.floyd_tree_values.specs.BuiltIns.{Env}
use Rattle.floyd_tree_values.specs.Data.{Datum, Number}
use Rattle.floyd_tree_values.specs.Means.{Defs, Means}
use Rattle.floyd_assert_cells.specs.Cells.{Cells, Located, Padding, WithShare}
use Rattle.floyd_assert_cells.specs.Laws.{Sum}
use Rattle.floyd_assert_cells.specs.Types.{Sized}
use Rattle.floyd_assert_cells.proofs.ObjectLaws.{padding_joined, padding_split, shares_joined, shares_split}
use Rattle.floyd_assert_trees.specs.declared.sep.Region.{Region}
use Rattle.floyd_assert_meaning.specs.Parts.{RegionMeans, sized_as}
use Rattle.floyd_shares.specs.Shares.{shared}
use Rattle.floyd_shares_soundness.proofs.OnePlace.{Holding, at_one_place, one_root, one_sizes, one_steps}

-- ---- numbers

-- a share is a number from 1 to 16
pub share_is : (share : ℤ) (P : ℕ → Type 0) → WithShare share P → (less : ℕ) × (share ≡ pos (suc less)) × (less < 16)
share_is (pos zero) P w = absurd w
share_is (pos (suc less)) P w = (less, refl, w.0)
share_is (negsuc n) P w = absurd w

-- two numbers that make up a share
pub record Halves (share n : ℤ) : Type 0 where
  pub left : ℕ
  pub right : ℕ
  pub left_some : 1 ≤ left
  pub right_some : 1 ≤ right
  pub left_is : n ≡ pos left
  pub right_is : share -ℤ n ≡ pos right
  pub both : share ≡ pos (left + right)

halves_of : (less l : ℕ) → int_le (pos 1) (pos l) ≡ true → int_le (pos l +ℤ pos 1) (pos (suc less)) ≡ true → Halves (pos (suc less)) (pos l)
halves_of less l low high =
    let some : 1 ≤ l = leb-true 1 l low in
    let below : l + 1 ≤ suc less = leb-true (l + 1) (suc less) high in
    let sum : suc less ≡ l + (suc less - l) = omega (arith, below) in
    record {
      left = l;
      right = suc less - l;
      left_some = some;
      right_some = omega (arith, below);
      left_is = refl;
      right_is = omega (arith, ints, below);
      both = ap pos sum;
    }

pub halves : (share n : ℤ) (less : ℕ) → share ≡ pos (suc less) → int_le (pos 1) n ≡ true → int_le (n +ℤ pos 1) share ≡ true → Halves share n
halves share (negsuc l) less e low high = absurd cc
halves share (pos l) less e low high = subst (λ s. Halves s (pos l)) (sym e) (halves_of less l low (ap (int_le (pos l +ℤ pos 1)) (sym e) ∙ high))

-- ---- parts of either kind

-- what is so of objects and of padding
pub record IsShared (Q : ℤ → Holding) : Type 1 where
  pub share : (s : ℤ) (t : Sized) (b o : ℕ) (h : Heaplet) → Q s t b o h → (less : ℕ) × (s ≡ pos (suc less)) × (less < 16)
  pub split : (l r : ℕ) (t : Sized) (b o : ℕ) (h : Heaplet) → 1 ≤ l → 1 ≤ r → Q (pos (l + r)) t b o h → Sum (Q (pos l) t b o) (Q (pos r) t b o) h
  pub join : (l r : ℕ) (t : Sized) (b o : ℕ) (h : Heaplet) → l + r ≤ 16 → Sum (Q (pos l) t b o) (Q (pos r) t b o) h → Q (pos (l + r)) t b o h

pub objects_shared : (structs : Structs) (v : Datum) → IsShared (λ s t b o h. Cells structs s t v b o h)
objects_shared structs v = record {
  share = λ s t b o h c. share_is s _ c;
  split = λ l r t b o h p q c. shares_split structs l r t v b o h p q c;
  join = λ l r t b o h p c. shares_joined structs l r t v b o h p c;
}

pub padding_shared : (structs : Structs) → IsShared (λ s t b o h. Padding structs s t b o h)
padding_shared structs = record {
  share = λ s t b o h c. share_is s _ c;
  split = λ l r t b o h p q c. padding_split structs l r t b o h p q c;
  join = λ l r t b o h p c. padding_joined structs l r t b o h p c;
}

-- at the place of a region
abbrev pub AtRegion : (Q : ℤ → Holding) (defs : Defs) (env : Env) (r : Region) → Heaplet → Type 0
AtRegion Q defs env r h = (m : RegionMeans defs env r) × ((l : Located defs.structs (sized_as r m.sizes) m.path m.root) × Q m.share l.type l.block (l.offset + l.shift) h)

module _ (Q : ℤ → Holding) (k : IsShared Q) (defs : Defs) (env : Env) (r : Region) where
  abbrev with_share : (a : Plain) (m : RegionMeans defs env r) (s : ℤ) → Means defs env a (Number s) → RegionMeans defs env (shared r a)
  with_share a m s means = record { share = s; sizes = m.sizes; path = m.path; root = m.root; of_share = means; of_sizes = m.of_sizes; of_path = m.of_path; of_root = m.of_root }

  -- in two shares
  pub split_shares : (a b : Plain) (n : ℤ) (h : Heaplet) → Means defs env a (Number n) → ((s : ℤ) → Means defs env r.share (Number s) → Means defs env b (Number (s -ℤ n)) × (int_le (pos 1) n ≡ true) × (int_le (n +ℤ pos 1) s ≡ true)) → AtRegion Q defs env r h →
      Sum (AtRegion Q defs env (shared r a)) (AtRegion Q defs env (shared r b)) h
  split_shares a b n h means f (m, (l, q)) =
      let g = f m.share m.of_share in
      let s = k.share m.share l.type l.block (l.offset + l.shift) h q in
      let u = halves m.share n s.0 s.1 g.1 g.2 in
      let c = k.split u.left u.right l.type l.block (l.offset + l.shift) h u.left_some u.right_some (subst (λ z. Q z l.type l.block (l.offset + l.shift) h) u.both q) in (
        c.0,
        c.1,
        c.2,
        (with_share a m (pos u.left) (subst (λ z. Means defs env a (Number z)) u.left_is means), (l, c.3)),
        (with_share b m (pos u.right) (subst (λ z. Means defs env b (Number z)) u.right_is g.0), (l, c.4)),
      )

  joined_share : (x y : ℤ) (i j : ℕ) → x ≡ pos (suc i) → y ≡ pos (suc j) → x +ℤ y ≡ pos (suc i + suc j)
  joined_share x y i j e f = omega (arith, ints, e, f)

  small_sum : (x y : ℤ) (i j : ℕ) → x ≡ pos (suc i) → y ≡ pos (suc j) → int_le (x +ℤ y) (pos 16) ≡ true → suc i + suc j ≤ 16
  small_sum x y i j e f g = leb-true (suc i + suc j) 16 (ap (λ z. int_le z (pos 16)) (sym (joined_share x y i j e f)) ∙ g)

  -- and in one
  pub join_shares : (a b s : Plain) (g e h : Heaplet) → Joins g e h → ((x y : ℤ) → Means defs env a (Number x) → Means defs env b (Number y) → Means defs env s (Number (x +ℤ y)) × (int_le (x +ℤ y) (pos 16) ≡ true)) →
      AtRegion Q defs env (shared r a) g → AtRegion Q defs env (shared r b) e → AtRegion Q defs env (shared r s) h
  join_shares a b s g e h j f (m, (l, q)) (n, (i, p)) =
      let structs = defs.structs in
      let here : (c : Located structs (sized_as (shared r a) m.sizes) m.path m.root) × Q n.share c.type c.block (c.offset + c.shift) e =
      subst (λ v. (c : Located structs (sized_as (shared r a) m.sizes) m.path v) × Q n.share c.type c.block (c.offset + c.shift) e) (one_root defs env r a b m n)
      (subst (λ steps. (c : Located structs (sized_as (shared r a) m.sizes) steps n.root) × Q n.share c.type c.block (c.offset + c.shift) e) (one_steps defs env r a b m n)
      (subst (λ sizes. (c : Located structs (sized_as (shared r a) sizes) n.path n.root) × Q n.share c.type c.block (c.offset + c.shift) e) (one_sizes defs env r a b m n) (i, p))) in
      let there = at_one_place (Q n.share) structs (sized_as (shared r a) m.sizes) m.path m.root l here.0 e here.1 in
      let x = k.share m.share l.type l.block (l.offset + l.shift) g q in
      let y = k.share n.share l.type l.block (l.offset + l.shift) e there in
      let sum = f m.share n.share m.of_share n.of_share in
      let both = k.join (suc x.0) (suc y.0) l.type l.block (l.offset + l.shift) h (small_sum m.share n.share x.0 y.0 x.1 y.1 sum.1)
      (g, e, j, subst (λ z. Q z l.type l.block (l.offset + l.shift) g) x.1 q, subst (λ z. Q z l.type l.block (l.offset + l.shift) e) y.1 there) in
      let region : RegionMeans defs env (shared r s) = record {
        share = pos (suc x.0 + suc y.0);
        sizes = m.sizes;
        path = m.path;
        root = m.root;
        of_share = subst (λ z. Means defs env s (Number z)) (joined_share m.share n.share x.0 y.0 x.1 y.1) sum.0;
        of_sizes = m.of_sizes;
        of_path = m.of_path;
        of_root = m.of_root;
      } in
      (region, (l, both))
