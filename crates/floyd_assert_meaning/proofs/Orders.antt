-- Parts of a list, taken apart and in another order.
use Rattle.std.proofs.Common.{ℕ, zero, suc, ◌<◌, List, [], ◌∷◌, ◌++◌, length, get_or, set, refl, subst, arith}
use Rattle.std.specs.Prelude.{IsPermutation}
use Rattle.std.proofs.lemmas.List.Sorted.{IsPermutation-keeps}
use Rattle.std.proofs.lemmas.List.Edits.{swap_is}
use Rattle.floyd_tree_values.specs.BuiltIns.{Env}
use Rattle.floyd_clight_heap.specs.Heaplet.{Heaplet, Joins, empty}
use Rattle.floyd_clight_heap.proofs.Sums.{assoc, assoc_back, comm, left_empty, one_sum}
use Rattle.floyd_assert_cells.specs.Laws.{Sum}
use Rattle.floyd_assert_trees.specs.declared.sep.Sep.{Sep}
use Rattle.floyd_assert_trees.specs.declared.sep.Sep.TheVariants.{Anything}
use Rattle.floyd_assert_meaning.specs.Settings.{Setting}
use Rattle.floyd_assert_meaning.specs.Parts.{PartsHold, none, more}
use Rattle.floyd_assert_meaning.proofs.Inversions.{none_of, more_of}

module _ (S : Setting) (env : Env) where
  pub apart : (ps qs : List Sep) (h : Heaplet) → PartsHold S env (ps ++ qs) h → Sum (PartsHold S env ps) (PartsHold S env qs) h
  apart [] qs h m = (empty, h, left_empty h, none refl, m)
  apart (p ∷ ps) qs h m =
      let x = more_of m in
      let y = apart ps qs x.others x.rest in
      let z = assoc_back y.2 x.joins in
      (z.0, y.1, z.2, more z.1 x.first y.3, y.4)

  pub together : (ps qs : List Sep) (g k h : Heaplet) → Joins g k h → PartsHold S env ps g → PartsHold S env qs k → PartsHold S env (ps ++ qs) h
  together [] qs g k h j m n =
      let e : Joins empty k h = subst (λ x. Joins x k h) (none_of m) j in
      subst (PartsHold S env qs) (one_sum (left_empty k) e) n
  together (p ∷ ps) qs g k h j m n =
      let x = more_of m in
      let z = assoc x.joins j in
      more z.2 x.first (together ps qs x.others k z.0 z.1 x.rest n)

  -- the first two parts change places
  pub turned : (p q : Sep) (ps : List Sep) (h : Heaplet) → PartsHold S env (p ∷ q ∷ ps) h → PartsHold S env (q ∷ p ∷ ps) h
  turned p q ps h m =
      let x = more_of m in
      let y = more_of x.rest in
      let z = assoc_back y.joins x.joins in
      let w = assoc (comm z.1) z.2 in
      more w.2 y.first (more w.1 x.first y.rest)

  pub taken_out : (ps qs : List Sep) (p : Sep) (h : Heaplet) → PartsHold S env (ps ++ p ∷ qs) h → PartsHold S env (p ∷ (ps ++ qs)) h
  taken_out [] qs p h m = m
  taken_out (q ∷ ps) qs p h m =
      let x = more_of m in
      turned q p (ps ++ qs) h (more x.joins x.first (taken_out ps qs p x.others x.rest))

  pub put_back : (ps qs : List Sep) (p : Sep) (h : Heaplet) → PartsHold S env (p ∷ (ps ++ qs)) h → PartsHold S env (ps ++ p ∷ qs) h
  put_back [] qs p h m = m
  put_back (q ∷ ps) qs p h m =
      let x = more_of (turned p q (ps ++ qs) h m) in
      more x.joins x.first (put_back ps qs p x.others x.rest)

  -- the part in front and one behind it change places
  fronted : (p : Sep) (ps : List Sep) (j : ℕ) (d : Sep) (h : Heaplet) → j < length ps → PartsHold S env (p ∷ ps) h → PartsHold S env (get_or ps j d ∷ set ps j p) h
  fronted p [] j d h l m = absurd (omega arith)
  fronted p (q ∷ ps) zero d h l m = turned p q ps h m
  fronted p (q ∷ ps) (suc j) d h l m =
      let x = more_of (turned p q ps h m) in
      turned q (get_or ps j d) (set ps j p) h (more x.joins x.first (fronted p ps j d x.others (omega arith) x.rest))

  exchanged : (ps : List Sep) (i j : ℕ) (d : Sep) (h : Heaplet) → i < length ps → j < length ps → PartsHold S env ps h → PartsHold S env (set (set ps i (get_or ps j d)) j (get_or ps i d)) h
  exchanged [] i j d h l k m = absurd (omega arith)
  exchanged (p ∷ ps) zero zero d h l k m = m
  exchanged (p ∷ ps) zero (suc j) d h l k m = fronted p ps j d h (omega arith) m
  exchanged (p ∷ ps) (suc i) zero d h l k m = fronted p ps i d h (omega arith) m
  exchanged (p ∷ ps) (suc i) (suc j) d h l k m =
      let x = more_of m in
      more x.joins x.first (exchanged ps i j d x.others (omega arith) (omega arith) x.rest)

  pub any_order : (ps qs : List Sep) (h : Heaplet) → IsPermutation ps qs → PartsHold S env ps h → PartsHold S env qs h
  any_order ps qs h s m =
      IsPermutation-keeps ps (λ l. PartsHold S env l h) m (λ l i j p q k. subst (λ l. PartsHold S env l h) (swap_is l i j Anything p q) (exchanged l i j Anything h p q k)) qs s
