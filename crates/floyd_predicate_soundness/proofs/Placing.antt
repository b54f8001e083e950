-- Parts taken out of a list, and others put there.
use Rattle.std.proofs.Common.{◌≡◌, inl, inr, ℕ, zero, suc, ◌+◌, ◌-◌, List, [], ◌∷◌, ◌++◌, drop, take, Option, Some, None, Ok, sym, ap, ap₂, subst, arith}
use Rattle.std.specs.Prelude.{slice_get}
use Rattle.std.specs.List.{AllByRecursion}
use Rattle.std.proofs.lemmas.Option.{same_Some}
use Rattle.floyd_clight_heap.specs.Heaplet.{Heaplet, Joins}
use Rattle.floyd_clight_heap.proofs.Sums.{assoc_back, comm}
use Rattle.floyd_tree_values.specs.BuiltIns.{Env}
use Rattle.floyd_assert.specs.Removal.{Difference, Without}
use Rattle.floyd_assert_trees.specs.declared.sep.Sep.{Sep}
use Rattle.floyd_assert_meaning.specs.Parts as part
use Rattle.floyd_assert_meaning.specs.Parts.{PartHolds, PartsHold}
use Rattle.floyd_assert_meaning.specs.Settings.{Setting}
use Rattle.floyd_assert_meaning.proofs.Inversions.{Parted, more_of}
use Rattle.floyd_assert_meaning.proofs.Orders.{apart, together, turned}
use Rattle.floyd_goal_parts.specs.Sources.{or_missing, part_at}
use Rattle.floyd_entail_soundness.proofs.Placing.{same_Ok}

-- the parts but the one of that number
abbrev pub others_than : ℕ → List Sep → List Sep
others_than k parts = take (k - 1) parts ++ drop k parts

found : (k : ℕ) (o : Option Sep) (p : Sep) → or_missing k o ≡ Ok p → o ≡ Some p
found k None p e = absurd cc
found k (Some q) p e = ap Some (same_Ok q p e)

module _ (P : Sep → Type 0) where
  all_cut : (k : ℕ) (parts : List Sep) (p : Sep) → slice_get parts k ≡ Some p → AllByRecursion P parts → AllByRecursion P (take k parts ++ drop (suc k) parts)
  all_cut k [] p e h = absurd cc
  all_cut zero (q ∷ parts) p e h = h.1
  all_cut (suc k) (q ∷ parts) p e h = (h.0, all_cut k parts p e h.1)

  pub all_others : (k : ℕ) (parts : List Sep) (p : Sep) → part_at parts k ≡ Ok p → AllByRecursion P parts → AllByRecursion P (others_than k parts)
  all_others zero parts p e h = absurd cc
  all_others (suc k) parts p e h =
      let before : k ≡ suc k - 1 = omega arith in
      subst (λ i. AllByRecursion P (take i parts ++ drop (suc k) parts)) before (all_cut k parts p (found (suc k) (slice_get parts k) p e) h)

  without_all : (p : Sep) (parts rest : List Sep) → Without p parts rest → AllByRecursion P parts → AllByRecursion P rest
  without_all p [] rest w h = absurd w
  without_all p (q ∷ parts) rest (inl w) h = subst (AllByRecursion P) (sym w.1) h.1
  without_all p (q ∷ parts) rest (inr w) h = subst (AllByRecursion P) (sym w.1.2) (h.0, without_all p parts w.1.0 w.1.1 h.1)

  -- what is left once some are taken out
  pub all_left : (gone parts rest : List Sep) (k : ℕ) → Difference parts k gone (Ok rest) → AllByRecursion P parts → AllByRecursion P rest
  all_left [] parts rest k d h = subst (AllByRecursion P) (sym (same_Ok {A = List Sep} rest parts d)) h
  all_left (p ∷ gone) parts rest k (inl d) h = all_left gone d.0 rest (k + 1) d.2 (without_all p parts d.0 d.1 h)
  all_left (p ∷ gone) parts rest k (inr d) h =
      let wrong = d.1 in
      absurd cc

module _ (S : Setting) (env : Env) where
  cut : (k : ℕ) (parts : List Sep) (p : Sep) (h : Heaplet) → slice_get parts k ≡ Some p → PartsHold S env parts h → PartsHold S env (p ∷ (take k parts ++ drop (suc k) parts)) h
  cut k [] p h e m = absurd cc
  cut zero (q ∷ parts) p h e m = subst (λ r. PartsHold S env (r ∷ parts) h) (same_Some q p e) m
  cut (suc k) (q ∷ parts) p h e m =
      let x = more_of m in
      turned S env q p (take k parts ++ drop (suc k) parts) h (part.more x.joins x.first (cut k parts p x.others e x.rest))

  -- the part of a number, and the others
  pub part_out : (k : ℕ) (parts : List Sep) (p : Sep) (h : Heaplet) → part_at parts k ≡ Ok p → PartsHold S env parts h → Parted S env p (others_than k parts) h
  part_out zero parts p h e m = absurd cc
  part_out (suc k) parts p h e m =
      let before : k ≡ suc k - 1 = omega arith in
      more_of (subst (λ i. PartsHold S env (p ∷ (take i parts ++ drop (suc k) parts)) h) before (cut k parts p h (found (suc k) (slice_get parts k) p e) m))

  -- parts between others
  pub put_between : (ps qs new : List Sep) (g k h : Heaplet) → Joins g k h → PartsHold S env new g → PartsHold S env (ps ++ qs) k → PartsHold S env (ps ++ new ++ qs) h
  put_between ps qs new g k h j n m =
      let a = apart S env ps qs k m in
      let b = assoc_back a.2 j in
      together S env (ps ++ new) qs b.0 a.1 h b.2 (together S env ps new a.0 g b.0 (comm b.1) a.3 n) a.4

  -- a part in front of the others
  taken : (p : Sep) (parts rest : List Sep) (h : Heaplet) → Without p parts rest → PartsHold S env parts h → PartsHold S env (p ∷ rest) h
  taken p [] rest h w m = absurd w
  taken p (q ∷ parts) rest h (inl w) m = subst (λ ps. PartsHold S env ps h) (ap₂ (λ a as'. a ∷ as') w.0 (sym w.1)) m
  taken p (q ∷ parts) rest h (inr w) m =
      let x = more_of m in
      let k = taken p parts w.1.0 x.others w.1.1 x.rest in
      subst (λ ps. PartsHold S env (p ∷ ps) h) (sym w.1.2) (turned S env q p w.1.0 h (part.more x.joins x.first k))

  -- the parts that are to go, before what is left
  pub gone_first : (gone parts rest : List Sep) (k : ℕ) (h : Heaplet) → Difference parts k gone (Ok rest) → PartsHold S env parts h → PartsHold S env (gone ++ rest) h
  gone_first [] parts rest k h d m = subst (λ ps. PartsHold S env ps h) (sym (same_Ok {A = List Sep} rest parts d)) m
  gone_first (p ∷ gone) parts rest k h (inl d) m =
      let x = more_of (taken p parts d.0 h d.1 m) in
      part.more x.joins x.first (gone_first gone d.0 rest (k + 1) x.others d.2 x.rest)
  gone_first (p ∷ gone) parts rest k h (inr d) m =
      let wrong = d.1 in
      absurd cc
