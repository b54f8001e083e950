-- Parts in place of one of a list.
use Rattle.std.proofs.Common.{◌≡◌, ℕ, zero, suc, ◌-◌, List, [], ◌∷◌, ◌++◌, drop, take, Option, Some, None, Result, Ok, refl, ap, subst, arith}
use Rattle.std.specs.Prelude.{slice_get}
use Rattle.std.specs.List.{AllByRecursion}
use Rattle.std.proofs.lemmas.Option.{same_Some}
use Rattle.floyd_text.specs.declared.refusal.No.{No}
use Rattle.floyd_tree_values.specs.BuiltIns.{Env}
use Rattle.floyd_clight_heap.specs.Heaplet.{Heaplet}
use Rattle.floyd_clight_heap.proofs.Sums.{right_empty}
use Rattle.floyd_assert_trees.specs.declared.sep.Sep.{Sep}
use Rattle.floyd_assert_meaning.specs.Parts.{PartHolds, PartsHold, none, more}
use Rattle.floyd_assert_meaning.specs.Settings.{Setting}
use Rattle.floyd_assert_meaning.proofs.Inversions.{more_of}
use Rattle.floyd_assert_meaning.proofs.Orders.{together}
use Rattle.floyd_goal_parts.specs.Sources.{in_place, or_missing, part_at}

pub same_Ok : {A : Type 0} (a b : A) → ◌≡◌ {A = Result A No} (Ok a) (Ok b) → a ≡ b
same_Ok a b e = cc

found : (k : ℕ) (o : Option Sep) (p : Sep) → or_missing k o ≡ Ok p → o ≡ Some p
found k None p e = absurd cc
found k (Some q) p e = ap Some (same_Ok q p e)

module _ (P : Sep → Type 0) where
  of_each : (k : ℕ) (parts : List Sep) (p : Sep) → slice_get parts k ≡ Some p → AllByRecursion P parts → P p
  of_each k [] p e h = absurd cc
  of_each zero (q ∷ parts) p e h = subst P (same_Some q p e) h.0
  of_each (suc k) (q ∷ parts) p e h = of_each k parts p e h.1

  -- what holds of each part holds of the one of a number
  pub of_number : (k : ℕ) (parts : List Sep) (p : Sep) → part_at parts k ≡ Ok p → AllByRecursion P parts → P p
  of_number zero parts p e h = absurd cc
  of_number (suc k) parts p e h = of_each k parts p (found (suc k) (slice_get parts k) p e) h

module _ (S : Setting) (env : Env) where
  -- one part alone
  pub alone : (p : Sep) (h : Heaplet) → PartHolds S env p h → PartsHold S env (p ∷ []) h
  alone p h m = more (right_empty h) m (none refl)

  placed : (k : ℕ) (parts : List Sep) (p : Sep) (new : List Sep) (h : Heaplet) → slice_get parts k ≡ Some p → ((g : Heaplet) → PartHolds S env p g → PartsHold S env new g) → PartsHold S env parts h → PartsHold S env (take k parts ++ new ++ drop (suc k) parts) h
  placed k [] p new h e f m = absurd cc
  placed zero (q ∷ parts) p new h e f m =
      let x = more_of m in
      together S env new parts x.here x.others h x.joins (f x.here (subst (λ r. PartHolds S env r x.here) (same_Some q p e) x.first)) x.rest
  placed (suc k) (q ∷ parts) p new h e f m =
      let x = more_of m in
      more x.joins x.first (placed k parts p new x.others e f x.rest)

  -- parts in place of the one of a number, which hold wherever it does
  pub put_there : (k : ℕ) (parts : List Sep) (p : Sep) (new : List Sep) (h : Heaplet) → part_at parts k ≡ Ok p → ((g : Heaplet) → PartHolds S env p g → PartsHold S env new g) → PartsHold S env parts h → PartsHold S env (in_place k new parts) h
  put_there zero parts p new h e f m = absurd cc
  put_there (suc k) parts p new h e f m =
      let before : k ≡ suc k - 1 = omega arith in
      subst (λ i. PartsHold S env (take i parts ++ new ++ drop (suc k) parts) h) before (placed k parts p new h (found (suc k) (slice_get parts k) p e) f m)

  seen : (k : ℕ) (parts : List Sep) (p : Sep) (h : Heaplet) → slice_get parts k ≡ Some p → PartsHold S env parts h → (g : Heaplet) × PartHolds S env p g
  seen k [] p h e m = absurd cc
  seen zero (q ∷ parts) p h e m =
      let x = more_of m in
      (x.here, subst (λ r. PartHolds S env r x.here) (same_Some q p e) x.first)
  seen (suc k) (q ∷ parts) p h e m =
      let x = more_of m in
      seen k parts p x.others e x.rest

  -- the part of a number holds of a heaplet
  pub part_seen : (k : ℕ) (parts : List Sep) (p : Sep) (h : Heaplet) → part_at parts k ≡ Ok p → PartsHold S env parts h → (g : Heaplet) × PartHolds S env p g
  part_seen zero parts p h e m = absurd cc
  part_seen (suc k) parts p h e m = seen k parts p h (found (suc k) (slice_get parts k) p e) m
