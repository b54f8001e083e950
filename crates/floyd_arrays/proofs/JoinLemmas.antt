-- What becomes of two parts of which the second may begin where the first ends.
use Rattle.std.proofs.Common.{◌≡◌, ◌↔◌, Bool, true, false, IsTrue, List, Option, Some, None, Result, Ok, Err, refl, sym, ap, subst, ◌∙◌, inl, inr}
use Rattle.floyd_text.specs.declared.refusal.No.{No}
use Rattle.floyd_text.specs.declared.refusal.RuleStop.{RuleStop}
use Rattle.floyd_text.specs.declared.refusal.RuleStop.TheVariants as r
use Rattle.floyd_text.specs.Gives.{RuleGives, RuleStops}
use Rattle.floyd_ctypes.specs.Structs.{Structs}
use Rattle.floyd_tree.specs.Plain.{Plain}
use Rattle.floyd_assert_trees.specs.declared.sep.Sep.{Sep}
use Rattle.floyd_fieldpath.specs.Sums.{plus}
use Rattle.floyd_goal.specs.Answers.{IsAnswer}
use Rattle.floyd_goal.specs.Goals.{wrong_goal}
use Rattle.floyd_arrays.specs.declared.arrays.ArrayPart.{ArrayPart}
use Rattle.floyd_arrays.specs.Arrays.{behind, piece, piece_at}
use Rattle.floyd_arrays.specs.JoinArray.{IsBoth, IsUnion, Joins, Meets, OfSides, both}
use Rattle.floyd_arrays.specs.JoinArrayClauses.{HasRefused}

pub false_is_true : false ≡ true → ⊥
false_is_true e = absurd cc

-- the piece of an array that a part is compared with
same_piece : (p q : Sep) → ◌≡◌ {A = Result Sep No} (Ok p) (Ok q) → p ≡ q
same_piece p q e = cc

pub piece_is : (a : ArrayPart) (n root v : Plain) (wanted part : Sep) (so : Bool) → piece_at a n root v ≡ Ok wanted → (IsTrue so ↔ (wanted ≡ part)) → IsTrue so ↔ (piece a n root v ≡ part)
piece_is a n root v wanted part so e h =
    subst (λ (p : Sep). IsTrue so ↔ (p ≡ part)) (sym (same_piece (piece a n root v) wanted e)) h

-- where the first array ends
same_root : (one other : Plain) → ◌≡◌ {A = Result Plain No} (Ok one) (Ok other) → one ≡ other
same_root one other e = cc

no_root : (why : No) (root : Plain) → ◌≡◌ {A = Result Plain No} (Err why) (Ok root) → ⊥
no_root why root e = absurd cc

pub meets_there : (structs : Structs) (a b : ArrayPart) (q : Sep) (root : Plain) (so : Bool) → behind structs a a.count ≡ Ok root → (IsTrue so ↔ (piece a b.count root b.value ≡ q)) → IsTrue so ↔ Meets structs a b q
meets_there structs a b q root so e h = (
  λ t. (root, e, h.0 t),
  λ m. h.1 (subst (λ (x : Plain). piece a b.count x b.value ≡ q) (same_root m.0 root (sym m.1 ∙ e)) m.2),
)

pub meets_none : (structs : Structs) (a b : ArrayPart) (q : Sep) (stop : RuleStop) (so : Bool) → RuleStops stop (behind structs a a.count) → (so ≡ false) × HasRefused stop → IsTrue so ↔ Meets structs a b q
meets_none structs a b q (r.No why) so e h = (
  λ t. absurd (false_is_true (sym h.0 ∙ t)),
  λ m. absurd (no_root why m.0 (sym e ∙ m.1)),
)
meets_none structs a b q r.Memory so e h = absurd h.1

-- the number of elements
pub sum_whole : (m c whole less w : Plain) → less ≡ m → w ≡ whole → IsAnswer (OfSides m c (Some whole) (Some less)) (Ok w)
sum_whole m c whole less w e is = inl (e, subst (λ (x : Plain). ◌≡◌ {A = Result Plain No} (Ok x) (Ok whole)) (sym is) refl)

pub sum_other : (m c whole less : Plain) (x : Result Plain RuleStop) → (less ≡ m → ⊥) → RuleGives (λ t. t) x (plus m c) → IsAnswer (OfSides m c (Some whole) (Some less)) x
sum_other m c whole less (Ok n) h e = inr (h, sym e)
sum_other m c whole less (Err (r.No why)) h e = inr (h, sym e)
sum_other m c whole less (Err r.Memory) h e = tt

pub sum_left : (m c whole : Plain) (x : Result Plain RuleStop) → RuleGives (λ t. t) x (plus m c) → IsAnswer (OfSides m c (Some whole) None) x
sum_left m c whole (Ok n) e = sym e
sum_left m c whole (Err (r.No why)) e = sym e
sum_left m c whole (Err r.Memory) e = tt

pub sum_none : (m c : Plain) (less : Option Plain) (x : Result Plain RuleStop) → RuleGives (λ t. t) x (plus m c) → IsAnswer (OfSides m c None less) x
sum_none m c less (Ok n) e = sym e
sum_none m c less (Err (r.No why)) e = sym e
sum_none m c less (Err r.Memory) e = tt

-- the array that has the elements of both
pub both_given : (a b : ArrayPart) (n : Plain) (x : Result (List Sep) RuleStop) → RuleGives (λ ps. ps) x (both a b n) → IsAnswer (IsBoth a b n) x
both_given a b n (Ok ps) e = sym e
both_given a b n (Err (r.No why)) e = sym e
both_given a b n (Err r.Memory) e = tt

pub joins_meet : (structs : Structs) (q : Sep) (a b : ArrayPart) (x : Result (List Sep) RuleStop) → Meets structs a b q → IsAnswer (IsUnion a b) x → IsAnswer (Joins structs q a b) x
joins_meet structs q a b (Ok ps) m h = inl (m, h)
joins_meet structs q a b (Err (r.No why)) m h = inl (m, h)
joins_meet structs q a b (Err r.Memory) m h = tt

pub joins_apart : (structs : Structs) (q : Sep) (a b : ArrayPart) (why : No) → why ≡ wrong_goal → (Meets structs a b q → ⊥) → IsAnswer (Joins structs q a b) (Err (r.No why))
joins_apart structs q a b why e n = inr (n, ap (λ (w : No). Err w) e)
