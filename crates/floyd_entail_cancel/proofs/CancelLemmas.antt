-- What is left once parts are taken out, and what `cancel` answers then.
use Rattle.std.proofs.Common.{◌≡◌, ℕ, ◌+◌, ◌<◌, Bool, true, false, List, [], ◌∷◌, length, Option, Some, None, Result, Ok, Err, refl, sym, ap, subst, ◌∙◌, inl, inr, arith}
use Rattle.std.specs.List.{list_any}
use Rattle.floyd_text.specs.declared.refusal.No.{No}
use Rattle.floyd_text.specs.declared.refusal.RuleStop.{RuleStop}
use Rattle.floyd_text.specs.declared.refusal.RuleStop.TheVariants as r
use Rattle.floyd_assert.specs.Removal.{Difference, GivesDifference, Without, missing}
use Rattle.floyd_assert_trees.specs.declared.sep.Sep.{Sep}
use Rattle.floyd_assert_trees.specs.declared.sep.Sep.TheVariants.{FieldAt, Padding, Valid, Anything, Predicate}
use Rattle.floyd_goal_trees.specs.declared.goal.Entail.{Entail}
use Rattle.floyd_goal_trees.specs.declared.goal.Goal.{Goal}
use Rattle.floyd_goal.specs.Answers.{IsAnswer}
use Rattle.floyd_entail_cancel.specs.Cancel.{IsFirstLeft, LeavesNone, TakesLocals, TakesParts, UnlessMissing, WhenDone, first_missing, is_anything, is_done, number_among, part_left, solid}
use Rattle.floyd_entail_cancel.specs.CancelClauses.{IsMissing, Renumbers, part_shown, shown_part}

-- each part that is taken out is one less
without_count : (p : Sep) (parts rest : List Sep) → Without p parts rest → length parts ≡ length rest + 1
without_count p [] rest w = absurd w
without_count p (q ∷ parts) rest (inl h) = omega (arith, ap length h.1)
without_count p (q ∷ parts) rest (inr h) = omega (arith, without_count p parts h.1.0 h.1.1, ap length h.1.2)

not_refused : (rest : List Sep) (why : No) → ◌≡◌ {A = Result (List Sep) No} (Ok rest) (Err why) → ⊥
not_refused rest why e = cc

not_given : (rest : List Sep) (why : No) → ◌≡◌ {A = Result (List Sep) No} (Err why) (Ok rest) → ⊥
not_given rest why e = cc

same_rest : (rest parts : List Sep) → ◌≡◌ {A = Result (List Sep) No} (Ok rest) (Ok parts) → rest ≡ parts
same_rest rest parts e = cc

same_why : (one other : No) → ◌≡◌ {A = Result (List Sep) No} (Err one) (Err other) → one ≡ other
same_why one other e = cc

pub difference_count : (parts : List Sep) (k : ℕ) (gone rest : List Sep) → Difference parts k gone (Ok rest) → length parts ≡ length gone + length rest
difference_count parts k [] rest d = omega (arith, ap length (same_rest rest parts d))
difference_count parts k (p ∷ gone) rest (inl h) = omega (arith, without_count p parts h.0 h.1, difference_count h.0 (k + 1) gone rest h.2)
difference_count parts k (p ∷ gone) rest (inr h) = absurd (not_refused rest (missing k) h.1)

-- a refusal tells the number of the part that is missing
pub difference_why : (parts : List Sep) (k : ℕ) (gone : List Sep) (why : No) → Difference parts k gone (Err why) → (m : ℕ) × (why ≡ missing m)
difference_why parts k [] why d = absurd (not_given parts why d)
difference_why parts k (p ∷ gone) why (inl h) = difference_why h.0 (k + 1) gone why h.2
difference_why parts k (p ∷ gone) why (inr h) = (k, same_why why (missing k) h.1)

some_same : (m n : ℕ) → Some m ≡ Some n → m ≡ n
some_same m n e = cc

none_some : (m : ℕ) → Some m ≡ None → ⊥
none_some m e = cc

number_shown : (why : No) (m n : ℕ) → Some n ≡ part_shown why.shown → why ≡ missing m → n ≡ m
number_shown why m n e is = some_same n m (e ∙ ap (λ (w : No). part_shown w.shown) is)

pub missing_told : (stop : RuleStop) (parts gone : List Sep) (n : ℕ) → GivesDifference (Err stop) parts gone → Some n ≡ shown_part stop → Difference parts 1 gone (Err (missing n))
missing_told (r.No why) parts gone n d e =
    let q = difference_why parts 1 gone why d in
    subst (λ w. Difference parts 1 gone (Err w)) (q.1 ∙ ap missing (sym (number_shown why q.0 n e q.1))) d
missing_told r.Memory parts gone n d e = absurd (none_some n e)

pub renumbers : (target : List Sep) (stop other : RuleStop) (m : ℕ) → Some m ≡ shown_part stop → IsMissing other (number_among target m) → Renumbers target stop other
renumbers target (r.No why) other m e h = λ n is. subst (λ k. IsMissing other (number_among target k)) (number_shown why n m e is) h
renumbers target r.Memory other m e h = absurd (none_some m e)

pub renumbers_none : (target : List Sep) (stop : RuleStop) → Renumbers target stop r.Memory
renumbers_none target (r.No why) = λ n is. tt
renumbers_none target r.Memory = refl

-- without TT all parts are solid
solid_all : (parts : List Sep) → list_any is_anything parts ≡ false → solid parts ≡ parts
solid_all [] e = refl
solid_all (FieldAt region value ∷ parts) e = ap (λ ps. FieldAt region value ∷ ps) (solid_all parts e)
solid_all (Padding region ∷ parts) e = ap (λ ps. Padding region ∷ ps) (solid_all parts e)
solid_all (Valid address ∷ parts) e = ap (λ ps. Valid address ∷ ps) (solid_all parts e)
solid_all (Anything ∷ parts) e = absurd cc
solid_all (Predicate name terms ∷ parts) e = ap (λ ps. Predicate name terms ∷ ps) (solid_all parts e)

pub done_more : (rest target : List Sep) → (rest ≡ [] → ⊥) → is_done rest target ≡ list_any is_anything target
done_more [] target h = absurd (h refl)
done_more (p ∷ rest) target h = refl

-- where something is left, the source has more parts
pub more_left : (source target rest : List Sep) → Difference source 1 (solid target) (Ok rest) → is_done rest target ≡ false → length target < length source
more_left source target [] d e = absurd cc
more_left source target (p ∷ rest) d e = omega (arith, difference_count source 1 (solid target) (p ∷ rest) d, ap length (solid_all target e))

-- the source has no more parts than the target where all of it is taken out
pub all_gone : (source target rest : List Sep) → Difference target 1 source (Ok rest) → length target < length source → ⊥
all_gone source target rest d more = omega (arith, difference_count target 1 source rest d)

-- what `cancel` answers
pub none_left : (entail : Entail) (rest : List Sep) (x : Result (List Goal) RuleStop) (b : Bool) → is_done rest entail.target.parts ≡ b → IsAnswer (WhenDone entail b) x → IsAnswer (LeavesNone entail rest) x
none_left entail rest x b e h = subst (λ y. IsAnswer (WhenDone entail y) x) (sym e) h

pub one_left : (entail : Entail) (rest source target : List Sep) (why : No) → is_done rest entail.target.parts ≡ false → source ≡ entail.source.parts → target ≡ entail.target.parts → (k : ℕ) × IsFirstLeft source target k × (why ≡ part_left k) → IsAnswer (LeavesNone entail rest) (Err (r.No why))
one_left entail rest source target why e f g h =
    let left : IsFirstLeft entail.source.parts entail.target.parts h.0 =
    subst (λ ps. IsFirstLeft ps entail.target.parts h.0) f (subst (λ ps. IsFirstLeft source ps h.0) g h.1) in
    none_left entail rest (Err (r.No why)) false e (h.0, left, ap (λ (w : No). Err w) h.2)

pub rest_goes : (entail : Entail) (rest : List Sep) (x : Result (List Goal) RuleStop) → Difference entail.source.parts 1 (solid entail.target.parts) (Ok rest) → IsAnswer (LeavesNone entail rest) x → IsAnswer (TakesParts entail) x
rest_goes entail rest (Ok goals) d h = inl (rest, d, h)
rest_goes entail rest (Err (r.No why)) d h = inl (rest, d, h)
rest_goes entail rest (Err r.Memory) d h = tt

missing_goes : (entail : Entail) (n : ℕ) (other : RuleStop) → Difference entail.source.parts 1 (solid entail.target.parts) (Err (missing n)) → IsMissing other (number_among entail.target.parts n) → IsAnswer (TakesParts entail) (Err other)
missing_goes entail n (r.No why) d h = inr (n, d, ap (λ (w : No). Err w) h)
missing_goes entail n r.Memory d h = tt

-- a part is missing
pub stop_goes : (entail : Entail) (stop other : RuleStop) → GivesDifference (Err stop) entail.source.parts (solid entail.target.parts) → Renumbers entail.target.parts stop other → IsAnswer (TakesParts entail) (Err other)
stop_goes entail (r.No why) other d f =
    let q = difference_why entail.source.parts 1 (solid entail.target.parts) why d in
    missing_goes entail q.0 other (subst (λ w. Difference entail.source.parts 1 (solid entail.target.parts) (Err w)) q.1 d) (f q.0 q.1)
stop_goes entail r.Memory other d f = subst (λ (s : RuleStop). IsAnswer (TakesParts entail) (Err s)) (sym f) tt

-- none of the target's temporaries is missing
pub locals_there : (entail : Entail) (x : Result (List Goal) RuleStop) → first_missing entail.source.locals entail.target.locals ≡ None → IsAnswer (TakesParts entail) x → IsAnswer (TakesLocals entail) x
locals_there entail x e h = subst (λ (o : Option (List ℕ)). IsAnswer (UnlessMissing o (TakesParts entail)) x) (sym e) h
