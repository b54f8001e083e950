-- The equations of two LOCALs, one after the other, and what a cancel comes to.
use Rattle.std.proofs.Common.{◌≡◌, ℕ, zero, suc, ◌+◌, ◌<◌, Bool, true, false, cond, List, [], ◌∷◌, ◌++◌, length, drop, Some, None, Result, Ok, Err, refl, sym, ◌∙◌, subst, ap, arith}
use Rattle.std.proofs.lemmas.List.{append_assoc, append-nil}
use Rattle.std.specs.Prelude.{slice_get}
use Rattle.floyd_text.specs.declared.refusal.No.{No}
use Rattle.floyd_text.specs.declared.refusal.RuleStop as r
use Rattle.floyd_text.specs.Gives.{RuleStops}
use Rattle.floyd_stub_assert.specs.declared.term.Term.{Term}
use Rattle.floyd_stub_assert.specs.declared.formula.Formula.{Formula}
use Rattle.floyd_stub_assert.specs.declared.assertion.Assertion.{Assertion}
use Rattle.floyd_stub_assert.specs.LocalTerms.{Locals}
use Rattle.floyd_stub_goal.specs.declared.goal.Context.{Context}
use Rattle.floyd_stub_goal.specs.declared.goal.Goal.{Goal}
use Rattle.floyd_stub_goal.specs.Sides.{and_then, kept, conjunction, side_goals}
use Rattle.floyd_stub_entail.specs.Cancel.{equation, and_more, equations, has_left, part_left, cancel}

-- formulas before those that are still to come
abbrev pub put_front : List Formula → Result (List Formula) No → Result (List Formula) No
put_front fs (Ok gs) = Ok (fs ++ gs)
put_front fs (Err e) = Err e

pub front_none : (o : Result (List Formula) No) → put_front [] o ≡ o
front_none (Ok gs) = refl
front_none (Err e) = refl

front_more : (fs : List Formula) (f : Formula) (o : Result (List Formula) No) → put_front (fs ++ f ∷ []) o ≡ put_front fs (and_more (Ok f) o)
front_more fs f (Ok gs) = ap (λ (hs : List Formula). Ok hs) (append_assoc fs (f ∷ []) gs)
front_more fs f (Err e) = refl

drop_at : {A : Type 0} → (xs : List A) (n : ℕ) (x : A) → slice_get xs n ≡ Some x → drop n xs ≡ x ∷ drop (n + 1) xs
drop_at [] n x e = cc
drop_at (y ∷ ys) zero x e = let p : y ≡ x = cc in ap (λ z. z ∷ ys) p
drop_at (y ∷ ys) (suc n) x e =
    let k : suc n + 1 ≡ suc (n + 1) = omega arith in
    subst (λ i. drop n ys ≡ x ∷ drop i (y ∷ ys)) (sym k) (drop_at ys n x e)

-- there is one at each number below the length
pub never_none : {A : Type 0} → (xs : List A) (n : ℕ) → n < length xs → slice_get xs n ≡ None → ⊥
never_none [] n l e = omega arith
never_none (x ∷ xs) zero l e = cc
never_none (x ∷ xs) (suc n) l e = never_none xs n (omega arith) e

-- one equation more
pub next_equation : (source target : Locals) (n : ℕ) (l : List ℕ × Term) (f : Formula) (fs : List Formula) → slice_get target n ≡ Some l → equation source l.0 l.1 ≡ Ok f → put_front fs (equations source (drop n target)) ≡ equations source target → put_front (fs ++ f ∷ []) (equations source (drop (n + 1) target)) ≡ equations source target
next_equation source target n l f fs i e p =
    front_more fs f (equations source (drop (n + 1) target))
    ∙ ap (λ o. put_front fs (and_more o (equations source (drop (n + 1) target)))) (sym e)
    ∙ ap (λ ls. put_front fs (equations source ls)) (sym (drop_at target n l i))
    ∙ p

-- the first equation that is refused
pub refused_equation : (source target : Locals) (n : ℕ) (l : List ℕ × Term) (fs : List Formula) (stop : r.RuleStop) → slice_get target n ≡ Some l → RuleStops stop (equation source l.0 l.1) → put_front fs (equations source (drop n target)) ≡ equations source target → RuleStops stop (equations source target)
refused_equation source target n l fs (r.TheVariants.No no') i e p =
    sym p
    ∙ ap (λ ls. put_front fs (equations source ls)) (drop_at target n l i)
    ∙ ap (λ o. put_front fs (and_more o (equations source (drop (n + 1) target)))) e
refused_equation source target n l fs r.TheVariants.Memory i e p = tt

-- all equations
pub all_equations : (source target : Locals) (n : ℕ) (fs : List Formula) → drop n target ≡ [] → put_front fs (equations source (drop n target)) ≡ equations source target → equations source target ≡ Ok fs
all_equations source target n fs e p =
    sym p ∙ ap (λ ls. put_front fs (equations source ls)) e ∙ ap (λ (hs : List Formula). Ok hs) (append-nil fs)

-- what a cancel comes to once the equations are there
abbrev left_or_side : Context → Assertion → Assertion → List Formula → Bool → Result (List Goal) No
left_or_side context source target es b = cond b (Err part_left) (Ok (side_goals context (conjunction (kept (target.prop ++ es)))))

cancel_is : (context : Context) (source target : Assertion) (es : List Formula) (b : Bool) → equations source.local target.local ≡ Ok es → has_left source.sep target.sep ≡ b → cancel context source target ≡ left_or_side context source target es b
cancel_is context source target es b e l =
    ap (λ o. and_then o (λ fs. left_or_side context source target fs (has_left source.sep target.sep))) e
    ∙ ap (left_or_side context source target es) l

pub cancel_left : (context : Context) (source target : Assertion) (es : List Formula) → equations source.local target.local ≡ Ok es → has_left source.sep target.sep ≡ true → cancel context source target ≡ Err part_left
cancel_left context source target es e l = cancel_is context source target es true e l

pub cancel_side : (context : Context) (source target : Assertion) (es : List Formula) (gs : List Goal) → equations source.local target.local ≡ Ok es → has_left source.sep target.sep ≡ false → gs ≡ side_goals context (conjunction (kept (target.prop ++ es))) → cancel context source target ≡ Ok gs
cancel_side context source target es gs e l i = cancel_is context source target es false e l ∙ ap (λ (hs : List Goal). Ok hs) (sym i)

pub cancel_stops : (context : Context) (source target : Assertion) (stop : r.RuleStop) → RuleStops stop (equations source.local target.local) → RuleStops stop (cancel context source target)
cancel_stops context source target (r.TheVariants.No e) p = ap (λ o. and_then o (λ fs. left_or_side context source target fs (has_left source.sep target.sep))) p
cancel_stops context source target r.TheVariants.Memory p = tt
