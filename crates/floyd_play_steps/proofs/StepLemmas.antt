-- What is left behind a push, and the first goal.
use Rattle.std.proofs.Common.{◌≡◌, ◌≤◌, ◌<◌, ◌+◌, ◌∙◌, ℕ, get_or, Bool, true, false, cond, List, [], ◌∷◌, ◌++◌, drop, length, Some, None, Result, Ok, Err, refl, ap, sym, subst, arith}
use Rattle.std.specs.Prelude.{nat_le, slice_get}
use Rattle.std.proofs.lemmas.Bool.{leb-true}
use Rattle.std.proofs.lemmas.List.{drop_all, drop_more}
use Rattle.std.proofs.lemmas.Option.{same_Some}
use Rattle.floyd_text.specs.declared.refusal.No.{No}
use Rattle.floyd_assert_trees.specs.Sizes.{sum_of}
use Rattle.floyd_goal.proofs.StackLemmas.{as_many}
use Rattle.floyd_goal.specs.Stacks.{most, pushed, too_many}
use Rattle.floyd_goal_trees.specs.declared.goal.Goal.{Goal}
use Rattle.floyd_goal_trees.specs.Sizes.{goal_size}
use Rattle.floyd_play_steps.specs.Few.{AllHaveFew, HasFewOfBoth}

abbrev ok_of : List Goal → Result (List Goal) No
ok_of goals = Ok goals

abbrev err_of : No → Result (List Goal) No
err_of why = Err why

-- ---- pushes

-- what is left is what was made, and behind it what was left
pub record Pushed (made old left : List Goal) : Type 0 where
  pub is : left ≡ made ++ drop 1 old
  pub small : sum_of goal_size left ≤ most

pushed_by : (all left : List Goal) (b : Bool) → nat_le (sum_of goal_size all) most ≡ b → cond b (ok_of all) (err_of too_many) ≡ ok_of left → (left ≡ all) × (sum_of goal_size left ≤ most)
pushed_by all left true t e =
    let same : all ≡ left = cc in
    (sym same, subst (λ (gs : List Goal). sum_of goal_size gs ≤ most) same (leb-true (sum_of goal_size all) most t))
pushed_by all left false t e = absurd cc

pub pushed_is : (made old left : List Goal) → pushed made old ≡ Ok left → Pushed made old left
pushed_is made old left e =
    let p = pushed_by (made ++ drop 1 old) left (nat_le (sum_of goal_size (made ++ drop 1 old)) most) refl e in
    record { is = p.0; small = p.1 }

pub few_left : (goals : List Goal) → sum_of goal_size goals ≤ most → length goals ≤ most
few_left goals h = omega (arith, h, as_many goals)

-- ---- existentials

few_both : (made left : List Goal) → AllHaveFew made → AllHaveFew left → AllHaveFew (made ++ left)
few_both [] left m l = l
few_both (g ∷ made) left m l = (m.0, few_both made left m.1 l)

few_behind : (goals : List Goal) → AllHaveFew goals → AllHaveFew (drop 1 goals)
few_behind [] h = tt
few_behind (g ∷ gs) h = h.1

pub few_after : (made old left : List Goal) → pushed made old ≡ Ok left → AllHaveFew made → AllHaveFew old → AllHaveFew left
few_after made old left e m o = subst AllHaveFew (sym (pushed_is made old left e).is) (few_both made (drop 1 old) m (few_behind old o))

pub few_there : (goals : List Goal) (i : ℕ) (g : Goal) → i < length goals → g ≡ get_or goals i g → HasFewOfBoth g → (AllHaveFew (drop i goals) → AllHaveFew goals) → AllHaveFew (drop (i + 1) goals) → AllHaveFew goals
few_there goals i g within here few so_far h = so_far (subst AllHaveFew (sym (drop_more goals i g within ∙ ap (λ x. x ∷ drop (i + 1) goals) (sym here))) (few, h))

pub few_all : (goals : List Goal) (i : ℕ) → length goals ≤ i → (AllHaveFew (drop i goals) → AllHaveFew goals) → AllHaveFew goals
few_all goals i past so_far = so_far (subst AllHaveFew (sym (drop_all i goals past)) tt)

-- ---- the first goal

pub first_is : {A : Type 0} (xs : List A) (x : A) → Some x ≡ slice_get xs 0 → xs ≡ x ∷ drop 1 xs
first_is [] x e = absurd cc
first_is (y ∷ ys) x e = ap (λ z. z ∷ ys) (sym (same_Some x y e))

pub none_is : {A : Type 0} (xs : List A) → None ≡ slice_get xs 0 → xs ≡ []
none_is [] e = refl
none_is (y ∷ ys) e = absurd cc
