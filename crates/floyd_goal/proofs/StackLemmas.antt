-- Sizes of stacks.
use Rattle.std.proofs.Common.{◌≡◌, ◌<◌, ◌≤◌, Bool, true, false, cond, List, [], ◌∷◌, ◌++◌, length, Result, Ok, Err, refl, ap, sym, subst, ◌∙◌, arith, true≢false}
use Rattle.std.specs.Prelude.{nat_le}
use Rattle.std.proofs.lemmas.List.{append_assoc}
use Rattle.std.proofs.lemmas.Bool.{le-leb, lt-leb, leb-true, false_from_ne_true}
use Rattle.floyd_text.specs.declared.refusal.No.{No}
use Rattle.floyd_text.specs.declared.refusal.RuleStop.{RuleStop}
use Rattle.floyd_text.specs.declared.refusal.RuleStop.TheVariants as r
use Rattle.floyd_text.specs.Gives.{RuleStops}
use Rattle.floyd_assert_trees.specs.Sizes.{sum_of}
use Rattle.floyd_goal_trees.specs.declared.goal.Goal.{Goal}
use Rattle.floyd_goal_trees.specs.Sizes.{goal_size}
use Rattle.floyd_goal.specs.Stacks.{fitting, most, too_many}

-- each goal counts
pub as_many : (gs : List Goal) → length gs ≤ sum_of goal_size gs
as_many [] = omega arith
as_many (g ∷ gs) = omega (arith, as_many gs)

sum_behind : (gs hs : List Goal) → sum_of goal_size hs ≤ sum_of goal_size (gs ++ hs)
sum_behind [] hs = omega arith
sum_behind (g ∷ gs) hs = omega (arith, sum_behind gs hs)

-- within the limit
pub is_fitting : (gs : List Goal) → sum_of goal_size gs ≤ most → fitting gs ≡ Ok gs
is_fitting gs h = ap (λ b. cond b (Ok gs) (Err too_many)) (le-leb (sum_of goal_size gs) most h)

pub is_not : (gs : List Goal) → most < sum_of goal_size gs → fitting gs ≡ Err too_many
is_not gs h = ap (λ b. cond b (Ok gs) (Err too_many)) (lt-leb (sum_of goal_size gs) most h)

abbrev ok_of : List Goal → Result (List Goal) No
ok_of gs = Ok gs

abbrev err_of : No → Result (List Goal) No
err_of why = Err why

refused_by : (gs : List Goal) (why : No) (b : Bool) → cond b (ok_of gs) (err_of too_many) ≡ err_of why → (b ≡ false) × (too_many ≡ why)
refused_by gs why true e = absurd cc
refused_by gs why false e = (refl, cc)

-- goals that do not fit do not fit with more before them
not_before : (gs hs : List Goal) → nat_le (sum_of goal_size hs) most ≡ false → nat_le (sum_of goal_size (gs ++ hs)) most ≡ false
not_before gs hs h =
    false_from_ne_true (nat_le (sum_of goal_size (gs ++ hs)) most) (λ y.
    true≢false (sym (le-leb (sum_of goal_size hs) most (omega (arith, leb-true (sum_of goal_size (gs ++ hs)) most y, sum_behind gs hs))) ∙ h))

-- what stopped the last goals stops all
pub stops_before : (gs hs all : List Goal) (stop : RuleStop) → gs ++ hs ≡ all → RuleStops stop (fitting hs) → RuleStops stop (fitting all)
stops_before gs hs all (r.No why) e f =
    let p = refused_by hs why (nat_le (sum_of goal_size hs) most) f in
    subst (λ xs. fitting xs ≡ err_of why) e (ap (λ b. cond b (ok_of (gs ++ hs)) (err_of too_many)) (not_before gs hs p.0) ∙ ap err_of p.1)
stops_before gs hs all r.Memory e f = tt

-- before one goal more stands on the stack
pub stops_at : (made rest : List Goal) (goal : Goal) (stack all : List Goal) (stop : RuleStop) → made ≡ rest ++ goal ∷ [] → made ++ stack ≡ all → RuleStops stop (fitting (goal ∷ stack)) → RuleStops stop (fitting all)
stops_at made rest goal stack all stop m e f =
    stops_before rest (goal ∷ stack) all stop (sym (append_assoc rest (goal ∷ []) stack) ∙ ap (λ xs. xs ++ stack) (sym m) ∙ e) f
