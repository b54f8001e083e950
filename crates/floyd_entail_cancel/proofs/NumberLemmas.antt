-- Numbers among all parts, counted from a place.
use Rattle.std.proofs.Common.{◌≡◌, ℕ, ◌+◌, ◌-◌, ◌<◌, Bool, true, false, not, ◌&&◌, List, ◌∷◌, length, drop, get_or, refl, sym, ap, ◌∙◌, arith}
use Rattle.std.specs.Prelude.{nat_le, if◌then◌else◌}
use Rattle.std.proofs.lemmas.List.{drop_more}
use Rattle.floyd_assert_trees.specs.declared.sep.Sep.{Sep}
use Rattle.floyd_entail_cancel.specs.Cancel.{is_anything, number_among}
use Rattle.floyd_entail_cancel.specs.CancelClauses.{is_here, number_behind}

next_part : (parts : List Sep) (i k : ℕ) (p : Sep) → i < length parts → p ≡ get_or parts i p → number_among (drop i parts) k ≡ number_among (p ∷ drop (i + 1) parts) k
next_part parts i k p within is =
    ap (λ ps. number_among ps k) (drop_more parts i p within ∙ ap (λ y. y ∷ drop (i + 1) parts) (sym is))

past_by : (a b : Bool) (rest : List Sep) (k i : ℕ) → (not a && b) ≡ false → number_among rest (if a then k else k - 1) + (i + 1) ≡ (if a then number_among rest k + 1 else if b then 1 else number_among rest (k - 1) + 1) + i
past_by true b rest k i h = omega arith
past_by false true rest k i h = absurd cc
past_by false false rest k i h = omega arith

here_by : (a b : Bool) (m n : ℕ) → (not a && b) ≡ true → (if a then m else if b then 1 else n) ≡ 1
here_by true b m n h = absurd cc
here_by false true m n h = refl
here_by false false m n h = absurd cc

pub number_past : (parts : List Sep) (i k : ℕ) (p : Sep) → i < length parts → p ≡ get_or parts i p → is_here p k ≡ false → number_among (drop (i + 1) parts) (number_behind p k) + (i + 1) ≡ number_among (drop i parts) k + i
number_past parts i k p within is h =
    past_by (is_anything p) (nat_le k 1) (drop (i + 1) parts) k i h ∙ ap (λ n. n + i) (sym (next_part parts i k p within is))

pub number_here : (parts : List Sep) (i k : ℕ) (p : Sep) → i < length parts → p ≡ get_or parts i p → is_here p k ≡ true → number_among (drop i parts) k ≡ 1
number_here parts i k p within is h =
    next_part parts i k p within is ∙ here_by (is_anything p) (nat_le k 1) (number_among (drop (i + 1) parts) k + 1) (number_among (drop (i + 1) parts) (k - 1) + 1) h
