-- Laws of lists.
use Rattle.std.proofs.Common.{◌≡◌, ℕ, ◌+◌, ◌≤◌, List, [], ◌∷◌, ◌++◌, length, drop, reverse, Some, sym, ◌∙◌, ap, arith, length-drop}
use Rattle.std.proofs.lemmas.List.{drop-drop, reverse-append, append_assoc}
use Rattle.std.specs.Prelude.{slice_get}
use Rattle.floyd_stub_goal.specs.declared.goal.Goal.{Goal}
use Rattle.floyd_stub_goal.specs.declared.stack.Numbered.{Numbered}
use Rattle.floyd_stub_goal.specs.Starts.{numbered}

pub drop_one_more : {A : Type 0} → (n : ℕ) (xs : List A) → drop (n + 1) xs ≡ drop 1 (drop n xs)
drop_one_more n xs = sym (drop-drop 1 n xs)

pub drop_is_nil : {A : Type 0} → (n : ℕ) (xs : List A) → drop n xs ≡ [] → length xs ≤ n
drop_is_nil n xs e = omega (arith, length-drop n xs, ap length e)

-- a list and its first item
pub first_of : {A : Type 0} → (xs : List A) (x : A) → slice_get xs 0 ≡ Some x → xs ≡ x ∷ drop 1 xs
first_of [] x e = cc
first_of (y ∷ ys) x e = let p : y ≡ x = cc in ap (λ z. z ∷ ys) p

pub reverse_last : {A : Type 0} → (xs : List A) (x : A) → reverse (xs ++ x ∷ []) ≡ x ∷ reverse xs
reverse_last xs x = reverse-append xs (x ∷ [])

-- the last of numbered goals
pub numbered_last : (n : ℕ) (gs : List Goal) (g : Goal) → numbered n (gs ++ g ∷ []) ≡ numbered n gs ++ record { number = n + length gs; goal = g } ∷ []
numbered_last n [] g = ap (λ k. record { number = k; goal = g } ∷ []) (omega arith)
numbered_last n (h ∷ gs) g =
    ap (λ ls. record { number = n; goal = h } ∷ ls)
    (numbered_last (n + 1) gs g ∙ ap (λ k. numbered (n + 1) gs ++ record { number = k; goal = g } ∷ []) (omega arith))

-- a last goal goes before those that are left
pub numbered_put : (n : ℕ) (gs : List Goal) (g : Goal) (left : List Numbered) → numbered n (gs ++ g ∷ []) ++ left ≡ numbered n gs ++ record { number = n + length gs; goal = g } ∷ left
numbered_put n gs g left =
    ap (λ ls. ls ++ left) (numbered_last n gs g) ∙ append_assoc (numbered n gs) (record { number = n + length gs; goal = g } ∷ []) left
