-- Laws of lists.
use Rattle.std.proofs.Common.{◌≡◌, ℕ, ◌+◌, ◌≤◌, List, [], drop, length, sym, ap, arith, length-drop}
use Rattle.std.proofs.lemmas.List.{drop-drop}

pub drop_one_more : {A : Type 0} → (n : ℕ) (xs : List A) → drop (n + 1) xs ≡ drop 1 (drop n xs)
drop_one_more n xs = sym (drop-drop 1 n xs)

pub drop_is_nil : {A : Type 0} → (n : ℕ) (xs : List A) → drop n xs ≡ [] → length xs ≤ n
drop_is_nil n xs e = omega (arith, length-drop n xs, ap length e)
