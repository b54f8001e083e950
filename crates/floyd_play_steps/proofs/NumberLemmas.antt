-- Numbers that are put before a list from the last one on.
use Rattle.std.proofs.Common.{◌≡◌, ◌+◌, ◌-◌, ◌<◌, ℕ, zero, suc, List, ◌∷◌, ◌++◌, ap, sym, ◌∙◌, arith}
use Rattle.floyd_play_steps.specs.Numbers.{numbers_behind}

one_more : (made k : ℕ) (xs : List ℕ) → numbers_behind made k ++ (made + suc k) ∷ xs ≡ numbers_behind made (suc k) ++ xs
one_more made zero xs =
    let last : made + suc zero ≡ made + 1 = omega arith in
    ap (λ (n : ℕ). n ∷ xs) last
one_more made (suc j) xs =
    let last : made + suc (suc j) ≡ made + 1 + suc j = omega arith in
    ap (λ (ys : List ℕ). (made + 1) ∷ ys) (ap (λ (n : ℕ). numbers_behind (made + 1) j ++ n ∷ xs) last ∙ one_more (made + 1) j xs)

pub one_before : (made left : ℕ) (xs : List ℕ) → 0 < left → numbers_behind made (left - 1) ++ (made + left) ∷ xs ≡ numbers_behind made left ++ xs
one_before made zero xs h = absurd (omega (arith, h))
one_before made (suc k) xs h =
    let less : suc k - 1 ≡ k = omega arith in
    ap (λ (n : ℕ). numbers_behind made n ++ (made + suc k) ∷ xs) less ∙ one_more made k xs

-- none is left
pub all_before : (made left : ℕ) (list all : List ℕ) → left ≡ 0 → numbers_behind made left ++ list ≡ all → list ≡ all
all_before made left list all none e = ap (λ (n : ℕ). numbers_behind made n ++ list) (sym none) ∙ e
