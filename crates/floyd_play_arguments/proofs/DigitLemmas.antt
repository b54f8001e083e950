-- Digits are read one after another, and what is beyond the greatest number stays there.
use Rattle.std.proofs.Common.{◌≡◌, ℕ, length, ◌+◌, ◌*◌, ◌-◌, ◌≤◌, Bool, true, false, nat_le, List, [], ◌∷◌, arith, refl, ap, sym, ◌∙◌}
use Rattle.floyd_play_arguments.specs.Numbers.{last, capped, digits_behind}

grown : (n : ℕ) (bs : List ℕ) → n ≤ digits_behind n bs
grown n [] = omega arith
grown n (b ∷ bs) =
    let rest : n * 10 + (b - 48) ≤ digits_behind (n * 10 + (b - 48)) bs = grown (n * 10 + (b - 48)) bs in
    omega (arith, rest)

beyond : (n : ℕ) → last ≤ n → capped n ≡ last
beyond n h = grind (arith, h)

within : (n : ℕ) → nat_le n last ≡ true → capped n ≡ n
within n h = grind (arith, h)

more_than : (n : ℕ) → nat_le n last ≡ false → last ≤ n
more_than n h = grind (arith, h)

capped_more : (n : ℕ) (bs : List ℕ) → last ≤ n → capped (digits_behind n bs) ≡ last
capped_more n bs h = let more : n ≤ digits_behind n bs = grown n bs in beyond (digits_behind n bs) (omega (arith, h, more))

by_test : (n : ℕ) (bs : List ℕ) (b : Bool) → nat_le n last ≡ b → capped (digits_behind (capped n) bs) ≡ capped (digits_behind n bs)
by_test n bs true h = ap (λ (k : ℕ). capped (digits_behind k bs)) (within n h)
by_test n bs false h =
    let great : last ≤ n = more_than n h in
    ap (λ (k : ℕ). capped (digits_behind k bs)) (beyond n great) ∙ capped_more last bs (omega arith) ∙ sym (capped_more n bs great)

pub one_digit : (n : ℕ) (bs : List ℕ) → capped (digits_behind (capped n) bs) ≡ capped (digits_behind n bs)
one_digit n bs = by_test n bs (nat_le n last) refl

unchanged : (n : ℕ) → n ≤ last → capped n ≡ n
unchanged n h = grind (arith, h)

-- no digit is left
pub read_all : (n : ℕ) (bs all : List ℕ) → length bs ≡ 0 → n ≤ last → capped (digits_behind n bs) ≡ capped (digits_behind 0 all) → n ≡ capped (digits_behind 0 all)
read_all n [] all none h same = sym (unchanged n h) ∙ same
read_all n (b ∷ bs) all none h same = absurd cc
