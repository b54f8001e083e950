-- Tokens are refused at one place at most, for one cause.
use Rattle.std.proofs.Common.{◌≡◌, ℕ, zero, suc, ◌+◌, ◌-◌, ◌<◌, ◌≤◌, List, [], ◌∷◌, length, take, drop, sym, ◌∙◌, ap, subst, zero-le, arith}
use Rattle.floyd_grammar.specs.declared.stop.Fault.{Fault}
use Rattle.floyd_grammar.specs.Phrase.{Phrase}
use Rattle.floyd_grammar.specs.Refused.{StopsAt, IsGreatest, IsCause, IsRefused}

-- no list stops before it stops
not_before : {T : Type 0} (front : List T → Type 0) (ts : List T) (j k : ℕ) → StopsAt front ts j → StopsAt front ts k → j < k → 1 ≤ 0
not_before front ts j k a b lt = absurd (a.no_further (omega (arith, lt, b.within)) (b.so_far (j + 1) (omega (arith, lt))))

pub one_place : {T : Type 0} (front : List T → Type 0) (ts : List T) (j k : ℕ) → StopsAt front ts j → StopsAt front ts k → j ≡ k
one_place front ts j k a b =
    let l : j < k → 1 ≤ 0 = not_before front ts j k a b in
    let r : k < j → 1 ≤ 0 = not_before front ts k j b a in
    grind (arith, l, r)

no_greater : (causes : ℕ → Type 0) (j k : ℕ) → IsGreatest causes j → IsGreatest causes k → j ≤ k
no_greater causes zero k a b = zero-le
no_greater causes (suc j) k a b = b.bounds (suc j) (a.stands (omega arith))

pub one_cause : {T : Type 0} (refuses : List T → T → ℕ → Type 0) (u r : List T) (j k : ℕ) → IsCause refuses u r j → IsCause refuses u r k → j ≡ k
one_cause refuses u [] j k a b = a ∙ sym b
one_cause refuses u (t ∷ r) j k a b =
    let l = no_greater (refuses u t) j k a b in
    let g = no_greater (refuses u t) k j b a in
    omega (arith, l, g)

-- What is said of the place and the cause of a refusal is said of each.
pub one_refusal : {T A R : Type 0} (g : Phrase T A) (ts : List T) (say : ℕ → ℕ → R) (f h : Fault) → IsRefused g ts f → IsRefused g ts h → say (length ts - f.left) f.cause ≡ say (length ts - h.left) h.cause
one_refusal g ts say f h a b =
    let at = one_place g.front ts (length ts - f.left) (length ts - h.left) a.place b.place in
    let why = one_cause g.refuses (take (length ts - f.left) ts) (drop (length ts - f.left) ts) f.cause h.cause a.cause (subst (λ (n : ℕ). IsCause g.refuses (take n ts) (drop n ts) h.cause) (sym at) b.cause) in
    ap (λ (n : ℕ). say n f.cause) at ∙ ap (λ (k : ℕ). say (length ts - h.left) k) why
