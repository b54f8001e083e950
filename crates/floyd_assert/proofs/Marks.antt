-- Marking the first equal part takes it out.
use Rattle.std.proofs.Common.{◌≡◌, ℕ, zero, suc, ◌+◌, ◌<◌, Bool, true, false, List, [], ◌∷◌, length, take, drop, set, get_or, replicate, refl, ap, inl, inr, arith}
use Rattle.std.proofs.lemmas.List.Elements.{All-nil, All-cons, All-head, All-tail}
use Rattle.floyd_assert_trees.specs.declared.sep.Sep.{Sep}
use Rattle.floyd_assert.specs.Removal.{Without, Lacks}
use Rattle.floyd_assert.specs.RemovalClauses.{left}

abbrev Unlike : Sep → Sep → Type 0
Unlike p q = ¬ (q ≡ p)

pub taken_out : (p : Sep) (parts : List Sep) (taken : List Bool) (i : ℕ) (d : Bool) (e : Sep) → length parts ≡ length taken → i < length parts → get_or taken i d ≡ false → get_or parts i e ≡ p → Lacks p (left (take i parts) (take i taken)) → Without p (left parts taken) (left parts (set taken i true))
taken_out p [] taken i d e n l m s h = absurd (omega arith)
taken_out p (q ∷ parts) [] i d e n l m s h = absurd (omega arith)
taken_out p (q ∷ parts) (true ∷ taken) zero d e n l m s h = absurd cc
taken_out p (q ∷ parts) (false ∷ taken) zero d e n l m s h = inl (s, refl)
taken_out p (q ∷ parts) (true ∷ taken) (suc i) d e n l m s h = taken_out p parts taken i d e (omega arith) (omega arith) m s h
taken_out p (q ∷ parts) (false ∷ taken) (suc i) d e n l m s h =
    inr (All-head (Unlike p) q _ h, (left parts (set taken i true), taken_out p parts taken i d e (omega arith) (omega arith) m s (All-tail (Unlike p) q _ h), refl))

-- a part that is taken or unlike is no equal one that is left
pub none_more : (p : Sep) (parts : List Sep) (taken : List Bool) (i j : ℕ) (d : Bool) (e : Sep) → j ≡ i + 1 → length parts ≡ length taken → i < length parts → (get_or taken i d ≡ false → get_or parts i e ≡ p → ⊥) → Lacks p (left (take i parts) (take i taken)) → Lacks p (left (take j parts) (take j taken))
none_more p parts taken i zero d e k n l m h = absurd (omega arith)
none_more p [] taken i (suc j) d e k n l m h = absurd (omega arith)
none_more p (q ∷ parts) [] i (suc j) d e k n l m h = absurd (omega arith)
none_more p (q ∷ parts) (true ∷ taken) zero (suc zero) d e k n l m h = h
none_more p (q ∷ parts) (false ∷ taken) zero (suc zero) d e k n l m h = All-cons (Unlike p) q [] (m refl) (All-nil (Unlike p))
none_more p (q ∷ parts) (b ∷ taken) zero (suc (suc j)) d e k n l m h = absurd (omega arith)
none_more p (q ∷ parts) (true ∷ taken) (suc i) (suc j) d e k n l m h = none_more p parts taken i j d e (omega arith) (omega arith) (omega arith) m h
none_more p (q ∷ parts) (false ∷ taken) (suc i) (suc j) d e k n l m h =
    All-cons (Unlike p) q _ (All-head (Unlike p) q _ h) (none_more p parts taken i j d e (omega arith) (omega arith) (omega arith) m (All-tail (Unlike p) q _ h))

-- at first all are left
pub left_all : (parts : List Sep) (n : ℕ) → left parts (replicate n false) ≡ parts
left_all [] n = refl
left_all (p ∷ parts) zero = ap (λ ps. p ∷ ps) (left_all parts 0)
left_all (p ∷ parts) (suc n) = ap (λ ps. p ∷ ps) (left_all parts n)

pub left_taken : (parts : List Sep) (taken : List Bool) (i j : ℕ) (d : Bool) → j ≡ i + 1 → length parts ≡ length taken → i < length parts → get_or taken i d ≡ true → left (drop i parts) (drop i taken) ≡ left (drop j parts) (drop j taken)
left_taken parts taken i zero d k n l t = absurd (omega arith)
left_taken [] taken i (suc j) d k n l t = absurd (omega arith)
left_taken (p ∷ parts) [] i (suc j) d k n l t = absurd (omega arith)
left_taken (p ∷ parts) (true ∷ taken) zero (suc zero) d k n l t = refl
left_taken (p ∷ parts) (false ∷ taken) zero (suc zero) d k n l t = absurd cc
left_taken (p ∷ parts) (b ∷ taken) zero (suc (suc j)) d k n l t = absurd (omega arith)
left_taken (p ∷ parts) (b ∷ taken) (suc i) (suc j) d k n l t = left_taken parts taken i j d (omega arith) (omega arith) (omega arith) t

pub left_there : (parts : List Sep) (taken : List Bool) (i j : ℕ) (d : Bool) (e : Sep) → j ≡ i + 1 → length parts ≡ length taken → i < length parts → get_or taken i d ≡ false → left (drop i parts) (drop i taken) ≡ get_or parts i e ∷ left (drop j parts) (drop j taken)
left_there parts taken i zero d e k n l t = absurd (omega arith)
left_there [] taken i (suc j) d e k n l t = absurd (omega arith)
left_there (p ∷ parts) [] i (suc j) d e k n l t = absurd (omega arith)
left_there (p ∷ parts) (true ∷ taken) zero (suc zero) d e k n l t = absurd cc
left_there (p ∷ parts) (false ∷ taken) zero (suc zero) d e k n l t = refl
left_there (p ∷ parts) (b ∷ taken) zero (suc (suc j)) d e k n l t = absurd (omega arith)
left_there (p ∷ parts) (b ∷ taken) (suc i) (suc j) d e k n l t = left_there parts taken i j d e (omega arith) (omega arith) (omega arith) t
