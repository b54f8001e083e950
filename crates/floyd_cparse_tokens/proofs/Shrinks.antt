-- No reader puts tokens back, and the item of a loop takes one at least.
use Rattle.std.proofs.Common.{◌≡◌, ℕ, zero, suc, ◌<◌, ◌≤◌, Bool, true, false, if◌then◌else◌, List, [], ◌∷◌, length, Result, Ok, Err, refl, ap, length-append, arith}
use Rattle.floyd_grammar.specs.Phrase.{Phrase}
use Rattle.floyd_grammar.specs.ParseClauses.{Parser, Read, one, taken, pure, bind, ◌>>=◌, leads, either, fold_at, folded}
use Rattle.floyd_grammar.proofs.Exact.{Exact}
use Rattle.floyd_grammar.proofs.Turns.{eats}

pub record Shrinks {T A : Type 0} (p : Parser T A) : Type 0 where
  pub law : (ts : List T) (x : A) (r : List T) → p ts ≡ Ok (x, r) → length r ≤ length ts

pub record Eats {T A : Type 0} (p : Parser T A) : Type 0 where
  pub law : (ts : List T) (x : A) (r : List T) → p ts ≡ Ok (x, r) → length r < length ts

same_pair : {T A : Type 0} (p q : A × List T) → let a : Read T A = Ok p in a ≡ Ok q → p ≡ q
same_pair p q e = cc

same_left : {T A : Type 0} (x y : A) (r s : List T) → let a : Read T A = Ok (x, r) in a ≡ Ok (y, s) → r ≡ s
same_left {T} {A} x y r s e = ap (λ (z : A × List T). z.1) (same_pair (x, r) (y, s) e)

taken_left : {T A : Type 0} (ts : List T) (o : Result A ℕ) (x : A) (r : List T) → taken ts o ≡ Ok (x, r) → ts ≡ r
taken_left ts (Ok a) x r e = same_left a x ts r e
taken_left ts (Err k) x r e = absurd cc

pub one_eats : {T A : Type 0} (f : T → Result A ℕ) → Eats (one f)
one_eats {T} {A} f = record { law = λ ts x r e. go ts x r e }
  where
    go : (ts : List T) (x : A) (r : List T) → one f ts ≡ Ok (x, r) → length r < length ts
    go [] x r e = absurd cc
    go (t ∷ ts) x r e = omega (arith, ap length (taken_left ts (f t) x r e))

pub shrinks : {T A : Type 0} {p : Parser T A} → Eats p → Shrinks p
shrinks E = record { law = λ ts x r e. omega (arith, E.law ts x r e) }

pub pure_shrinks : {T A : Type 0} (x : A) → Shrinks {T = T} (pure x)
pure_shrinks x = record { law = λ ts y r e. omega (arith, ap length (same_left x y ts r e)) }

pub bind_cases : {T A B : Type 0} (z : Read T A) (q : A → Parser T B) (y : B) (r : List T) → bind z q ≡ Ok (y, r) → (x : A) × (s : List T) × (z ≡ Ok (x, s)) × (q x s ≡ Ok (y, r))
bind_cases (Ok p) q y r e = (p.0, p.1, refl, e)
bind_cases (Err f) q y r e = absurd cc

pub then_shrinks : {T A B : Type 0} {p : Parser T A} {q : A → Parser T B} → Shrinks p → ((x : A) → Shrinks (q x)) → Shrinks (p >>= q)
then_shrinks {p = p} {q = q} P Q = record {
  law = λ ts y r e.
      let d = bind_cases (p ts) q y r e in
      omega (arith, P.law ts d.0 d.1 d.2, (Q d.0).law d.1 y r d.3);
}

pub then_eats : {T A B : Type 0} {p : Parser T A} {q : A → Parser T B} → Eats p → ((x : A) → Shrinks (q x)) → Eats (p >>= q)
then_eats {p = p} {q = q} P Q = record {
  law = λ ts y r e.
      let d = bind_cases (p ts) q y r e in
      omega (arith, P.law ts d.0 d.1 d.2, (Q d.0).law d.1 y r d.3);
}

choice_law : {T A : Type 0} (b : Bool) (x y : Read T A) (ts : List T) → ((z : A) (r : List T) → x ≡ Ok (z, r) → length r ≤ length ts) → ((z : A) (r : List T) → y ≡ Ok (z, r) → length r ≤ length ts) → (z : A) (r : List T) → (if b then x else y) ≡ Ok (z, r) → length r ≤ length ts
choice_law true x y ts f g z r e = f z r e
choice_law false x y ts f g z r e = g z r e

pub either_shrinks : {T A : Type 0} (first : T → Bool) {p q : Parser T A} → Shrinks p → Shrinks q → Shrinks (either first p q)
either_shrinks first {p} {q} P Q = record { law = λ ts z r e. choice_law (leads first ts) (p ts) (q ts) ts (P.law ts) (Q.law ts) z r e }

module _ {T A B : Type 0} (first : A → T → Bool) (join : A → B → A) (p : A → Parser T B) (P : (x : A) → Shrinks (p x)) where
  times_shrink : (n : ℕ) (x : A) → Shrinks (fold_at first join p n x)
  times_shrink zero x = pure_shrinks x
  times_shrink (suc n) x = record {
    law = λ ts z r e.
        choice_law (leads (first x) ts) (bind (p x ts) (λ y. fold_at first join p n (join x y))) (Ok (x, ts)) ts
        ((then_shrinks (P x) (λ y. times_shrink n (join x y))).law ts) ((pure_shrinks x).law ts) z r e;
  }

  pub folded_shrinks : (x : A) → Shrinks (folded first join p x)
  folded_shrinks x = record { law = λ ts z r e. (times_shrink (length ts) x).law ts z r e }

pub exact_shrinks : {T A : Type 0} {p : Parser T A} {g : Phrase T A} {first bad : T → Bool} {more : A → T → Bool} → Exact p g first bad more → Shrinks p
exact_shrinks E = record {
  law = λ ts x r e. let d = E.ok ts x r e in omega (arith, ap length d.1, length-append d.0 r);
}

pub exact_eats : {T A : Type 0} {p : Parser T A} {g : Phrase T A} {first bad : T → Bool} {more : A → T → Bool} → Exact p g first bad more → ((x : A) → g.reads [] x → ⊥) → Eats p
exact_eats E solid = record { law = λ ts x r e. eats E solid ts x r e }
