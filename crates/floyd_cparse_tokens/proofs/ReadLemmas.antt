-- What the code of the readers answers, step by step.
use Rattle.std.proofs.Common.{◌≡◌, ℕ, Bool, true, false, List, [], ◌∷◌, drop, length, Result, Ok, Err, IsErrAnd, refl, sym, ◌∙◌, ap, subst, le_refl}
use Rattle.floyd_grammar.specs.declared.stop.Stop.{Stop}
use Rattle.floyd_grammar.specs.declared.stop.Stop.TheVariants as stop
use Rattle.floyd_grammar.specs.ParseClauses.{Parser, Read, one, bind, ◌>>=◌, leads, folded}
use Rattle.floyd_grammar.proofs.Turns.{Turning, turning, turned, stopped, failed}
use Rattle.floyd_cparse_tokens.proofs.Shrinks.{Eats}
use Rattle.floyd_grammar.specs.GivesClauses.{Gives}
use Rattle.floyd_cparse_tokens.specs.Tokens.{Sight}
use Rattle.floyd_cparse_tokens.specs.SeenClauses.{take_as}

module _ {A : Type 0} (f : Sight → Result A ℕ) where
  one_seen : (ts : List Sight) (s : Sight) → ts ≡ s ∷ drop 1 ts → take_as (f s) ts ≡ one f ts
  one_seen ts s e = subst (λ (z : List Sight). take_as (f s) z ≡ one f z) (sym e) refl

  -- the next token was looked at, and taken for what is found in it
  pub takes_seen : (s : Sight) (found : Result A ℕ) (old new : List Sight) (result : Result A Stop) → old ≡ s ∷ drop 1 old → found ≡ f s → Gives result new (take_as found old) → Gives result new (one f old)
  takes_seen s found old new result e q g =
      subst (λ (z : Read Sight A). Gives result new z) (ap (λ (z : Result A ℕ). take_as z old) q ∙ one_seen old s e) g

  -- no token is left
  pub ends_seen : (old : List Sight) (e : Stop) → (old ≡ []) × (e ≡ stop.Fault record { left = 0; cause = 0 }) → Gives {A = A} (Err e) old (one f old)
  ends_seen old e h = rw (h.1, h.0) refl

-- A fault that is handed on.
pub gives_from : {T A : Type 0} (result : Result A Stop) (e : Stop) (ts : List T) (total : Read T A) → IsErrAnd result (λ x. x ≡ e) → Gives {A = A} (Err e) ts total → Gives result ts total
gives_from (Ok x) e ts total h g = absurd h
gives_from {T} {A} (Err x) e ts total h g = subst (λ (z : Stop). Gives {A = A} (Err z) ts total) (sym h) g

-- Two readers, one after the other.
module _ {T A B : Type 0} (p : Parser T A) (q : A → Parser T B) where
  pub gives_then : (x : A) (ts s r : List T) (result : Result B Stop) → Gives (Ok x) s (p ts) → Gives result r (q x s) → Gives result r ((p >>= q) ts)
  gives_then x ts s r result e g = subst (λ (z : Read T A). Gives result r (bind z q)) (sym e) g

  pub gives_not : (ts s : List T) (e : Stop) → Gives {A = A} (Err e) s (p ts) → Gives {A = B} (Err e) s ((p >>= q) ts)
  gives_not ts s (stop.Fault f) g = ap (λ (z : Read T A). bind z q) g
  gives_not ts s stop.Memory g = tt

-- A loop that reads items.
module _ {T A B : Type 0} {first : A → T → Bool} {join : A → B → A} {p : A → Parser T B} {x : A} {ts : List T} {total : Read T A} where
  pub gives_next : Turning first join p x ts total → Eats (p x) → leads (first x) ts ≡ true → (y : B) (r : List T) → Gives (Ok y) r (p x ts) → Turning first join p (join x y) r total
  gives_next t E e y r g = turned first join p x y ts r total t e g (E.law ts y r g)

  pub gives_end : Turning first join p x ts total → leads (first x) ts ≡ false → Gives (Ok x) ts total
  gives_end t e = stopped first join p x ts total t e

  pub gives_fault : Turning first join p x ts total → leads (first x) ts ≡ true → (e : Stop) (r : List T) → Gives {A = B} (Err e) r (p x ts) → Gives {A = A} (Err e) r total
  gives_fault t e (stop.Fault f) r g = failed first join p x ts f total t e g
  gives_fault t e stop.Memory r g = tt

-- it begins with what was read before
pub gives_init : {T A B C : Type 0} (first : A → T → Bool) (join : A → B → A) (p : A → Parser T B) (start : C → A) (q : Parser T C) (x : C) (ts r : List T) → Gives (Ok x) r (q ts) → Turning first join p (start x) r ((q >>= λ y. folded first join p (start y)) ts)
gives_init {T} {A} {B} {C} first join p start q x ts r g =
    subst (λ (z : Read T C). Turning first join p (start x) r (bind z (λ y. folded first join p (start y)))) (sym g) (turning first join p (start x) r)

-- a loop begins behind what stands before its items
pub begun_behind : {T A B C : Type 0} {first : A → T → Bool} {join : A → B → A} {p : A → Parser T B} (before : Parser T C) (start : C → A) (x : C) (ts s : List T) → Gives (Ok x) s (before ts) → Turning first join p (start x) s ((before >>= λ y. folded first join p (start y)) ts)
begun_behind {T} {A} {B} {C} {first} {join} {p} before start x ts s e = record {
  turns = length s;
  enough = le_refl (length s);
  same = sym (ap (λ (z : Read T C). bind z (λ y. folded first join p (start y))) e);
}
