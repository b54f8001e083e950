-- Either of two phrases: a reader that decides by the tokens ahead is exact where it decides right.
use Rattle.std.proofs.Common.{◌≡◌, ℕ, zero, suc, ◌≤◌, Bool, true, false, ◌⊎◌, inl, inr, List, [], ◌∷◌, ◌++◌, length, Ok, Err, refl, sym, ◌∙◌, ap, subst, append_assoc, zero-le, true≢false, arith, if◌then◌else◌, ◌||◌}
use Rattle.floyd_grammar.specs.declared.stop.Fault.{Fault}
use Rattle.floyd_grammar.specs.Phrase.{Phrase}
use Rattle.floyd_grammar.specs.Phrase as phrase
use Rattle.floyd_grammar.specs.ParseClauses.{Parser, Read, leads}
use Rattle.floyd_grammar.specs.ParseClauses as parse
use Rattle.floyd_grammar.specs.Refused.{IsCause}
use Rattle.floyd_grammar.proofs.Exact.{Within, Halts, Exact, empty_front}

-- t is refused after u by the one phrase for more than that it is not wanted: then by the other too, or it is a front there
abbrev pub IsMild : {T A : Type 0} → Phrase T A → List T → T → ℕ → Type 0
IsMild g u t k = g.refuses u t (suc k) ⊎ g.front (u ++ t ∷ [])

-- what is past a token
pub past : {T A : Type 0} (p : Parser T A) (g : Phrase T A) (first bad : T → Bool) (more : A → T → Bool) → Exact p g first bad more → (u : List T) (t : T) (r : List T) → g.front (u ++ t ∷ []) → Within (p (u ++ t ∷ r)) (length r)
past p g first bad more E u t r d = rw (sym (append_assoc u (t ∷ []) r)) (E.front (u ++ t ∷ []) r d)

-- one of two holds
pub or_left : (a b : Bool) → a ≡ true → (a || b) ≡ true
or_left a b e = rw e refl

pub or_right : (a b : Bool) → b ≡ true → (a || b) ≡ true
or_right true b e = refl
or_right false b e = e

module _ {T A : Type 0} (ahead : List T → Bool) (p : Parser T A) (g : Phrase T A) (first bad : T → Bool) (q : Parser T A) (h : Phrase T A) (first' bad' : T → Bool) (more : A → T → Bool)
    (E : Exact p g first bad more) (F : Exact q h first' bad' more)
    (left_reads : (u : List T) (x : A) (r : List T) → g.reads u x → Halts (more x) r → ahead (u ++ r) ≡ true)
    (right_reads : (u : List T) (x : A) (r : List T) → h.reads u x → Halts (more x) r → ahead (u ++ r) ≡ false)
    (left_front : (u r : List T) → g.front u → ahead (u ++ r) ≡ false → h.front u)
    (right_front : (u r : List T) → h.front u → ahead (u ++ r) ≡ true → g.front u)
    (left_mild : (u : List T) (t : T) (r : List T) (k : ℕ) → g.refuses u t (suc k) → ahead (u ++ t ∷ r) ≡ false → IsMild h u t k)
    (right_mild : (u : List T) (t : T) (r : List T) (k : ℕ) → h.refuses u t (suc k) → ahead (u ++ t ∷ r) ≡ true → IsMild g u t k) where
  abbrev other : Phrase T A
  other = phrase.◌or◌ g h

  abbrev run : Parser T A
  run = parse.either_by ahead p q

  by_ok : (ts : List T) (x : A) (r : List T) (b : Bool) → (if b then p ts else q ts) ≡ Ok (x, r) → (u : List T) × (ts ≡ u ++ r) × other.reads u x
  by_ok ts x r true e = let d = E.ok ts x r e in (d.0, d.1, inl d.2)
  by_ok ts x r false e = let d = F.ok ts x r e in (d.0, d.1, inr d.2)

  left_cause : (ts u r : List T) (f : Fault) → ahead ts ≡ true → p ts ≡ Err f → ts ≡ u ++ r → length r ≡ f.left → IsCause g.refuses u r f.cause → IsCause other.refuses u r f.cause
  left_cause ts u [] f a e cut len c = c
  left_cause ts u (t ∷ r) f a e cut len c = record { bounds = bounds; stands = λ m. inl (c.stands m) }
    where
      mild : (k : ℕ) → IsMild g u t k → suc k ≤ f.cause
      mild k (inl d) = c.bounds (suc k) d
      mild k (inr d) = absurd (omega (arith, len, subst (λ (o : Read T A). Within o (length r)) (ap p (sym cut) ∙ e) (past p g first bad more E u t r d)))

      bounds : (k : ℕ) → other.refuses u t k → k ≤ f.cause
      bounds zero d = zero-le
      bounds (suc k) (inl d) = c.bounds (suc k) d
      bounds (suc k) (inr d) = mild k (right_mild u t r k d (ap ahead (sym cut) ∙ a))

  right_cause : (ts u r : List T) (f : Fault) → ahead ts ≡ false → q ts ≡ Err f → ts ≡ u ++ r → length r ≡ f.left → IsCause h.refuses u r f.cause → IsCause other.refuses u r f.cause
  right_cause ts u [] f a e cut len c = c
  right_cause ts u (t ∷ r) f a e cut len c = record { bounds = bounds; stands = λ m. inr (c.stands m) }
    where
      mild : (k : ℕ) → IsMild h u t k → suc k ≤ f.cause
      mild k (inl d) = c.bounds (suc k) d
      mild k (inr d) = absurd (omega (arith, len, subst (λ (o : Read T A). Within o (length r)) (ap q (sym cut) ∙ e) (past q h first' bad' more F u t r d)))

      bounds : (k : ℕ) → other.refuses u t k → k ≤ f.cause
      bounds zero d = zero-le
      bounds (suc k) (inl d) = mild k (left_mild u t r k d (ap ahead (sym cut) ∙ a))
      bounds (suc k) (inr d) = c.bounds (suc k) d

  by_err : (ts : List T) (f : Fault) (b : Bool) → ahead ts ≡ b → (if b then p ts else q ts) ≡ Err f → (u r : List T) × (ts ≡ u ++ r) × (length r ≡ f.left) × other.front u × IsCause other.refuses u r f.cause
  by_err ts f true a e = let d = E.err ts f e in (d.0, d.1, d.2, d.3, inl d.4, left_cause ts d.0 d.1 f a e d.2 d.3 d.5)
  by_err ts f false a e = let d = F.err ts f e in (d.0, d.1, d.2, d.3, inr d.4, right_cause ts d.0 d.1 f a e d.2 d.3 d.5)

  by_front : (u r : List T) (b : Bool) → ahead (u ++ r) ≡ b → other.front u → Within (if b then p (u ++ r) else q (u ++ r)) (length r)
  by_front u r true a (inl d) = E.front u r d
  by_front u r true a (inr d) = E.front u r (right_front u r d a)
  by_front u r false a (inl d) = F.front u r (left_front u r d a)
  by_front u r false a (inr d) = F.front u r d

  calm_past : {P : Type 0} (o : Read T A) (x : A) (t : T) (r : List T) → o ≡ Ok (x, t ∷ r) → Within o (length r) → P
  calm_past o x t r e w = absurd (omega (arith, subst (λ (z : Read T A). Within z (length r)) e w))

  left_calm : (u : List T) (x : A) (t : T) (r : List T) (k : ℕ) → p (u ++ t ∷ r) ≡ Ok (x, t ∷ r) → IsMild g u t k → ⊥
  left_calm u x t r k e (inl d) = E.calm u x t r k e d
  left_calm u x t r k e (inr d) = calm_past (p (u ++ t ∷ r)) x t r e (past p g first bad more E u t r d)

  right_calm : (u : List T) (x : A) (t : T) (r : List T) (k : ℕ) → q (u ++ t ∷ r) ≡ Ok (x, t ∷ r) → IsMild h u t k → ⊥
  right_calm u x t r k e (inl d) = F.calm u x t r k e d
  right_calm u x t r k e (inr d) = calm_past (q (u ++ t ∷ r)) x t r e (past q h first' bad' more F u t r d)

  by_calm : (u : List T) (x : A) (t : T) (r : List T) (k : ℕ) (b : Bool) → ahead (u ++ t ∷ r) ≡ b → (if b then p (u ++ t ∷ r) else q (u ++ t ∷ r)) ≡ Ok (x, t ∷ r) → other.refuses u t (suc k) → ⊥
  by_calm u x t r k true a e (inl d) = E.calm u x t r k e d
  by_calm u x t r k true a e (inr d) = left_calm u x t r k e (right_mild u t r k d a)
  by_calm u x t r k false a e (inl d) = right_calm u x t r k e (left_mild u t r k d a)
  by_calm u x t r k false a e (inr d) = F.calm u x t r k e d

  either_law : Exact run other (λ t. first t || first' t) (λ t. bad t || bad' t) more
  either_law = record {
    ok = λ ts x r e. by_ok ts x r (ahead ts) e;
    err = λ ts f e. by_err ts f (ahead ts) refl e;
    reads = λ u x r d halts. elim d [
      | inl d ↦ rw (left_reads u x r d halts) (E.reads u x r d halts)
      | inr d ↦ rw (right_reads u x r d halts) (F.reads u x r d halts)
    ];
    front = λ u r d. by_front u r (ahead (u ++ r)) refl d;
    calm = λ u x t r k e d. by_calm u x t r k (ahead (u ++ t ∷ r)) refl e d;
    whole = λ u x d. elim d [ inl d ↦ inl (E.whole u x d) | inr d ↦ inr (F.whole u x d) ];
    shorter = λ u v d. elim d [ inl d ↦ inl (E.shorter u v d) | inr d ↦ inr (F.shorter u v d) ];
    upto = λ u t k d. elim d [ inl d ↦ inl (E.upto u t k d) | inr d ↦ inr (F.upto u t k d) ];
    begins = λ t u d. elim d [ inl d ↦ or_left (first t) (first' t) (E.begins t u d) | inr d ↦ or_right (first t) (first' t) (F.begins t u d) ];
    blames = λ t k d. elim d [ inl d ↦ or_left (bad t) (bad' t) (E.blames t k d) | inr d ↦ or_right (bad t) (bad' t) (F.blames t k d) ];
  }

-- By any look ahead: it is right of what reads, and where it is wrong of a front or a refusal, the other phrase has it
-- too, or takes the token.
pub either_by : {T A : Type 0} (ahead : List T → Bool) {p : Parser T A} {g : Phrase T A} {first bad : T → Bool} {q : Parser T A} {h : Phrase T A} {first' bad' : T → Bool} {more : A → T → Bool}
    → Exact p g first bad more → Exact q h first' bad' more
    → ((u : List T) (x : A) (r : List T) → g.reads u x → Halts (more x) r → ahead (u ++ r) ≡ true)
    → ((u : List T) (x : A) (r : List T) → h.reads u x → Halts (more x) r → ahead (u ++ r) ≡ false)
    → ((u r : List T) → g.front u → ahead (u ++ r) ≡ false → h.front u)
    → ((u r : List T) → h.front u → ahead (u ++ r) ≡ true → g.front u)
    → ((u : List T) (t : T) (r : List T) (k : ℕ) → g.refuses u t (suc k) → ahead (u ++ t ∷ r) ≡ false → IsMild h u t k)
    → ((u : List T) (t : T) (r : List T) (k : ℕ) → h.refuses u t (suc k) → ahead (u ++ t ∷ r) ≡ true → IsMild g u t k)
    → Exact (parse.either_by ahead p q) (phrase.◌or◌ g h) (λ t. first t || first' t) (λ t. bad t || bad' t) more
either_by ahead {p} {g} {first} {bad} {q} {h} {first'} {bad'} {more} E F left_reads right_reads left_front right_front left_mild right_mild =
    either_law ahead p g first bad q h first' bad' more E F left_reads right_reads left_front right_front left_mild right_mild

-- by the next token
module _ {T A : Type 0} (test : T → Bool) (p : Parser T A) (g : Phrase T A) (first bad : T → Bool) (q : Parser T A) (h : Phrase T A) (first' bad' : T → Bool) (more : A → T → Bool)
    (E : Exact p g first bad more) (F : Exact q h first' bad' more)
    (solid : (x : A) → g.reads [] x → ⊥)
    (opens : (t : T) → first t ≡ true → test t ≡ true) (blames : (t : T) → bad t ≡ true → test t ≡ true)
    (apart : (t : T) → first' t ≡ true → test t ≡ false)
    (meek : (t : T) (k : ℕ) → h.refuses [] t (suc k) → test t ≡ true → IsMild g [] t k)
    (ends : (x : A) → h.reads [] x → (t : T) → more x t ≡ false → test t ≡ false) where
  next_left_reads : (u : List T) (x : A) (r : List T) → g.reads u x → Halts (more x) r → leads test (u ++ r) ≡ true
  next_left_reads [] x r d halts = absurd (solid x d)
  next_left_reads (t ∷ u) x r d halts = opens t (E.begins t u (E.whole (t ∷ u) x d))

  next_right_reads : (u : List T) (x : A) (r : List T) → h.reads u x → Halts (more x) r → leads test (u ++ r) ≡ false
  next_right_reads [] x [] d halts = refl
  next_right_reads [] x (t ∷ r) d halts = ends x d t halts
  next_right_reads (t ∷ u) x r d halts = apart t (F.begins t u (F.whole (t ∷ u) x d))

  next_left_front : (u r : List T) → g.front u → leads test (u ++ r) ≡ false → h.front u
  next_left_front [] r d e = empty_front q h first' bad' more F
  next_left_front (t ∷ u) r d e = absurd (true≢false (sym (opens t (E.begins t u d)) ∙ e))

  next_right_front : (u r : List T) → h.front u → leads test (u ++ r) ≡ true → g.front u
  next_right_front [] r d e = empty_front p g first bad more E
  next_right_front (t ∷ u) r d e = absurd (true≢false (sym e ∙ apart t (F.begins t u d)))

  next_left_mild : (u : List T) (t : T) (r : List T) (k : ℕ) → g.refuses u t (suc k) → leads test (u ++ t ∷ r) ≡ false → IsMild h u t k
  next_left_mild [] t r k d e = absurd (true≢false (sym (blames t (E.blames t k d)) ∙ e))
  next_left_mild (s ∷ u) t r k d e = absurd (true≢false (sym (opens s (E.begins s u (E.upto (s ∷ u) t (suc k) d))) ∙ e))

  next_right_mild : (u : List T) (t : T) (r : List T) (k : ℕ) → h.refuses u t (suc k) → leads test (u ++ t ∷ r) ≡ true → IsMild g u t k
  next_right_mild [] t r k d e = meek t k d e
  next_right_mild (s ∷ u) t r k d e = absurd (true≢false (sym e ∙ apart s (F.begins s u (F.upto (s ∷ u) t (suc k) d))))

  next_law : Exact (parse.either test p q) (phrase.◌or◌ g h) (λ t. first t || first' t) (λ t. bad t || bad' t) more
  next_law = either_by (leads test) E F next_left_reads next_right_reads next_left_front next_right_front next_left_mild next_right_mild

-- By the next token, where none is of both.
pub either : {T A : Type 0} (test : T → Bool) {p : Parser T A} {g : Phrase T A} {first bad : T → Bool} {q : Parser T A} {h : Phrase T A} {first' bad' : T → Bool} {more : A → T → Bool}
    → Exact p g first bad more → Exact q h first' bad' more
    → ((x : A) → g.reads [] x → ⊥)
    → ((t : T) → first t ≡ true → test t ≡ true) → ((t : T) → bad t ≡ true → test t ≡ true)
    → ((t : T) → first' t ≡ true → test t ≡ false) → ((t : T) → bad' t ≡ true → test t ≡ false)
    → ((x : A) → h.reads [] x → (t : T) → more x t ≡ false → test t ≡ false)
    → Exact (parse.either test p q) (phrase.◌or◌ g h) (λ t. first t || first' t) (λ t. bad t || bad' t) more
either test {p} {g} {first} {bad} {q} {h} {first'} {bad'} {more} E F solid opens blames apart apart_bad ends =
    next_law test p g first bad q h first' bad' more E F solid opens blames apart (λ t k d e. absurd (true≢false (sym e ∙ apart_bad t (F.blames t k d)))) ends

-- By the next token, where the left one takes each that is tested for.
pub either_sure : {T A : Type 0} (test : T → Bool) {p : Parser T A} {g : Phrase T A} {first bad : T → Bool} {q : Parser T A} {h : Phrase T A} {first' bad' : T → Bool} {more : A → T → Bool}
    → Exact p g first bad more → Exact q h first' bad' more
    → ((x : A) → g.reads [] x → ⊥)
    → ((t : T) → first t ≡ true → test t ≡ true) → ((t : T) → bad t ≡ true → test t ≡ true)
    → ((t : T) → test t ≡ true → g.front (t ∷ []))
    → ((t : T) → first' t ≡ true → test t ≡ false)
    → ((x : A) → h.reads [] x → (t : T) → more x t ≡ false → test t ≡ false)
    → Exact (parse.either test p q) (phrase.◌or◌ g h) (λ t. first t || first' t) (λ t. bad t || bad' t) more
either_sure test {p} {g} {first} {bad} {q} {h} {first'} {bad'} {more} E F solid opens blames sure apart ends =
    next_law test p g first bad q h first' bad' more E F solid opens blames apart (λ t k d e. inr (sure t e)) ends
