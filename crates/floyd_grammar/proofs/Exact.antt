-- When a reader is exact for a phrase: it reads what the phrase reads, and else stops where the tokens are no front any
-- more, for the greatest cause there. The law of one token, of nothing, and of one phrase after the other.
use Rattle.std.proofs.Common.{◌≡◌, ℕ, zero, suc, ◌≤◌, Bool, true, false, inl, inr, List, [], ◌∷◌, ◌++◌, length, Result, Ok, Err, refl, sym, ◌∙◌, ap, subst, length-append, le_refl, le_of_eq, arith}
use Rattle.floyd_grammar.specs.declared.stop.Fault.{Fault}
use Rattle.floyd_grammar.specs.Phrase.{Phrase}
use Rattle.floyd_grammar.specs.Phrase as phrase
use Rattle.floyd_grammar.specs.ParseClauses.{Parser, Read, taken, bind, is_taken, is_blamed}
use Rattle.floyd_grammar.specs.ParseClauses as parse
use Rattle.floyd_grammar.specs.Refused.{IsGreatest, IsCause}

-- it went at least so far that at most n tokens are left
abbrev pub Within : {T A : Type 0} → Read T A → ℕ → Type 0
Within (Ok r) n = length r.1 ≤ n
Within (Err f) n = f.left ≤ n

-- the next token is none of these
abbrev pub Halts : {T : Type 0} → (T → Bool) → List T → Type 0
Halts m [] = Unit {0}
Halts m (t ∷ ts) = m t ≡ false

-- The reader p is exact for the phrase g. `first` has the tokens with which a front begins, and `bad` those that are
-- refused at the start for more than that they are not wanted. `more` has the tokens that go on with a value or are
-- refused so behind it. All three may have more.
pub record Exact {T A : Type 0} (p : Parser T A) (g : Phrase T A) (first bad : T → Bool) (more : A → T → Bool) : Type 0 where
  -- what is answered was read
  pub ok : (ts : List T) (x : A) (r : List T) → p ts ≡ Ok (x, r) → (u : List T) × (ts ≡ u ++ r) × g.reads u x
  -- the tokens before a fault are a front, and its cause is the greatest
  pub err : (ts : List T) (f : Fault) → p ts ≡ Err f → (u r : List T) × (ts ≡ u ++ r) × (length r ≡ f.left) × g.front u × IsCause g.refuses u r f.cause
  -- what reads is answered, unless the next token goes on
  pub reads : (u : List T) (x : A) (r : List T) → g.reads u x → Halts (more x) r → p (u ++ r) ≡ Ok (x, r)
  -- a front is read past
  pub front : (u r : List T) → g.front u → Within (p (u ++ r)) (length r)
  -- where it stopped with a value, the next token is refused for no more than that it is not wanted
  pub calm : (u : List T) (x : A) (t : T) (r : List T) (k : ℕ) → p (u ++ t ∷ r) ≡ Ok (x, t ∷ r) → g.refuses u t (suc k) → ⊥
  -- laws of the phrase alone
  pub whole : (u : List T) (x : A) → g.reads u x → g.front u
  pub shorter : (u v : List T) → g.front (u ++ v) → g.front u
  pub upto : (u : List T) (t : T) (k : ℕ) → g.refuses u t k → g.front u
  pub begins : (t : T) (u : List T) → g.front (t ∷ u) → first t ≡ true
  pub blames : (t : T) (k : ℕ) → g.refuses [] t (suc k) → bad t ≡ true

-- what a list is that has no element
pub nil_left : {T : Type 0} (u v : List T) → u ++ v ≡ [] → u ≡ []
nil_left [] v e = refl
nil_left (t ∷ u) v e = cc

pub nil_right : {T : Type 0} (u v : List T) → u ++ v ≡ [] → v ≡ []
nil_right [] v e = e
nil_right (t ∷ u) v e = cc

-- an answer is its value and what is left, a fault its parts
abbrev pub answer : {T A : Type 0} → A → List T → Read T A
answer x r = Ok (x, r)

abbrev value_of : {T A : Type 0} → A → Read T A → A
value_of d (Ok r) = r.0
value_of d (Err f) = d

abbrev rest_of : {T A : Type 0} → List T → Read T A → List T
rest_of d (Ok r) = r.1
rest_of d (Err f) = d

abbrev fault_of : {A : Type 0} → Fault → Result A Fault → Fault
fault_of d (Ok r) = d
fault_of d (Err f) = f

pub same_value : {T A : Type 0} (x y : A) (r s : List T) → answer x r ≡ answer y s → x ≡ y
same_value x y r s e = ap (value_of x) e

pub same_rest : {T A : Type 0} (x y : A) (r s : List T) → answer x r ≡ answer y s → r ≡ s
same_rest x y r s e = ap (rest_of r) e

pub same_fault : {A : Type 0} (f g : Fault) (o : Result A Fault) → o ≡ Err f → o ≡ Err g → f ≡ g
same_fault f g o a b = ap (fault_of f) (sym a ∙ b)

-- no answer is a fault
pub answer≢fault : {T A : Type 0} {P : Type 0} (o : Read T A) (x : A) (r : List T) (f : Fault) → o ≡ Ok (x, r) → o ≡ Err f → P
answer≢fault o x r f a b = cc

-- a cause that is none but 0
pub no_cause : {C : ℕ → Type 0} → ((k : ℕ) → C (suc k) → ⊥) → IsGreatest C 0
no_cause {C} none = record { bounds = bounds; stands = λ h. absurd (omega arith) }
  where
    bounds : (k : ℕ) → C k → k ≤ 0
    bounds zero c = le_refl 0
    bounds (suc k) c = absurd (none k c)

-- what is read of a list is no longer than it
pub shrinks : {T A : Type 0} (p : Parser T A) (g : Phrase T A) (first bad : T → Bool) (more : A → T → Bool) → Exact p g first bad more → (ts : List T) → Within (p ts) (length ts)
shrinks {T} {A} p g first bad more E ts = go (p ts) refl
  where
    go : (o : Read T A) → p ts ≡ o → Within o (length ts)
    go (Ok r) e = let d = E.ok ts r.0 r.1 e in omega (arith, ap length d.1, length-append d.0 r.1)
    go (Err f) e = let d = E.err ts f e in omega (arith, ap length d.2, length-append d.0 d.1, d.3)

-- nothing is a front
pub empty_front : {T A : Type 0} (p : Parser T A) (g : Phrase T A) (first bad : T → Bool) (more : A → T → Bool) → Exact p g first bad more → g.front []
empty_front {T} {A} p g first bad more E = go (p []) refl
  where
    go : (o : Read T A) → p [] ≡ o → g.front []
    go (Ok r) e = let d = E.ok [] r.0 r.1 e in E.shorter [] d.0 (E.whole d.0 r.0 d.2)
    go (Err f) e = let d = E.err [] f e in E.shorter [] d.0 d.4

-- one token
module _ {T A : Type 0} (f : T → Result A ℕ) where
  abbrev pub token_first : T → Bool
  token_first t = is_taken (f t)

  abbrev pub token_bad : T → Bool
  token_bad t = is_blamed (f t)

  token_ok_at : (t : T) (ts : List T) (o : Result A ℕ) → f t ≡ o → (x : A) (r : List T) → taken ts o ≡ Ok (x, r) → (u : List T) × (t ∷ ts ≡ u ++ r) × (phrase.one f).reads u x
  token_ok_at t ts (Ok a) e x r q = (t ∷ [], ap (λ (z : List T). t ∷ z) (same_rest a x ts r q), (t, refl, e ∙ ap (λ (z : A). Ok z) (same_value a x ts r q)))
  token_ok_at t ts (Err k) e x r q = cc

  token_ok : (ts : List T) (x : A) (r : List T) → parse.one f ts ≡ Ok (x, r) → (u : List T) × (ts ≡ u ++ r) × (phrase.one f).reads u x
  token_ok [] x r q = cc
  token_ok (t ∷ ts) x r q = token_ok_at t ts (f t) refl x r q

  abbrev cause_at : ℕ → Result A ℕ → ℕ
  cause_at d (Ok a) = d
  cause_at d (Err k) = k

  token_cause : (t : T) (k : ℕ) → f t ≡ Err k → IsGreatest ((phrase.one f).refuses [] t) k
  token_cause t k e = record { bounds = λ j d. le_of_eq (ap (cause_at j) (sym d.1 ∙ e)); stands = λ _. (refl, e) }

  token_err_at : (t : T) (ts : List T) (o : Result A ℕ) → f t ≡ o → (z : Fault) → taken ts o ≡ Err z → (u r : List T) × (t ∷ ts ≡ u ++ r) × (length r ≡ z.left) × (phrase.one f).front u × IsCause (phrase.one f).refuses u r z.cause
  token_err_at t ts (Ok a) e z q = cc
  token_err_at t ts (Err k) e z q =
      let same = same_fault (record { left = suc (length ts); cause = k }) z (taken ts (Err k)) refl q in
      ([], t ∷ ts, refl, ap (λ (y : Fault). y.left) same, inl refl, subst (λ (y : Fault). IsGreatest ((phrase.one f).refuses [] t) y.cause) same (token_cause t k e))

  token_err : (ts : List T) (z : Fault) → parse.one f ts ≡ Err z → (u r : List T) × (ts ≡ u ++ r) × (length r ≡ z.left) × (phrase.one f).front u × IsCause (phrase.one f).refuses u r z.cause
  token_err [] z q =
      let same = same_fault (record { left = 0; cause = 0 }) z (parse.one f []) refl q in
      ([], [], refl, ap (λ (y : Fault). y.left) same, inl refl, sym (ap (λ (y : Fault). y.cause) same))
  token_err (t ∷ ts) z q = token_err_at t ts (f t) refl z q

  token_within_at : (ts : List T) (o : Result A ℕ) → Within (taken ts o) (suc (length ts))
  token_within_at ts (Ok a) = omega arith
  token_within_at ts (Err k) = omega arith

  token_within : (ts : List T) → Within (parse.one f ts) (length ts)
  token_within [] = omega arith
  token_within (t ∷ ts) = token_within_at ts (f t)

  token_shorter : (u v : List T) → (phrase.one f).front (u ++ v) → (phrase.one f).front u
  token_shorter [] v d = inl refl
  token_shorter (s ∷ u) v (inl e) = absurd cc
  token_shorter (s ∷ u) v (inr d) =
      let rest : u ++ v ≡ [] = cc in
      let none : u ≡ [] = nil_left u v rest in
      inr (d.0, d.1, cc, d.3)

  token_calm : (u : List T) (x : A) (t : T) (r : List T) (k : ℕ) → parse.one f (u ++ t ∷ r) ≡ Ok (x, t ∷ r) → (phrase.one f).refuses u t (suc k) → ⊥
  token_calm u x t r k q d =
      let q1 = subst (λ (z : List T). parse.one f (z ++ t ∷ r) ≡ Ok (x, t ∷ r)) d.0 q in
      let q2 = subst (λ (o : Result A ℕ). taken r o ≡ Ok (x, t ∷ r)) d.1 q1 in
      cc

  pub token : Exact (parse.one f) (phrase.one f) token_first token_bad (λ x t. false)
  token = record {
    ok = token_ok;
    err = token_err;
    reads = λ u x r d halts. rw (d.1, d.2) refl;
    front = λ u r d. elim d [ inl e ↦ rw e (token_within r) | inr d ↦ rw (d.2, d.3) (le_refl (length r)) ];
    calm = token_calm;
    whole = λ u x d. inr (d.0, x, d.1, d.2);
    shorter = token_shorter;
    upto = λ u t k d. inl d.0;
    begins = λ t u d. elim d [ inl e ↦ absurd cc | inr d ↦ let h : t ≡ d.0 = cc in rw (h, d.3) refl ];
    blames = λ t k d. rw d.1 refl;
  }

pub token_solid : {T A : Type 0} (f : T → Result A ℕ) (x : A) → (phrase.one f).reads [] x → ⊥
token_solid f x d = cc

-- nothing, whose value is given; no token goes on with it, whatever is said to
pub nothing : {T A : Type 0} (a : A) (more : A → T → Bool) → Exact (parse.pure a) (phrase.pure a) (λ t. false) (λ t. false) more
nothing a more = record {
  ok = λ ts x r e. ([], same_rest a x ts r e, (refl, sym (same_value a x ts r e)));
  err = λ ts f e. absurd cc;
  reads = λ u x r d halts. rw (d.0, d.1) refl;
  front = λ u r e. rw e (le_refl (length r));
  calm = λ u x t r k e d. d;
  whole = λ u x d. d.0;
  shorter = λ u v e. nil_left u v e;
  upto = λ u t k d. absurd d;
  begins = λ t u e. absurd cc;
  blames = λ t k d. absurd d;
}
