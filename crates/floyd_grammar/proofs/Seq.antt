-- One phrase after the other: a reader of both is exact where no token with which the second begins goes on with the
-- first.
use Rattle.std.proofs.Common.{◌≡◌, ℕ, zero, suc, ◌≤◌, Bool, true, false, ◌⊎◌, inl, inr, List, [], ◌∷◌, ◌++◌, length, Result, Ok, Err, refl, sym, ◌∙◌, ap, subst, append_assoc, append-nil, length-append, true≢false, zero-le, arith}
use Rattle.std.specs.Prelude.{Option, Some, None}
use Rattle.std.proofs.lemmas.List.{append_cancel_right}
use Rattle.floyd_grammar.specs.declared.stop.Fault.{Fault}
use Rattle.floyd_grammar.specs.Phrase.{Phrase}
use Rattle.floyd_grammar.specs.Phrase as phrase
use Rattle.floyd_grammar.specs.ParseClauses.{Parser, Read, bind, is_taken, is_blamed}
use Rattle.floyd_grammar.specs.ParseClauses as parse
use Rattle.floyd_grammar.specs.Refused.{IsGreatest, IsCause}
use Rattle.floyd_grammar.proofs.Exact.{Within, Halts, Exact, nil_left, nil_right, same_value, same_rest, same_fault, answer≢fault, no_cause, shrinks, empty_front, token, token_solid, nothing}

-- of two ways to cut a list one goes at least as far as the other
pub cuts : {T : Type 0} (u v w z : List T) → u ++ v ≡ w ++ z → ((a : List T) × (w ≡ u ++ a)) ⊎ ((a : List T) × (u ≡ w ++ a) × (z ≡ a ++ v))
cuts [] v w z e = inl (w, refl)
cuts (t ∷ u) v [] z e = inr (t ∷ u, refl, sym e)
cuts (t ∷ u) v (s ∷ w) z e =
    let rest : u ++ v ≡ w ++ z = cc in
    let first : t ≡ s = cc in
    elim (cuts u v w z rest) [
      | inl d ↦ inl (d.0, cc)
      | inr d ↦ inr (d.0, cc, d.2)
    ]

-- a refusal after a list is one at its end
pub cut_at : {T : Type 0} (t : T) (u v r : List T) → (u ++ v) ++ t ∷ r ≡ u ++ (v ++ t ∷ r)
cut_at t u v r = append_assoc u v (t ∷ r)

-- what is left is at most so much, wherever the second goes on
pub within_then : {T A B : Type 0} (o : Read T A) (q : A → Parser T B) (n : ℕ) → Within o n → ((x : A) (ts : List T) → Within (q x ts) (length ts)) → Within (bind o q) n
within_then {T} {A} {B} (Ok r) q n w s = go (q r.0 r.1) (s r.0 r.1)
  where
    go : (o : Read T B) → Within o (length r.1) → Within o n
    go (Ok y) h = omega arith
    go (Err f) h = omega arith
within_then (Err f) q n w s = w

module _ {T A B : Type 0} (p : Parser T A) (g : Phrase T A) (first bad : T → Bool) (more : A → T → Bool) (q : A → Parser T B) (h : A → Phrase T B) (first' bad' : A → T → Bool) (more' : B → T → Bool)
    (E : Exact p g first bad more) (F : (x : A) → Exact (q x) (h x) (first' x) (bad' x) more')
    (apart : (u : List T) (x : A) → g.reads u x → (t : T) → first' x t ≡ true → more x t ≡ false)
    (apart_bad : (u : List T) (x : A) → g.reads u x → (t : T) → bad' x t ≡ true → more x t ≡ false)
    (ends : (u : List T) (x : A) (y : B) → g.reads u x → (h x).reads [] y → (t : T) → more' y t ≡ false → more x t ≡ false) where
  abbrev both : Phrase T B
  both = phrase.◌>>=◌ g h

  abbrev run : Parser T B
  run = parse.◌>>=◌ p q

  seq_ok_at : (ts : List T) (o : Read T A) → p ts ≡ o → (y : B) (r : List T) → bind o q ≡ Ok (y, r) → (w : List T) × (ts ≡ w ++ r) × both.reads w y
  seq_ok_at ts (Ok a) e y r b =
      let d = E.ok ts a.0 a.1 e in
      let d' = (F a.0).ok a.1 y r b in
      (d.0 ++ d'.0, d.1 ∙ ap (λ (z : List T). d.0 ++ z) d'.1 ∙ sym (append_assoc d.0 d'.0 r), (d.0, d'.0, a.0, refl, d.2, d'.2))
  seq_ok_at ts (Err f) e y r b = cc

  -- after a reading of the first, the reader gives it where the second goes on
  goes_on : (u v : List T) (x : A) (c : T) (r : List T) → g.reads u x → (h x).front (c ∷ v) → p (u ++ (c ∷ v ++ r)) ≡ Ok (x, c ∷ v ++ r)
  goes_on u v x c r d d' = E.reads u x (c ∷ v ++ r) d (apart u x d c ((F x).begins c v d'))

  -- or where it refuses the next token for more than that it is not wanted
  settled : (u v : List T) (x : A) (t : T) (k : ℕ) (r : List T) → g.reads u x → (h x).refuses v t (suc k) → p (u ++ (v ++ t ∷ r)) ≡ Ok (x, v ++ t ∷ r)
  settled u [] x t k r d d' = E.reads u x (t ∷ r) d (apart_bad u x d t ((F x).blames t k d'))
  settled u (c ∷ v) x t k r d d' = goes_on u v x c (t ∷ r) d ((F x).upto (c ∷ v) t (suc k) d')

  -- where the first was read to its end and the second stopped before t
  first_calm : (u v : List T) (x : A) (t : T) (r : List T) (k : ℕ) → p (u ++ (v ++ t ∷ r)) ≡ Ok (x, v ++ t ∷ r) → g.refuses (u ++ v) t (suc k) → ⊥
  first_calm u [] x t r k e d =
      let d' = subst (λ (z : List T). g.refuses z t (suc k)) (append-nil u) d in
      E.calm u x t r k e d'
  first_calm u (c ∷ v) x t r k e d =
      let w = E.front (u ++ c ∷ v) (t ∷ r) (E.upto (u ++ c ∷ v) t (suc k) d) in
      let w' : Within (p (u ++ (c ∷ v ++ t ∷ r))) (length (t ∷ r)) = subst (λ (z : List T). Within (p z) (length (t ∷ r))) (append_assoc u (c ∷ v) (t ∷ r)) w in
      let w'' = subst (λ (o : Read T A). Within o (length (t ∷ r))) e w' in
      absurd (omega (arith, w'', length-append v (t ∷ r)))

  both_calm : (w : List T) (x : A) (v : List T) (t : T) (r : List T) (k j : ℕ) → p (w ++ t ∷ r) ≡ Ok (x, v ++ t ∷ r) → (u : List T) → w ≡ u ++ v → IsGreatest ((h x).refuses v t) j → both.refuses w t (suc k) → suc k ≤ j
  both_calm w x v t r k j e u cut G (inl d) =
      let e' : p (u ++ (v ++ t ∷ r)) ≡ Ok (x, v ++ t ∷ r) = ap p (sym (cut_at t u v r)) ∙ ap (λ (z : List T). p (z ++ t ∷ r)) (sym cut) ∙ e in
      absurd (first_calm u v x t r k e' (subst (λ (z : List T). g.refuses z t (suc k)) cut d))
  both_calm w x v t r k j e u cut G (inr d) =
      let e' = settled d.0 d.1 d.2 t k r d.4 d.5 in
      let at : w ++ t ∷ r ≡ d.0 ++ (d.1 ++ t ∷ r) = ap (λ (z : List T). z ++ t ∷ r) d.3 ∙ cut_at t d.0 d.1 r in
      let same = sym e' ∙ sym (ap p at) ∙ e in
      let value = same_value d.2 x (d.1 ++ t ∷ r) (v ++ t ∷ r) same in
      let rest = append_cancel_right d.1 v (t ∷ r) (same_rest d.2 x (d.1 ++ t ∷ r) (v ++ t ∷ r) same) in
      G.bounds (suc k) (subst (λ (z : A). (h z).refuses v t (suc k)) value (subst (λ (z : List T). (h d.2).refuses z t (suc k)) rest d.5))

  -- the first stopped
  first_cause : (ts u r : List T) (k : ℕ) (f : Fault) → p ts ≡ Err f → ts ≡ u ++ r → IsCause g.refuses u r k → IsCause both.refuses u r k
  first_cause ts u [] k f e cut c = c
  first_cause ts u (t ∷ r) k f e cut c = record { bounds = bounds; stands = λ m. inl (c.stands m) }
    where
      later : (j : ℕ) → (v w : List T) × (x : A) × (u ≡ v ++ w) × g.reads v x × (h x).refuses w t (suc j) → suc j ≤ k
      later j d =
          let at : ts ≡ d.0 ++ (d.1 ++ t ∷ r) = cut ∙ ap (λ (z : List T). z ++ t ∷ r) d.3 ∙ cut_at t d.0 d.1 r in
          answer≢fault (p ts) d.2 (d.1 ++ t ∷ r) f (ap p at ∙ settled d.0 d.1 d.2 t j r d.4 d.5) e

      bounds : (j : ℕ) → both.refuses u t j → j ≤ k
      bounds zero d = zero-le
      bounds (suc j) (inl d) = c.bounds (suc j) d
      bounds (suc j) (inr d) = later j d

  -- the second stopped
  second_cause : (ts u v r : List T) (x : A) (k : ℕ) → p ts ≡ Ok (x, v ++ r) → ts ≡ u ++ (v ++ r) → g.reads u x → IsCause (h x).refuses v r k → IsCause both.refuses (u ++ v) r k
  second_cause ts u v [] x k e cut d c = c
  second_cause ts u v (t ∷ r) x k e cut d c = record { bounds = bounds; stands = λ m. inr (u, v, x, refl, d, c.stands m) }
    where
      at : p ((u ++ v) ++ t ∷ r) ≡ Ok (x, v ++ t ∷ r)
      at = ap p (cut_at t u v r ∙ sym cut) ∙ e

      bounds : (j : ℕ) → both.refuses (u ++ v) t j → j ≤ k
      bounds zero d = zero-le
      bounds (suc j) d = both_calm (u ++ v) x v t r j k at u refl c d

  seq_err_at : (ts : List T) (o : Read T A) → p ts ≡ o → (f : Fault) → bind o q ≡ Err f → (u r : List T) × (ts ≡ u ++ r) × (length r ≡ f.left) × both.front u × IsCause both.refuses u r f.cause
  seq_err_at ts (Ok a) e f b =
      let d = E.ok ts a.0 a.1 e in
      let d' = (F a.0).err a.1 f b in
      let cut : ts ≡ d.0 ++ (d'.0 ++ d'.1) = d.1 ∙ ap (λ (z : List T). d.0 ++ z) d'.2 in
      let e' : p ts ≡ Ok (a.0, d'.0 ++ d'.1) = e ∙ ap (λ (z : List T). Ok (a.0, z)) d'.2 in
      (d.0 ++ d'.0, d'.1, cut ∙ sym (append_assoc d.0 d'.0 d'.1), d'.3, inr (d.0, d'.0, a.0, refl, d.2, d'.4), second_cause ts d.0 d'.0 d'.1 a.0 f.cause e' cut d.2 d'.5)
  seq_err_at ts (Err f) e z b =
      let same = same_fault f z (bind (Err f) q) refl b in
      let d = E.err ts f e in
      (d.0, d.1, d.2, d.3 ∙ ap (λ (y : Fault). y.left) same, inl d.4, subst (λ (y : Fault). IsCause both.refuses d.0 d.1 y.cause) same (first_cause ts d.0 d.1 f.cause f e d.2 d.5))

  -- both were read, and t stands behind
  seq_calm : (w : List T) (y : B) (t : T) (r : List T) (k : ℕ) (o : Read T A) → p (w ++ t ∷ r) ≡ o → bind o q ≡ Ok (y, t ∷ r) → both.refuses w t (suc k) → ⊥
  seq_calm w y t r k (Ok a) e b c =
      let d = E.ok (w ++ t ∷ r) a.0 a.1 e in
      let d' = (F a.0).ok a.1 y (t ∷ r) b in
      let cut : w ≡ d.0 ++ d'.0 = append_cancel_right w (d.0 ++ d'.0) (t ∷ r) (d.1 ∙ ap (λ (z : List T). d.0 ++ z) d'.1 ∙ sym (append_assoc d.0 d'.0 (t ∷ r))) in
      let e' : p (w ++ t ∷ r) ≡ Ok (a.0, d'.0 ++ t ∷ r) = e ∙ ap (λ (z : List T). Ok (a.0, z)) d'.1 in
      let b' : q a.0 (d'.0 ++ t ∷ r) ≡ Ok (y, t ∷ r) = ap (q a.0) (sym d'.1) ∙ b in
      let none : IsGreatest ((h a.0).refuses d'.0 t) 0 = no_cause (λ j z. (F a.0).calm d'.0 y t r j b' z) in
      absurd (omega (arith, both_calm w a.0 d'.0 t r k 0 e' d.0 cut none c))
  seq_calm w y t r k (Err f) e b c = absurd cc

  seq_halts : (u v r : List T) (x : A) (y : B) → g.reads u x → (h x).reads v y → Halts (more' y) r → Halts (more x) (v ++ r)
  seq_halts u [] [] x y d d' halts = tt
  seq_halts u [] (t ∷ r) x y d d' halts = ends u x y d d' t halts
  seq_halts u (t ∷ v) r x y d d' halts = apart u x d t ((F x).begins t v ((F x).whole (t ∷ v) y d'))

  seq_front : (u v r : List T) (x : A) → g.reads u x → (h x).front v → Within (run (u ++ (v ++ r))) (length r)
  seq_front u [] r x d d' = within_then (p (u ++ r)) q (length r) (E.front u r (E.whole u x d)) (λ y ts. shrinks (q y) (h y) (first' y) (bad' y) more' (F y) ts)
  seq_front u (t ∷ v) r x d d' = rw (goes_on u v x t r d d') ((F x).front (t ∷ v) r d')

  seq_shorter : (u v : List T) → both.front (u ++ v) → both.front u
  seq_shorter u v (inl d) = inl (E.shorter u v d)
  seq_shorter u v (inr d) = elim (cuts u v d.0 d.1 d.3) [
    | inl c ↦ inl (E.shorter u c.0 (subst g.front c.1 (E.whole d.0 d.2 d.4)))
    | inr c ↦ inr (d.0, c.0, d.2, c.1, d.4, (F d.2).shorter c.0 v (subst (h d.2).front c.2 d.5))
  ]

  -- `opens` and `bads` have the tokens of the first, and, where it may be nothing, those of the second
  module _ (opens bads : T → Bool)
      (begins : (t : T) → first t ≡ true → opens t ≡ true) (blames : (t : T) → bad t ≡ true → bads t ≡ true)
      (passes : (x : A) → g.reads [] x → (t : T) → first' x t ≡ true → opens t ≡ true) (passes_bad : (x : A) → g.reads [] x → (t : T) → bad' x t ≡ true → bads t ≡ true) where
    seq_begins : (t : T) (u : List T) → both.front (t ∷ u) → opens t ≡ true
    seq_begins t u (inl d) = begins t (E.begins t u d)
    seq_begins t u (inr d) = go d.0 d.1 d.2 d.3 d.4 d.5
      where
        go : (v w : List T) (x : A) → t ∷ u ≡ v ++ w → g.reads v x → (h x).front w → opens t ≡ true
        go [] w x e d d' = passes x d t ((F x).begins t u (subst (h x).front (sym e) d'))
        go (s ∷ v) w x e d d' = let same : s ≡ t = cc in begins t (subst (λ (z : T). first z ≡ true) same (E.begins s v (E.whole (s ∷ v) x d)))

    seq_blames : (t : T) (k : ℕ) → both.refuses [] t (suc k) → bads t ≡ true
    seq_blames t k (inl d) = blames t (E.blames t k d)
    seq_blames t k (inr d) =
        let none : d.0 ≡ [] = nil_left d.0 d.1 (sym d.3) in
        let none' : d.1 ≡ [] = nil_right d.0 d.1 (sym d.3) in
        passes_bad d.2 (subst (λ (z : List T). g.reads z d.2) none d.4) t ((F d.2).blames t k (subst (λ (z : List T). (h d.2).refuses z t (suc k)) none' d.5))

    seq_law : Exact run both opens bads more'
    seq_law = record {
      ok = λ ts y r e. seq_ok_at ts (p ts) refl y r e;
      err = λ ts f e. seq_err_at ts (p ts) refl f e;
      reads = λ w y r d halts.
          let regrouped : w ++ r ≡ d.0 ++ (d.1 ++ r) = ap (λ (z : List T). z ++ r) d.3 ∙ append_assoc d.0 d.1 r in
          rw (regrouped, E.reads d.0 d.2 (d.1 ++ r) d.4 (seq_halts d.0 d.1 r d.2 y d.4 d.5 halts)) ((F d.2).reads d.1 y r d.5 halts);
      front = λ w r d. elim d [
        | inl f ↦ within_then (p (w ++ r)) q (length r) (E.front w r f) (λ y ts. shrinks (q y) (h y) (first' y) (bad' y) more' (F y) ts)
        | inr d ↦ rw (ap (λ (z : List T). z ++ r) d.3 ∙ append_assoc d.0 d.1 r) (seq_front d.0 d.1 r d.2 d.4 d.5)
      ];
      calm = λ w y t r k e d. seq_calm w y t r k (p (w ++ t ∷ r)) refl e d;
      whole = λ u y d. inr (d.0, d.1, d.2, d.3, d.4, (F d.2).whole d.1 y d.5);
      shorter = seq_shorter;
      upto = λ u t k d. elim d [ inl d ↦ inl (E.upto u t k d) | inr d ↦ inr (d.0, d.1, d.2, d.3, d.4, (F d.2).upto d.1 t k d.5) ];
      begins = seq_begins;
      blames = seq_blames;
    }

-- The first may be nothing: `opens` and `bads` have then the tokens of the second too.
pub seq_open : {T A B : Type 0} {p : Parser T A} {g : Phrase T A} {first bad : T → Bool} {more : A → T → Bool} {q : A → Parser T B} {h : A → Phrase T B} {first' bad' : A → T → Bool} {more' : B → T → Bool}
    → Exact p g first bad more → ((x : A) → Exact (q x) (h x) (first' x) (bad' x) more')
    → ((u : List T) (x : A) → g.reads u x → (t : T) → first' x t ≡ true → more x t ≡ false)
    → ((u : List T) (x : A) → g.reads u x → (t : T) → bad' x t ≡ true → more x t ≡ false)
    → ((u : List T) (x : A) (y : B) → g.reads u x → (h x).reads [] y → (t : T) → more' y t ≡ false → more x t ≡ false)
    → (opens bads : T → Bool) → ((t : T) → first t ≡ true → opens t ≡ true) → ((t : T) → bad t ≡ true → bads t ≡ true)
    → ((x : A) → g.reads [] x → (t : T) → first' x t ≡ true → opens t ≡ true) → ((x : A) → g.reads [] x → (t : T) → bad' x t ≡ true → bads t ≡ true)
    → Exact (parse.◌>>=◌ p q) (phrase.◌>>=◌ g h) opens bads more'
seq_open {p = p} {g} {first} {bad} {more} {q} {h} {first'} {bad'} {more'} E F apart apart_bad ends opens bads begins blames passes passes_bad =
    seq_law p g first bad more q h first' bad' more' E F apart apart_bad ends opens bads begins blames passes passes_bad

-- The first is never nothing.
pub seq : {T A B : Type 0} {p : Parser T A} {g : Phrase T A} {first bad : T → Bool} {more : A → T → Bool} {q : A → Parser T B} {h : A → Phrase T B} {first' bad' : A → T → Bool} {more' : B → T → Bool}
    → Exact p g first bad more → ((x : A) → Exact (q x) (h x) (first' x) (bad' x) more')
    → ((x : A) → g.reads [] x → ⊥)
    → ((u : List T) (x : A) → g.reads u x → (t : T) → first' x t ≡ true → more x t ≡ false)
    → ((u : List T) (x : A) → g.reads u x → (t : T) → bad' x t ≡ true → more x t ≡ false)
    → ((u : List T) (x : A) (y : B) → g.reads u x → (h x).reads [] y → (t : T) → more' y t ≡ false → more x t ≡ false)
    → Exact (parse.◌>>=◌ p q) (phrase.◌>>=◌ g h) first bad more'
seq {first = first} {bad = bad} E F solid apart apart_bad ends =
    seq_open E F apart apart_bad ends first bad (λ t e. e) (λ t e. e) (λ x d t e. absurd (solid x d)) (λ x d t e. absurd (solid x d))

-- a first part that is never nothing makes the whole so
pub seq_solid : {T A B : Type 0} (g : Phrase T A) (h : A → Phrase T B) → ((x : A) → g.reads [] x → ⊥) → (y : B) → (phrase.◌>>=◌ g h).reads [] y → ⊥
seq_solid {T} g h solid y d = solid d.2 (subst (λ (u : List T). g.reads u d.2) (nil_left d.0 d.1 (sym d.3)) d.4)

-- and so does a second part
pub seq_solid_right : {T A B : Type 0} (g : Phrase T A) (h : A → Phrase T B) → ((x : A) (y : B) → (h x).reads [] y → ⊥) → (y : B) → (phrase.◌>>=◌ g h).reads [] y → ⊥
seq_solid_right {T} g h solid y d = solid d.2 y (subst (λ (u : List T). (h d.2).reads u y) (nil_right d.0 d.1 (sym d.3)) d.5)

-- after a token, which nothing goes on with
pub token_then : {T A B : Type 0} (f : T → Result A ℕ) {q : A → Parser T B} {h : A → Phrase T B} {first' bad' : A → T → Bool} {more' : B → T → Bool}
    → ((x : A) → Exact (q x) (h x) (first' x) (bad' x) more')
    → Exact (parse.◌>>=◌ (parse.one f) q) (phrase.◌>>=◌ (phrase.one f) h) (λ t. is_taken (f t)) (λ t. is_blamed (f t)) more'
token_then f F = seq (token f) F (token_solid f) (λ u x d t e. refl) (λ u x d t e. refl) (λ u x y d d' t e. refl)

-- a phrase and then a value made of what it read
pub made : {T A B : Type 0} {p : Parser T A} {g : Phrase T A} {first bad : T → Bool} {more : A → T → Bool} (make : A → B) (more' : B → T → Bool)
    → Exact p g first bad more → ((u : List T) (x : A) → g.reads u x → (t : T) → more' (make x) t ≡ false → more x t ≡ false)
    → Exact (parse.◌>>=◌ p (λ x. parse.pure (make x))) (phrase.◌>>=◌ g (λ x. phrase.pure (make x))) first bad more'
made {B = B} {first = first} {bad} make more' E ends =
    seq_open E (λ x. nothing (make x) more')
    (λ u x d t e. absurd (true≢false (sym e)))
    (λ u x d t e. absurd (true≢false (sym e)))
    (λ u x y d d' t e. ends u x d t (subst (λ (z : B). more' z t ≡ false) d'.1 e))
    first bad (λ t e. e) (λ t e. e) (λ x d t e. absurd (true≢false (sym e))) (λ x d t e. absurd (true≢false (sym e)))

-- a phrase that does not begin with some tokens
module _ {T A : Type 0} (bars : T → Option ℕ) (p : Parser T A) (g : Phrase T A) (first bad : T → Bool) (more : A → T → Bool) (E : Exact p g first bad more) (solid : (x : A) → g.reads [] x → ⊥) where
  abbrev but : Phrase T A
  but = phrase.barring bars g

  abbrev but_run : Parser T A
  but_run = parse.barring bars p

  but_ok_at : (t : T) (ts : List T) (n : Option ℕ) → bars t ≡ n → (x : A) (r : List T) → parse.stopped_at n ts (p (t ∷ ts)) ≡ Ok (x, r) → (u : List T) × (t ∷ ts ≡ u ++ r) × but.reads u x
  but_ok_at t ts None e x r q = go (E.ok (t ∷ ts) x r q).0 (E.ok (t ∷ ts) x r q).1 (E.ok (t ∷ ts) x r q).2
    where
      go : (u : List T) → t ∷ ts ≡ u ++ r → g.reads u x → (u : List T) × (t ∷ ts ≡ u ++ r) × but.reads u x
      go [] cut d = absurd (solid x d)
      go (s ∷ u) cut d = let same : t ≡ s = cc in (s ∷ u, cut, (subst (λ (z : T). bars z ≡ None) same e, d))
  but_ok_at t ts (Some n) e x r q = absurd cc

  but_ok : (ts : List T) (x : A) (r : List T) → but_run ts ≡ Ok (x, r) → (u : List T) × (ts ≡ u ++ r) × but.reads u x
  but_ok [] x r q =
      let d = E.ok [] x r q in
      absurd (solid x (subst (λ (z : List T). g.reads z x) (nil_left d.0 r (sym d.1)) d.2))
  but_ok (t ∷ ts) x r q = but_ok_at t ts (bars t) refl x r q

  but_cause : (t : T) (n : Option ℕ) (k : ℕ) → bars t ≡ n → IsGreatest (phrase.barred n (g.refuses [] t)) k → IsGreatest (but.refuses [] t) k
  but_cause t n k e c = subst (λ (m : Option ℕ). IsGreatest (phrase.barred m (g.refuses [] t)) k) (sym e) c

  but_err_at : (t : T) (ts : List T) (n : Option ℕ) → bars t ≡ n → (z : Fault) → parse.stopped_at n ts (p (t ∷ ts)) ≡ Err z → (u r : List T) × (t ∷ ts ≡ u ++ r) × (length r ≡ z.left) × but.front u × IsCause but.refuses u r z.cause
  but_err_at t ts None e z q = go (E.err (t ∷ ts) z q).0 (E.err (t ∷ ts) z q).1 (E.err (t ∷ ts) z q).2 (E.err (t ∷ ts) z q).3 (E.err (t ∷ ts) z q).4 (E.err (t ∷ ts) z q).5
    where
      cause : (s : T) (u r : List T) → bars s ≡ None → IsCause g.refuses (s ∷ u) r z.cause → IsCause but.refuses (s ∷ u) r z.cause
      cause s u [] b c = c
      cause s u (t ∷ r) b c = record { bounds = λ k d. c.bounds k d.1; stands = λ m. (b, c.stands m) }

      go : (u r : List T) → t ∷ ts ≡ u ++ r → length r ≡ z.left → g.front u → IsCause g.refuses u r z.cause → (u r : List T) × (t ∷ ts ≡ u ++ r) × (length r ≡ z.left) × but.front u × IsCause but.refuses u r z.cause
      go [] [] cut len d c = absurd cc
      go [] (s ∷ r) cut len d c =
          let same : t ≡ s = cc in
          ([], s ∷ r, cut, len, (tt, d), but_cause s None z.cause (subst (λ (y : T). bars y ≡ None) same e) c)
      go (s ∷ u) r cut len d c =
          let same : t ≡ s = cc in
          let b : bars s ≡ None = subst (λ (y : T). bars y ≡ None) same e in
          (s ∷ u, r, cut, len, (b, d), cause s u r b c)
  but_err_at t ts (Some n) e z q =
      let y : Fault = record { left = suc (length ts); cause = n } in
      let same = same_fault y z (parse.stopped_at (Some n) ts (p (t ∷ ts))) refl q in
      let only : IsGreatest (phrase.barred (Some n) (g.refuses [] t)) n = record { bounds = λ k d. omega arith; stands = λ m. refl } in
      ([], t ∷ ts, refl, ap (λ (f : Fault). f.left) same, (tt, empty_front p g first bad more E), subst (λ (f : Fault). IsGreatest (but.refuses [] t) f.cause) same (but_cause t (Some n) n e only))

  but_err : (ts : List T) (z : Fault) → but_run ts ≡ Err z → (u r : List T) × (ts ≡ u ++ r) × (length r ≡ z.left) × but.front u × IsCause but.refuses u r z.cause
  but_err [] z q = go (E.err [] z q).0 (E.err [] z q).1 (E.err [] z q).2 (E.err [] z q).3 (E.err [] z q).4 (E.err [] z q).5
    where
      go : (u r : List T) → [] ≡ u ++ r → length r ≡ z.left → g.front u → IsCause g.refuses u r z.cause → (u r : List T) × ([] ≡ u ++ r) × (length r ≡ z.left) × but.front u × IsCause but.refuses u r z.cause
      go [] [] cut len d c = ([], [], refl, len, (tt, d), c)
      go [] (s ∷ r) cut len d c = absurd cc
      go (s ∷ u) r cut len d c = absurd cc
  but_err (t ∷ ts) z q = but_err_at t ts (bars t) refl z q

  but_within_at : (t : T) (ts : List T) (n : Option ℕ) → Within (parse.stopped_at n ts (p (t ∷ ts))) (suc (length ts))
  but_within_at t ts None = shrinks p g first bad more E (t ∷ ts)
  but_within_at t ts (Some n) = omega arith

  but_front : (u r : List T) → but.front u → Within (but_run (u ++ r)) (length r)
  but_front [] [] d = shrinks p g first bad more E []
  but_front [] (t ∷ r) d = but_within_at t r (bars t)
  but_front (t ∷ u) r d = rw d.0 (E.front (t ∷ u) r d.1)

  but_reads : (u : List T) (x : A) (r : List T) → but.reads u x → Halts (more x) r → but_run (u ++ r) ≡ Ok (x, r)
  but_reads [] x r d halts = absurd (solid x d.1)
  but_reads (t ∷ u) x r d halts = rw d.0 (E.reads (t ∷ u) x r d.1 halts)

  but_calm_at : (t : T) (r : List T) (x : A) (k : ℕ) (n : Option ℕ) → parse.stopped_at n r (p (t ∷ r)) ≡ Ok (x, t ∷ r) → phrase.barred n (g.refuses [] t) (suc k) → ⊥
  but_calm_at t r x k None q d = E.calm [] x t r k q d
  but_calm_at t r x k (Some n) q d = cc

  but_calm : (u : List T) (x : A) (t : T) (r : List T) (k : ℕ) → but_run (u ++ t ∷ r) ≡ Ok (x, t ∷ r) → but.refuses u t (suc k) → ⊥
  but_calm [] x t r k q d = but_calm_at t r x k (bars t) q d
  but_calm (s ∷ u) x t r k q d =
      let q' = subst (λ (n : Option ℕ). parse.stopped_at n (u ++ t ∷ r) (p (s ∷ (u ++ t ∷ r))) ≡ Ok (x, t ∷ r)) d.0 q in
      E.calm (s ∷ u) x t r k q' d.1

  but_shorter : (u v : List T) → but.front (u ++ v) → but.front u
  but_shorter [] v d = (tt, E.shorter [] v d.1)
  but_shorter (t ∷ u) v d = (d.0, E.shorter (t ∷ u) v d.1)

  but_upto : (u : List T) (t : T) (k : ℕ) → but.refuses u t k → but.front u
  but_upto [] t k d = (tt, empty_front p g first bad more E)
  but_upto (s ∷ u) t k d = (d.0, E.upto (s ∷ u) t k d.1)

  but_blames_at : (t : T) (k : ℕ) (n : Option ℕ) → phrase.barred n (g.refuses [] t) (suc k) → parse.blamed_or n (bad t) ≡ true
  but_blames_at t k None d = E.blames t k d
  but_blames_at t k (Some zero) d = absurd cc
  but_blames_at t k (Some (suc n)) d = refl

  but_law : Exact but_run but (λ t. parse.passes_and (bars t) (first t)) (λ t. parse.blamed_or (bars t) (bad t)) more
  but_law = record {
    ok = but_ok;
    err = but_err;
    reads = but_reads;
    front = but_front;
    calm = but_calm;
    whole = λ u x d. (d.0, E.whole u x d.1);
    shorter = but_shorter;
    upto = but_upto;
    begins = λ t u d. subst (λ (n : Option ℕ). parse.passes_and n (first t) ≡ true) (sym d.0) (E.begins t u d.1);
    blames = λ t k d. but_blames_at t k (bars t) d;
  }

pub barring : {T A : Type 0} (bars : T → Option ℕ) {p : Parser T A} {g : Phrase T A} {first bad : T → Bool} {more : A → T → Bool} → Exact p g first bad more → ((x : A) → g.reads [] x → ⊥)
    → Exact (parse.barring bars p) (phrase.barring bars g) (λ t. parse.passes_and (bars t) (first t)) (λ t. parse.blamed_or (bars t) (bad t)) more
barring bars {p} {g} {first} {bad} {more} E solid = but_law bars p g first bad more E solid
