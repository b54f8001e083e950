-- Any number of items: a reader that goes on as long as the next token begins an item is exact where no such token goes
-- on with the item before.
use Rattle.std.proofs.Common.{◌≡◌, ℕ, zero, suc, ◌<◌, ◌≤◌, Bool, true, false, inl, inr, List, [], ◌∷◌, ◌++◌, length, refl, sym, ◌∙◌, ap, subst, append_assoc, append-nil, length-append, le_refl, true≢false, arith, ◌||◌}
use Rattle.floyd_grammar.specs.Phrase.{Phrase, Folded, none, then}
use Rattle.floyd_grammar.specs.Phrase as phrase
use Rattle.floyd_grammar.specs.ParseClauses.{Parser, Read, fold_at}
use Rattle.floyd_grammar.specs.ParseClauses as parse
use Rattle.floyd_grammar.specs.Refused.{IsCause}
use Rattle.floyd_grammar.proofs.Exact.{Exact, nil_left, nil_right, nothing, empty_front}
use Rattle.floyd_grammar.proofs.Wider.{wider}
use Rattle.floyd_grammar.proofs.Seq.{seq, seq_solid}
use Rattle.floyd_grammar.proofs.Either.{either}

in_false : (b : Bool) → (b || false) ≡ true → b ≡ true
in_false true e = refl
in_false false e = e

-- of no tokens no item was read
pub folded_nil : {T A B : Type 0} (join : A → B → A) (item : A → List T → B → Type 0) → ((x : A) (y : B) → item x [] y → ⊥) → (start : A) (u : List T) (z : A) → Folded join item start u z → u ≡ [] → z ≡ start
folded_nil join item solid start u z none e = refl
folded_nil join item solid start u z (then {u = a} {v = v} {x = x} {y = y} d d') e = absurd (solid x y (subst (λ (w : List _). item x w y) (nil_right a v e) d'))

module _ {T A B : Type 0} (join : A → B → A) (p : A → Parser T B) (g : A → Phrase T B) (test first bad : A → T → Bool) (more' : B → T → Bool) (more : A → T → Bool)
    (E : (x : A) → Exact (p x) (g x) (first x) (bad x) more')
    (solid : (x : A) (y : B) → (g x).reads [] y → ⊥)
    (opens : (x : A) (t : T) → first x t ≡ true → test x t ≡ true) (blames : (x : A) (t : T) → bad x t ≡ true → test x t ≡ true)
    (apart : (x : A) (u : List T) (y : B) → (g x).reads u y → (t : T) → test (join x y) t ≡ true → more' y t ≡ false)
    (stops : (x : A) (t : T) → more x t ≡ false → test x t ≡ false)
    (ends : (x : A) (u : List T) (y : B) → (g x).reads u y → (t : T) → more (join x y) t ≡ false → more' y t ≡ false) where
  -- at most so many items
  abbrev times : ℕ → A → Phrase T A
  times zero x = phrase.pure x
  times (suc n) x = phrase.◌or◌ (phrase.◌>>=◌ (g x) (λ y. times n (join x y))) (phrase.pure x)

  times_nil : (n : ℕ) (x z : A) → (times n x).reads [] z → z ≡ x
  times_nil zero x z d = d.1
  times_nil (suc n) x z (inl d) = absurd (solid x d.2 (subst (λ (u : List T). (g x).reads u d.2) (nil_left d.0 d.1 (sym d.3)) d.4))
  times_nil (suc n) x z (inr d) = d.1

  abbrev item_then : ℕ → A → Parser T A
  item_then n x = parse.◌>>=◌ (p x) (λ y. fold_at test join p n (join x y))

  times_exact : (n : ℕ) (x : A) → Exact (fold_at test join p n x) (times n x) (first x) (bad x) more
  times_exact zero x = wider (nothing x more) (first x) (bad x) more (λ t e. absurd (true≢false (sym e))) (λ t e. absurd (true≢false (sym e))) (λ z t e. e)
  times_exact (suc n) x =
      let rest : (y : B) → Exact (fold_at test join p n (join x y)) (times n (join x y)) (first (join x y)) (bad (join x y)) more = λ y. times_exact n (join x y) in
      let both : Exact (item_then n x) (phrase.◌>>=◌ (g x) (λ y. times n (join x y))) (first x) (bad x) more =
      seq (E x) rest (solid x) (λ u y d t e. apart x u y d t (opens (join x y) t e)) (λ u y d t e. apart x u y d t (blames (join x y) t e))
      (λ u y z d d' t e. ends x u y d t (subst (λ (w : A). more w t ≡ false) (times_nil n (join x y) z d') e)) in
      wider
      (either (test x) both (nothing x more) (λ z d. seq_solid (g x) (λ y. times n (join x y)) (solid x) z d) (opens x) (blames x)
      (λ t e. absurd (true≢false (sym e))) (λ t e. absurd (true≢false (sym e)))
      (λ z d t e. stops x t (subst (λ (w : A). more w t ≡ false) d.1 e)))
      (first x) (bad x) more (λ t e. in_false (first x t) e) (λ t e. in_false (bad x t) e) (λ z t e. e)

  -- the items from the first on
  data Run : A → List T → A → Type 0 where
    done : {x : A} → Run x [] x
    step : {x z : A} {y : B} {v w : List T} → (g x).reads v y → Run (join x y) w z → Run x (v ++ w) z

  abbrev All : A → List T → A → Type 0
  All = Folded join (λ x. (g x).reads)

  run_then : {x z : A} {y : B} {u v : List T} → Run x u z → (g z).reads v y → Run x (u ++ v) (join z y)
  run_then {x} {y = y} {v = v} done d = subst (λ (w : List T). Run x w (join x y)) (append-nil v) (step d done)
  run_then {x} {z} {y} {v = v} (step {v = a} {w = b} d' r) d = subst (λ (w : List T). Run x w (join z y)) (sym (append_assoc a b v)) (step d' (run_then r d))

  run_of : {x z : A} {u : List T} → All x u z → Run x u z
  run_of none = done
  run_of (then a d) = run_then (run_of a) d

  all_then : {x y z : A} {u v : List T} → All x u y → Run y v z → All x (u ++ v) z
  all_then {x} {y} {u = u} a done = subst (λ (w : List T). All x w y) (sym (append-nil u)) a
  all_then {x} {z = z} {u = u} a (step {v = v} {w = w} d r) = subst (λ (s : List T). All x s z) (append_assoc u v w) (all_then (then a d) r)

  all_of : {x z : A} {v : List T} → Run x v z → All x v z
  all_of r = all_then none r

  some : (x : A) (v : List T) (y : B) → (g x).reads v y → 1 ≤ length v
  some x [] y d = absurd (solid x y d)
  some x (t ∷ v) y d = omega arith

  reads_in : (n : ℕ) (x : A) (w : List T) (z : A) → (times n x).reads w z → Run x w z
  reads_in zero x w z d = subst (λ (u : List T). Run x u z) (sym d.0) (subst (λ (s : A). Run x [] s) (sym d.1) done)
  reads_in (suc n) x w z (inl d) = subst (λ (u : List T). Run x u z) (sym d.3) (step d.4 (reads_in n (join x d.2) d.1 z d.5))
  reads_in (suc n) x w z (inr d) = subst (λ (u : List T). Run x u z) (sym d.0) (subst (λ (s : A). Run x [] s) (sym d.1) done)

  reads_out : (n : ℕ) (x : A) (w : List T) (z : A) → Run x w z → length w ≤ n → (times n x).reads w z
  reads_out zero x w z done le = (refl, refl)
  reads_out (suc n) x w z done le = inr (refl, refl)
  reads_out zero x w z (step {y = y} {v = v} {w = w'} d r) le = absurd (omega (arith, some x v y d, length-append v w'))
  reads_out (suc n) x w z (step {y = y} {v = v} {w = w'} d r) le = inl (v, w', y, refl, d, reads_out n (join x y) w' z r (omega (arith, some x v y d, length-append v w')))

  -- what is a front of any number of items, and what is refused after them
  abbrev AllFront : A → List T → Type 0
  AllFront x w = (u v : List T) × (z : A) × (w ≡ u ++ v) × Run x u z × (g z).front v

  abbrev AllRefuses : A → List T → T → ℕ → Type 0
  AllRefuses x w t k = (u v : List T) × (z : A) × (w ≡ u ++ v) × Run x u z × (g z).refuses v t k

  front_in : (n : ℕ) (x : A) (w : List T) → (times n x).front w → AllFront x w
  front_in zero x w d = ([], [], x, d, done, empty_front (p x) (g x) (first x) (bad x) more' (E x))
  front_in (suc n) x w (inl (inl d)) = ([], w, x, refl, done, d)
  front_in (suc n) x w (inl (inr d)) =
      let d' = front_in n (join x d.2) d.1 d.5 in
      (d.0 ++ d'.0, d'.1, d'.2, d.3 ∙ ap (λ (z : List T). d.0 ++ z) d'.3 ∙ sym (append_assoc d.0 d'.0 d'.1), step d.4 d'.4, d'.5)
  front_in (suc n) x w (inr d) = ([], [], x, d, done, empty_front (p x) (g x) (first x) (bad x) more' (E x))

  nil_of : (v : List T) → length v ≤ 0 → v ≡ []
  nil_of [] le = refl
  nil_of (t ∷ v) le = absurd (omega arith)

  front_out : (n : ℕ) (x : A) (u v : List T) (z : A) → Run x u z → (g z).front v → length (u ++ v) ≤ n → (times n x).front (u ++ v)
  front_out zero x u v z done f le = nil_of v le
  front_out (suc n) x u v z done f le = inl (inl f)
  front_out zero x u v z (step {y = y} {v = a} {w = b} d r) f le = absurd (omega (arith, some x a y d, length-append a b, length-append (a ++ b) v))
  front_out (suc n) x u v z (step {y = y} {v = a} {w = b} d r) f le =
      inl (inr (a, b ++ v, y, append_assoc a b v, d, front_out n (join x y) b v z r f (omega (arith, some x a y d, length-append a b, length-append (a ++ b) v, length-append b v))))

  refuses_in : (n : ℕ) (x : A) (w : List T) (t : T) (k : ℕ) → (times n x).refuses w t k → AllRefuses x w t k
  refuses_in zero x w t k d = absurd d
  refuses_in (suc n) x w t k (inl (inl d)) = ([], w, x, refl, done, d)
  refuses_in (suc n) x w t k (inl (inr d)) =
      let d' = refuses_in n (join x d.2) d.1 t k d.5 in
      (d.0 ++ d'.0, d'.1, d'.2, d.3 ∙ ap (λ (z : List T). d.0 ++ z) d'.3 ∙ sym (append_assoc d.0 d'.0 d'.1), step d.4 d'.4, d'.5)
  refuses_in (suc n) x w t k (inr d) = absurd d

  refuses_out : (n : ℕ) (x : A) (u v : List T) (t : T) (k : ℕ) (z : A) → Run x u z → (g z).refuses v t k → length (u ++ v) < n → (times n x).refuses (u ++ v) t k
  refuses_out zero x u v t k z r f le = absurd (omega arith)
  refuses_out (suc n) x u v t k z done f le = inl (inl f)
  refuses_out (suc n) x u v t k z (step {y = y} {v = a} {w = b} d r) f le =
      inl (inr (a, b ++ v, y, append_assoc a b v, d, refuses_out n (join x y) b v t k z r f (omega (arith, some x a y d, length-append a b, length-append (a ++ b) v, length-append b v))))

  module _ (start : A) where
    abbrev total : Phrase T A
    total = phrase.folded join g start

    abbrev at_most : ℕ → Phrase T A
    at_most n = times n start

    total_reads : (n : ℕ) (w : List T) (z : A) → total.reads w z → length w ≤ n → (at_most n).reads w z
    total_reads n w z d le = reads_out n start w z (run_of d) le

    total_front : (n : ℕ) (w : List T) → total.front w → length w ≤ n → (at_most n).front w
    total_front n w d le = subst (at_most n).front (sym d.3) (front_out n start d.0 d.1 d.2 (run_of d.4) d.5 (omega (arith, ap length d.3)))

    total_refuses : (n : ℕ) (w : List T) (t : T) (k : ℕ) → total.refuses w t k → length w < n → (at_most n).refuses w t k
    total_refuses n w t k d le = subst (λ (z : List T). (at_most n).refuses z t k) (sym d.3) (refuses_out n start d.0 d.1 t k d.2 (run_of d.4) d.5 (omega (arith, ap length d.3)))

    of_front : (n : ℕ) (w : List T) → (at_most n).front w → total.front w
    of_front n w d = let d' = front_in n start w d in (d'.0, d'.1, d'.2, d'.3, all_of d'.4, d'.5)

    of_refuses : (n : ℕ) (w : List T) (t : T) (k : ℕ) → (at_most n).refuses w t k → total.refuses w t k
    of_refuses n w t k d = let d' = refuses_in n start w t k d in (d'.0, d'.1, d'.2, d'.3, all_of d'.4, d'.5)

    of_cause : (n : ℕ) (u r : List T) (k : ℕ) → length (u ++ r) ≤ n → IsCause (at_most n).refuses u r k → IsCause total.refuses u r k
    of_cause n u [] k le c = c
    of_cause n u (t ∷ r) k le c = record {
      bounds = λ j d. c.bounds j (total_refuses n u t j d (omega (arith, length-append u (t ∷ r))));
      stands = λ m. of_refuses n u t k (c.stands m);
    }

    abbrev run : Parser T A
    run = parse.folded test join p start

    repeat_law : Exact run total (first start) (bad start) more
    repeat_law = record {
      ok = λ ts x r e. let d = (times_exact (length ts) start).ok ts x r e in (d.0, d.1, all_of (reads_in (length ts) start d.0 x d.2));
      err = λ ts f e.
          let d = (times_exact (length ts) start).err ts f e in
          (d.0, d.1, d.2, d.3, of_front (length ts) d.0 d.4, of_cause (length ts) d.0 d.1 f.cause (omega (arith, ap length d.2)) d.5);
      reads = λ u x r d halts. (times_exact (length (u ++ r)) start).reads u x r (total_reads (length (u ++ r)) u x d (omega (arith, length-append u r))) halts;
      front = λ u r d. (times_exact (length (u ++ r)) start).front u r (total_front (length (u ++ r)) u d (omega (arith, length-append u r)));
      calm = λ u x t r k e d. (times_exact (length (u ++ t ∷ r)) start).calm u x t r k e (total_refuses (length (u ++ t ∷ r)) u t (suc k) d (omega (arith, length-append u (t ∷ r))));
      whole = λ u x d. (u, [], x, sym (append-nil u), d, empty_front (p x) (g x) (first x) (bad x) more' (E x));
      shorter = λ u v d. of_front (length (u ++ v)) u ((times_exact (length (u ++ v)) start).shorter u v (total_front (length (u ++ v)) (u ++ v) d (le_refl _)));
      upto = λ u t k d. (d.0, d.1, d.2, d.3, d.4, (E d.2).upto d.1 t k d.5);
      begins = λ t u d. (times_exact (length (t ∷ u)) start).begins t u (total_front (length (t ∷ u)) (t ∷ u) d (le_refl _));
      blames = λ t k d. (times_exact 1 start).blames t k (total_refuses 1 [] t (suc k) d (omega arith));
    }

-- `test` has the tokens with which an item begins, and those that are refused there for more.
pub repeat : {T A B : Type 0} (test : A → T → Bool) (join : A → B → A) {p : A → Parser T B} {g : A → Phrase T B} {first bad : A → T → Bool} {more' : B → T → Bool} (more : A → T → Bool)
    → ((x : A) → Exact (p x) (g x) (first x) (bad x) more')
    → ((x : A) (y : B) → (g x).reads [] y → ⊥)
    → ((x : A) (t : T) → first x t ≡ true → test x t ≡ true) → ((x : A) (t : T) → bad x t ≡ true → test x t ≡ true)
    → ((x : A) (u : List T) (y : B) → (g x).reads u y → (t : T) → test (join x y) t ≡ true → more' y t ≡ false)
    → ((x : A) (t : T) → more x t ≡ false → test x t ≡ false)
    → ((x : A) (u : List T) (y : B) → (g x).reads u y → (t : T) → more (join x y) t ≡ false → more' y t ≡ false)
    → (start : A) → Exact (parse.folded test join p start) (phrase.folded join g start) (first start) (bad start) more
repeat test join {p} {g} {first} {bad} {more'} more E solid opens blames apart stops ends start =
    repeat_law join p g test first bad more' more E solid opens blames apart stops ends start
