-- Loops that read items: what was read so far, and what is still read, are all that is read.
use Rattle.std.proofs.Common.{◌≡◌, ℕ, zero, suc, ◌<◌, ◌≤◌, Bool, true, false, List, [], ◌∷◌, ◌++◌, length, Ok, Err, refl, sym, ◌∙◌, ap, length-append, le_refl, true≢false, arith}
use Rattle.floyd_grammar.specs.declared.stop.Fault.{Fault}
use Rattle.floyd_grammar.specs.Phrase.{Phrase}
use Rattle.floyd_grammar.specs.ParseClauses.{Parser, Read, leads, fold_at, folded}
use Rattle.floyd_grammar.proofs.Exact.{Exact}

pub record Turning {T A B : Type 0} (first : A → T → Bool) (join : A → B → A) (p : A → Parser T B) (x : A) (ts : List T) (total : Read T A) : Type 0 where
  pub turns : ℕ
  pub enough : length ts ≤ turns
  pub same : fold_at first join p turns x ts ≡ total

-- an item that is never nothing takes a token
pub eats : {T A : Type 0} {p : Parser T A} {g : Phrase T A} {first bad : T → Bool} {more : A → T → Bool} → Exact p g first bad more → ((x : A) → g.reads [] x → ⊥) → (ts : List T) (x : A) (r : List T) → p ts ≡ Ok (x, r) → length r < length ts
eats {T} {g = g} E solid ts x r e = go (E.ok ts x r e).0 (E.ok ts x r e).1 (E.ok ts x r e).2
  where
    go : (u : List T) → ts ≡ u ++ r → g.reads u x → length r < length ts
    go [] cut d = absurd (solid x d)
    go (t ∷ u) cut d = omega (arith, ap length cut, length-append u r)

module _ {T A B : Type 0} (first : A → T → Bool) (join : A → B → A) (p : A → Parser T B) where
  pub turning : (x : A) (ts : List T) → Turning first join p x ts (folded first join p x ts)
  turning x ts = record { turns = length ts; enough = le_refl (length ts); same = refl }

  turned_at : (n : ℕ) (x : A) (y : B) (ts r : List T) (total : Read T A) → length ts ≤ n → fold_at first join p n x ts ≡ total → leads (first x) ts ≡ true → p x ts ≡ Ok (y, r) → length r < length ts → Turning first join p (join x y) r total
  turned_at zero x y ts r total le same e q lt = absurd (omega arith)
  turned_at (suc n) x y ts r total le same e q lt = record {
    turns = n;
    enough = omega arith;
    same = sym (rw (e, q) refl) ∙ same;
  }

  -- an item was read
  pub turned : (x : A) (y : B) (ts r : List T) (total : Read T A) → Turning first join p x ts total → leads (first x) ts ≡ true → p x ts ≡ Ok (y, r) → length r < length ts → Turning first join p (join x y) r total
  turned x y ts r total t e q lt = turned_at t.turns x y ts r total t.enough t.same e q lt

  stopped_at : (n : ℕ) (x : A) (ts : List T) (total : Read T A) → fold_at first join p n x ts ≡ total → leads (first x) ts ≡ false → total ≡ Ok (x, ts)
  stopped_at zero x ts total same e = sym same
  stopped_at (suc n) x ts total same e = sym same ∙ rw e refl

  -- no further item begins
  pub stopped : (x : A) (ts : List T) (total : Read T A) → Turning first join p x ts total → leads (first x) ts ≡ false → total ≡ Ok (x, ts)
  stopped x ts total t e = stopped_at t.turns x ts total t.same e

  failed_at : (n : ℕ) (x : A) (ts : List T) (f : Fault) (total : Read T A) → length ts ≤ n → fold_at first join p n x ts ≡ total → leads (first x) ts ≡ true → p x ts ≡ Err f → total ≡ Err f
  failed_at zero x [] f total le same e q = absurd (true≢false (sym e))
  failed_at zero x (t ∷ ts) f total le same e q = absurd (omega arith)
  failed_at (suc n) x ts f total le same e q = sym same ∙ rw (e, q) refl

  -- an item does not read
  pub failed : (x : A) (ts : List T) (f : Fault) (total : Read T A) → Turning first join p x ts total → leads (first x) ts ≡ true → p x ts ≡ Err f → total ≡ Err f
  failed x ts f total t e q = failed_at t.turns x ts f total t.enough t.same e q
