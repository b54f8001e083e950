-- The sets of tokens by which a reader is exact may be larger than need be.
use Rattle.std.proofs.Common.{◌≡◌, Bool, true, false, List, [], ◌∷◌, true≢false, refl, sym, ◌∙◌}
use Rattle.floyd_grammar.specs.Phrase.{Phrase}
use Rattle.floyd_grammar.specs.ParseClauses.{Parser}
use Rattle.floyd_grammar.proofs.Exact.{Halts, Exact}

-- what is not in the larger set is not in the smaller
pub not_in : (a b : Bool) → (a ≡ true → b ≡ true) → b ≡ false → a ≡ false
not_in true b h e = absurd (true≢false (sym (h refl) ∙ e))
not_in false b h e = refl

wider_halts : {T A : Type 0} (more more' : A → T → Bool) → ((x : A) (t : T) → more x t ≡ true → more' x t ≡ true) → (x : A) (r : List T) → Halts (more' x) r → Halts (more x) r
wider_halts more more' goes x [] halts = tt
wider_halts more more' goes x (t ∷ r) halts = not_in (more x t) (more' x t) (goes x t) halts

pub wider : {T A : Type 0} {p : Parser T A} {g : Phrase T A} {first bad : T → Bool} {more : A → T → Bool} → Exact p g first bad more
    → (first' bad' : T → Bool) (more' : A → T → Bool) → ((t : T) → first t ≡ true → first' t ≡ true) → ((t : T) → bad t ≡ true → bad' t ≡ true) → ((x : A) (t : T) → more x t ≡ true → more' x t ≡ true) → Exact p g first' bad' more'
wider {more = more} E first' bad' more' opens blames goes = record {
  ok = E.ok;
  err = E.err;
  reads = λ u x r d halts. E.reads u x r d (wider_halts more more' goes x r halts);
  front = E.front;
  calm = E.calm;
  whole = E.whole;
  shorter = E.shorter;
  upto = E.upto;
  begins = λ t u d. opens t (E.begins t u d);
  blames = λ t k d. blames t (E.blames t k d);
}

-- with no more said of the tokens with which it begins
pub loose : {T A : Type 0} {p : Parser T A} {g : Phrase T A} {first bad : T → Bool} {more : A → T → Bool} → Exact p g first bad more → Exact p g (λ t. true) (λ t. true) more
loose {more = more} E = wider E (λ t. true) (λ t. true) more (λ t e. refl) (λ t e. refl) (λ x t e. e)
