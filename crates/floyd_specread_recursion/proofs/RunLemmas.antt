-- Runs of tokens, brackets and calls, one token after another.
use Rattle.std.proofs.Common.{◌≡◌, ℕ, zero, suc, ◌+◌, ◌-◌, ◌<◌, ◌≤◌, ◌==◌, ◌||◌, Bool, true, false, if◌then◌else◌, List, length, Some, None, refl, ap, sym, ◌∙◌, eq-eqb, arith}
use Rattle.std.proofs.lemmas.Bool.{ne_eqb}
use Rattle.floyd_lex.specs.Token.{Token, TokenList}
use Rattle.floyd_termread_marks.specs.Marks.{is_next}
use Rattle.floyd_termread_tokens.specs.SeenClauses.{token_at}
use Rattle.floyd_specread_recursion.specs.Structural.{run_of, run, open_behind, closes, is_wrong, first_wrong}

-- what is left, by its first
one_off : (n i : ℕ) → i < n → n - i ≡ suc (n - (i + 1))
one_off n i less = omega (arith, less)

none_left : (n i : ℕ) → n ≤ i → n - i ≡ 0
none_left n i over = omega (arith, over)

module _ (bytes : List ℕ) (list : TokenList) where
  -- a token that is so is one more
  pub run_goes_on : (test : Token → Bool) (i : ℕ) → i < length list.items → is_next bytes list test i ≡ true → run bytes list test i ≡ suc (run bytes list test (i + 1))
  run_goes_on test i less there = ap (λ n. run_of bytes list test n i) (one_off (length list.items) i less) ∙ rw there refl

  run_none : (test : Token → Bool) (n i : ℕ) → is_next bytes list test i ≡ false → run_of bytes list test n i ≡ 0
  run_none test zero i none = refl
  run_none test (suc n) i none = rw none refl

  pub run_ends : (test : Token → Bool) (i : ℕ) → is_next bytes list test i ≡ false → run bytes list test i ≡ 0
  run_ends test i none = run_none test (length list.items - i) i none

  closes_next : (to count i : ℕ) → i < to → closes bytes list (to - i) count i ≡ (open_behind (token_at bytes list i) count == 0 || closes bytes list (to - (i + 1)) (open_behind (token_at bytes list i) count) (i + 1))
  closes_next to count i less = ap (λ n. closes bytes list n count i) (one_off to i less)

  closes_as : (to count behind i : ℕ) → i < to → behind ≡ open_behind (token_at bytes list i) count → closes bytes list (to - i) count i ≡ (behind == 0 || closes bytes list (to - (i + 1)) behind (i + 1))
  closes_as to count behind i less is = closes_next to count i less ∙ sym (ap (λ n. n == 0 || closes bytes list (to - (i + 1)) n (i + 1)) is)

  -- a token behind which a bracket is open, and one behind which none is
  pub still_open : (to count behind i : ℕ) → i < to → behind ≡ open_behind (token_at bytes list i) count → (behind ≡ 0 → ⊥) → closes bytes list (to - (i + 1)) behind (i + 1) ≡ closes bytes list (to - i) count i
  still_open to count behind i less is some = sym (closes_as to count behind i less is ∙ ap (λ t. t || closes bytes list (to - (i + 1)) behind (i + 1)) (ne_eqb behind 0 some))

  pub closed_here : (to count behind i : ℕ) → i < to → behind ≡ open_behind (token_at bytes list i) count → behind ≡ 0 → closes bytes list (to - i) count i ≡ true
  closed_here to count behind i less is none = closes_as to count behind i less is ∙ ap (λ t. t || closes bytes list (to - (i + 1)) behind (i + 1)) (eq-eqb behind 0 none)

  pub never_closed : (to count i : ℕ) → to ≤ i → closes bytes list (to - i) count i ≡ false
  never_closed to count i over = ap (λ n. closes bytes list n count i) (none_left to i over)

  module _ (own : List ℕ) (parts : List (List ℕ)) (to i : ℕ) where
    wrong_next : i < to → first_wrong bytes list own parts to (to - i) i ≡ (if is_wrong bytes list own parts to i then Some i else first_wrong bytes list own parts to (to - (i + 1)) (i + 1))
    wrong_next less = ap (λ n. first_wrong bytes list own parts to n i) (one_off to i less)

    pub wrong_goes_on : i < to → is_wrong bytes list own parts to i ≡ false → first_wrong bytes list own parts to (to - (i + 1)) (i + 1) ≡ first_wrong bytes list own parts to (to - i) i
    wrong_goes_on less right = sym (wrong_next less ∙ ap (λ t. if t then Some i else first_wrong bytes list own parts to (to - (i + 1)) (i + 1)) right)

    pub wrong_here : i < to → is_wrong bytes list own parts to i ≡ true → first_wrong bytes list own parts to (to - i) i ≡ Some i
    wrong_here less wrong = wrong_next less ∙ ap (λ t. if t then Some i else first_wrong bytes list own parts to (to - (i + 1)) (i + 1)) wrong

    pub none_wrong : to ≤ i → first_wrong bytes list own parts to (to - i) i ≡ None
    none_wrong over = ap (λ n. first_wrong bytes list own parts to n i) (none_left to i over)
