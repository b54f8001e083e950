use Rattle.std.proofs.Common.{◌≡◌, ℕ, ◌+◌, ◌≤◌, ◌∙◌, true, false, nat_le, List, [], ◌∷◌, length, take, Some, None, slice_get, get_or, refl, ap, arith}
use Rattle.std.specs.Str.{IsUtf8, is_utf8, chars, continuation_len}
use Rattle.std.proofs.lemmas.Str.{is_utf8-from_IsUtf8, IsUtf8-from_is_utf8}
use Rattle.floyd_lex.specs.Unicode.{char_at, char_of}
use Rattle.floyd_lex.proofs.unicode.char_at.Goals as goal

head_is : (cs : List ℕ) (c : ℕ) → Some c ≡ slice_get cs 0 → get_or cs 0 0 ≡ c
head_is [] c e = absurd cc
head_is (d ∷ cs) c e = cc

not_utf8 : (bytes : List ℕ) → (IsUtf8 bytes → ⊥) → is_utf8 bytes ≡ false
not_utf8 bytes h = elim (is_utf8 bytes) as (λ v. (v ≡ true → IsUtf8 bytes) → v ≡ false) [ true ↦ λ u. absurd (h (u refl)) | false ↦ λ u. refl ] (IsUtf8-from_is_utf8 bytes)

module _ (bytes : List ℕ) (n : ℕ) (is_n : n ≡ continuation_len (get_or bytes 0 0) + 1) (within : n ≤ length bytes) where
  short : nat_le n (length bytes) ≡ true
  short = grind (arith, within)

  same : char_of n bytes ≡ char_at bytes
  unfolding char_at
  same = ap (λ (k : ℕ). char_of k bytes) is_n

  pub some_char : (c : ℕ) → IsUtf8 (take n bytes) → Some c ≡ slice_get (chars (take n bytes)) 0 → Some (c, n) ≡ char_at bytes
  some_char c u e = rw (← same, short, is_utf8-from_IsUtf8 (take n bytes) u, head_is (chars (take n bytes)) c e) refl

  pub no_char : (IsUtf8 (take n bytes) → ⊥) → None ≡ char_at bytes
  no_char u = rw (← same, short, not_utf8 (take n bytes) u) refl

pub returns-in-Some-clause-value : goal.returns-in-Some-clause-value
returns-in-Some-clause-value c = some_char c.args.bytes.now c.width-n.result c.width-n.ensures c.if-bytes-n.false c.in-Some.c c.in-Ok.ensures.cases.1 (c.in-Some.ensures.steps.2 ∙ ap (λ (z : List ℕ). slice_get (chars z) 0) (c.chars.ensures.rest ∙ c.in-Ok.ensures.cases.0))

pub returns-in-Err-clause-value : goal.returns-in-Err-clause-value
returns-in-Err-clause-value c = no_char c.args.bytes.now c.width-n.result c.width-n.ensures c.if-bytes-n.false c.in-Err.ensures.cases.0
