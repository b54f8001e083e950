-- What the token at a place is, through the list of what is kept.
use Rattle.std.proofs.Common.{◌≡◌, ℕ, ◌+◌, ◌-◌, ◌∙◌, ◌<◌, ◌≤◌, ◌++◌, refl, List, [], ◌∷◌, min, length, take, drop, Some, option_map, slice_get, ap, sym, suc, zero, inl, inr, arith}
use Rattle.std.proofs.lemmas.List.{take_min, length-drop}
use Rattle.std.proofs.lemmas.Bool.{cases_lt}
use Rattle.floyd_lex.specs.Token.{Lexeme, TokenList, part_of, text_of, with_last}

abbrev span_of : Lexeme → ℕ × ℕ
span_of x = (x.start, x.end)

same_span : (a b : ℕ × ℕ) → Some a ≡ Some b → a ≡ b
same_span a b e = cc

pub text_at_index : (bytes : List ℕ) (xs : List Lexeme) (at start end : ℕ) → option_map span_of (slice_get xs at) ≡ Some (start, end) → option_map (text_of bytes) (slice_get xs at) ≡ Some (take (end - start) (drop start bytes))
text_at_index bytes [] at start end e = absurd cc
text_at_index bytes (x ∷ xs) zero start end e = ap (λ (s : ℕ × ℕ). Some (take (s.1 - s.0) (drop s.0 bytes))) (same_span (x.start, x.end) (start, end) e)
text_at_index bytes (x ∷ xs) (suc at) start end e = text_at_index bytes xs at start end e

same_take : (m n : ℕ) (xs : List ℕ) → min m (length xs) ≡ min n (length xs) → take m xs ≡ take n xs
same_take m n xs e = sym (take_min m xs) ∙ ap (λ (k : ℕ). take k xs) e ∙ take_min n xs

-- a span that goes past the end is cut off there
pub cut_within : (bytes : List ℕ) (start end : ℕ) → take (min (length bytes) end - min (min (length bytes) end) start) (drop (min (min (length bytes) end) start) bytes) ≡ take (end - start) (drop start bytes)
cut_within bytes start end = elim (cases_lt (min (length bytes) end) start) [
  | inl h ↦
      let a : min (min (length bytes) end) start ≡ min (length bytes) end = omega (arith, h) in
      let b : min (length bytes) end - min (length bytes) end ≡ 0 = omega arith in
      rw (a, b) (same_take 0 (end - start) (drop start bytes) (rw (length-drop start bytes) (omega (arith, h))))
  | inr h ↦
      let a : min (min (length bytes) end) start ≡ start = omega (arith, h) in
      rw a (same_take (min (length bytes) end - start) (end - start) (drop start bytes) (rw (length-drop start bytes) (omega (arith, h))))
]

-- one token more of a part
first_more : (xs : List Lexeme) (at : ℕ) → at < length xs → (x : Lexeme) × (slice_get xs at ≡ Some x) × (take (at + 1) xs ≡ take at xs ++ x ∷ [])
first_more [] at h = absurd (omega (arith, h))
first_more (y ∷ ys) zero h = (y, refl, refl)
first_more (y ∷ ys) (suc at) h =
    let r = first_more ys at (omega (arith, h)) in
    let len : suc at + 1 ≡ suc (at + 1) = omega arith in
    (r.0, r.1, ap (λ (n : ℕ). take n (y ∷ ys)) len ∙ ap (λ (xs : List Lexeme). y ∷ xs) r.2)

part_step : (xs : List Lexeme) (from at : ℕ) → from ≤ at → at < length xs → (x : Lexeme) × (slice_get xs at ≡ Some x) × (take (at + 1 - from) (drop from xs) ≡ take (at - from) (drop from xs) ++ x ∷ [])
part_step xs zero at h w =
    let r = first_more xs at w in
    let a : at + 1 - 0 ≡ at + 1 = omega arith in
    let b : at - 0 ≡ at = omega arith in
    (r.0, r.1, rw (a, b) r.2)
part_step [] (suc from) at h w = absurd (omega (arith, w))
part_step (y ∷ ys) (suc from) zero h w = absurd (omega (arith, h))
part_step (y ∷ ys) (suc from) (suc at) h w =
    let r = part_step ys from at (omega (arith, h)) (omega (arith, w)) in
    let a : suc at + 1 - suc from ≡ at + 1 - from = omega arith in
    let b : suc at - suc from ≡ at - from = omega arith in
    (r.0, r.1, rw (a, b) r.2)

pub part_more : (list part next : TokenList) (from at : ℕ) → from ≤ at → at < length list.items → part ≡ part_of list from at → ((x : Lexeme) → slice_get list.items at ≡ Some x → next ≡ with_last part x) → next ≡ part_of list from (at + 1)
part_more list part next from at h w e put =
    let r = part_step list.items from at h w in
    put r.0 r.1 ∙ ap (λ (l : TokenList). with_last l r.0) e ∙ ap (λ (xs : List Lexeme). record { file = list.file; items = xs }) (sym r.2)
