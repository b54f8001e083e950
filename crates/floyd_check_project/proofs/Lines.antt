-- The lines from an offset on, one by one.
use Rattle.std.proofs.Common.{◌≡◌, ℕ, ◌+◌, ◌-◌, ◌≤◌, ◌<◌, suc, cond, leb, ltb, eqb, List, [], ◌∷◌, length, take, drop, refl, sym, ap, ◌∙◌, arith, Option, Some, if◌then◌else◌, ◌||◌, inl, inr}
use Rattle.std.specs.List.{prefix_len}
use Rattle.std.proofs.lemmas.Bool.{cases_Bool, le-leb, lt-leb, le-ltb, lt-ltb, cases_lt, cond-true, cond-false}
use Rattle.std.proofs.lemmas.List.{drop-drop, length-drop}
use Rattle.std.proofs.lemmas.List.Sums.{prefix_len-le-length}
use Rattle.floyd_text.specs.Place.{is_other}
use Rattle.floyd_check_project.specs.declared.draft.Expected.{Expected}
use Rattle.floyd_check_project.specs.declared.module.Module.{Module}
use Rattle.floyd_check_project.specs.Lines.{Line, lines_from, with_byte, is_blank, is_comment}
use Rattle.floyd_check_project.specs.Project.{read_lines, on_line, after_line}

abbrev pub line_at : ℕ → List ℕ → Line
line_at at bytes = record { at = at; bytes = bytes }

-- the lines behind a first line of so many bytes
abbrev behind : ℕ → ℕ → List ℕ → List Line
behind at n bytes = cond (ltb n (length bytes)) (lines_from (at + n + 1) (drop (n + 1) bytes)) []

-- one byte more before the first line
behind_more : (at n b : ℕ) (bs : List ℕ) → behind (at + 1) n bs ≡ behind at (suc n) (b ∷ bs)
behind_more at n b bs =
    let two : suc n + 1 ≡ suc (n + 1) = omega arith in
    let three : at + 1 + n + 1 ≡ at + suc n + 1 = omega arith in
    elim (cases_lt n (length bs)) [
      | inl l ↦ cond-true (ltb n (length bs)) _ [] (lt-ltb n (length bs) l) ∙ ((rw (two, three) refl) ∙ sym (cond-true (ltb (suc n) (suc (length bs))) _ [] (lt-ltb (suc n) (suc (length bs)) (omega arith))))
      | inr l ↦ cond-false (ltb n (length bs)) _ [] (le-ltb n (length bs) l) ∙ sym (cond-false (ltb (suc n) (suc (length bs))) _ [] (le-ltb (suc n) (suc (length bs)) (omega arith)))
    ]

-- the first line is empty
behind_feed : (at b : ℕ) (bs : List ℕ) → behind at 0 (b ∷ bs) ≡ lines_from (at + 1) bs
behind_feed at b bs = cond-true (ltb 0 (suc (length bs))) _ [] (lt-ltb 0 (suc (length bs)) (omega arith)) ∙ ap (λ (n : ℕ). lines_from n bs) (omega arith)

with_byte_first : (at b : ℕ) (bs : List ℕ) (ls : List Line) → lines_from (at + 1) bs ≡ line_at (at + 1) (take (prefix_len is_other bs) bs) ∷ ls
    → with_byte at b (lines_from (at + 1) bs) ≡ line_at at (b ∷ take (prefix_len is_other bs) bs) ∷ ls
with_byte_first at b bs ls e = ap (with_byte at b) e

first_line : (at : ℕ) (bytes : List ℕ) → lines_from at bytes ≡ line_at at (take (prefix_len is_other bytes) bytes) ∷ behind at (prefix_len is_other bytes) bytes
first_line at [] = refl
first_line at (b ∷ bs) = elim (cases_Bool (eqb b 10)) [
  | inl e ↦ rw e (ap (λ (ls : List Line). line_at at [] ∷ ls) (sym (behind_feed at b bs)))
  | inr e ↦
      let one : 1 + prefix_len is_other bs ≡ suc (prefix_len is_other bs) = omega arith in
      rw (e, one) (with_byte_first at b bs _ (first_line (at + 1) bs) ∙ ap (λ (ls : List Line). line_at at (b ∷ take (prefix_len is_other bs) bs) ∷ ls) (behind_more at (prefix_len is_other bs) b bs))
]

-- the lines that begin at this offset or behind it, none where it lies behind the end
abbrev pub lines_left : ℕ → List ℕ → List Line
lines_left at bytes = cond (leb at (length bytes)) (lines_from at (drop at bytes)) []

pub lines_left_all : (bytes : List ℕ) → lines_left 0 bytes ≡ lines_from 0 bytes
lines_left_all bytes = rw (le-leb 0 (length bytes) (omega arith))

pub lines_left_none : (at : ℕ) (bytes : List ℕ) → length bytes < at → lines_left at bytes ≡ []
lines_left_none at bytes h = rw (lt-leb at (length bytes) h)

behind_left : (at n : ℕ) (bytes : List ℕ) → at + n ≤ length bytes → behind at n (drop at bytes) ≡ lines_left (at + n + 1) bytes
behind_left at n bytes h =
    let room : length (drop at bytes) ≡ length bytes - at = length-drop at bytes in
    let same : at + n + 1 ≡ at + (n + 1) = omega arith in
    elim (cases_lt n (length (drop at bytes))) [
      | inl l ↦ rw (lt-ltb n (length (drop at bytes)) l, le-leb (at + n + 1) (length bytes) (omega arith)) (rw same (ap (lines_from (at + (n + 1))) (drop-drop (n + 1) at bytes)))
      | inr l ↦ rw (le-ltb n (length (drop at bytes)) l, lt-leb (at + n + 1) (length bytes) (omega arith))
    ]

-- the line that begins at this offset, and those behind it
pub next_line : (at end : ℕ) (bytes : List ℕ) → at ≤ length bytes → end ≡ at + prefix_len is_other (drop at bytes)
    → lines_left at bytes ≡ line_at at (take (end - at) (drop at bytes)) ∷ lines_left (end + 1) bytes
next_line at end bytes h e =
    let p = prefix_len is_other (drop at bytes) in
    let inside : p ≤ length (drop at bytes) = prefix_len-le-length is_other (drop at bytes) in
    let room : length (drop at bytes) ≡ length bytes - at = length-drop at bytes in
    let wide : end - at ≡ p = omega arith in
    rw (wide, e, le-leb at (length bytes) h) (first_line at (drop at bytes) ∙ ap (λ (ls : List Line). line_at at (take p (drop at bytes)) ∷ ls) (behind_left at p bytes (omega arith)))

-- reading goes on with what a line of any kind gives
pub read_next : (n at : ℕ) (bytes : List ℕ) (ls : List Line) (expected : Expected) (modules : List Module)
    → read_lines n (line_at at bytes ∷ ls) expected modules
    ≡ on_line (read_lines n ls) at (if is_blank bytes || is_comment bytes then Some (expected, modules) else after_line expected modules (line_at at bytes))
read_next n at bytes ls expected modules = elim (cases_Bool (is_blank bytes || is_comment bytes)) [ inl e ↦ rw e | inr e ↦ rw e ]

-- what is left, where its first line gives this
pub go_on : (at end : ℕ) (bytes : List ℕ) (expected : Expected) (modules : List Module) (next : Option (Expected × List Module))
    → at ≤ length bytes → end ≡ at + prefix_len is_other (drop at bytes)
    → next ≡ (if is_blank (take (end - at) (drop at bytes)) || is_comment (take (end - at) (drop at bytes)) then Some (expected, modules)
    else after_line expected modules (line_at at (take (end - at) (drop at bytes))))
    → read_lines (length bytes) (lines_left at bytes) expected modules ≡ on_line (read_lines (length bytes) (lines_left (end + 1) bytes)) at next
go_on at end bytes expected modules next h e given =
    ap (λ (ls : List Line). read_lines (length bytes) ls expected modules) (next_line at end bytes h e)
    ∙ (read_next (length bytes) at (take (end - at) (drop at bytes)) (lines_left (end + 1) bytes) expected modules
    ∙ ap (on_line (read_lines (length bytes) (lines_left (end + 1) bytes)) at) (sym given))
