-- The texts of the tokens stand in order, with gaps between them, each on its line.
use Rattle.std.proofs.Common.{◌≡◌, ℕ, ◌+◌, ◌-◌, ◌∙◌, ◌<◌, ◌≤◌, Bool, true, false, cond, List, [], ◌∷◌, ◌++◌, length, map, take, drop, get_or, suc, zero, Option, Some, None, Ok, refl, ap, sym, subst, arith, inl, inr}
use Rattle.std.proofs.lemmas.Bool.{cases_lt}
use Rattle.std.proofs.lemmas.List.{length-take, length-drop, take_all, drop-drop, append_assoc}
use Rattle.std.proofs.Math.Seq.{take-add}
use Rattle.std.specs.Str.{is_utf8}
use Rattle.floyd_text.specs.declared.place.Place.{Place}
use Rattle.floyd_text.specs.Place.{place_at}
use Rattle.floyd_lex.specs.declared.classes.Class.TheVariants as class
use Rattle.floyd_lex.specs.declared.kinds.FileKind.{FileKind}
use Rattle.floyd_lex.specs.declared.kinds.FileKind.TheVariants.{Source, Spec, Script}
use Rattle.floyd_lex.specs.declared.kinds.TokenKind.{TokenKind}
use Rattle.floyd_lex.specs.declared.lead.Flaw.{Flaw}
use Rattle.floyd_lex.specs.declared.lead.Lead.{Lead}
use Rattle.floyd_lex.specs.declared.lead.Lead.TheVariants.{Skip, Piece}
use Rattle.floyd_lex.specs.Classes.{run, begins, is_white}
use Rattle.floyd_lex.specs.Front.{front, comment, comment_of, comment_len, comment_or_bad, line_comment}
use Rattle.floyd_lex.specs.Cuts.{Cuts, Outcome, ends, skips, takes, is_long, is_full, refuses, AreTokens, answer_at}
use Rattle.floyd_lex.specs.Token.{Piece as CutPiece, Lexeme, TokenList, placed, text_of}
use Rattle.floyd_lex.specs.Laws.{IsGap, nothing, white, comment as gap_comment, line_comment as gap_line, marker, IsOnOneLine, StandInOrder, Suits}
use Rattle.floyd_lex.proofs.MoveLemmas.{Moves, steps_by, front_moves}
use Rattle.floyd_lex.proofs.LocalLemmas.{front_by, front_line, begins_line}
use Rattle.floyd_lex.proofs.GapLemmas.{one_line, line_split, rest_end, skip_gap, piece_suits}
use Rattle.floyd_lex.proofs.CutLemmas.{skip_within, piece_within}

gap_append : (kind : FileKind) {a : List ℕ} (b : List ℕ) → IsGap kind a → IsGap kind b → IsGap kind (a ++ b)
gap_append kind b nothing g = g
gap_append kind b (white e d) g = white e (gap_append kind b d g)
gap_append kind b (gap_comment text more closes d) g = subst (IsGap kind) (sym (append_assoc (47 ∷ 42 ∷ text) more b)) (gap_comment text (more ++ b) closes (gap_append kind b d g))
gap_append kind b (gap_line text more line d) g = subst (IsGap kind) (sym (append_assoc (47 ∷ 47 ∷ text) more b)) (gap_line text (more ++ b) line (gap_append kind b d g))
gap_append kind b (marker text more of line mark d) g = subst (IsGap kind) (sym (append_assoc text more b)) (marker text (more ++ b) of line mark (gap_append kind b d g))

module _ (kind : FileKind) (bytes : List ℕ) where
  -- a gap and what is skipped behind it
  longer : (from at n : ℕ) → from ≤ at → IsGap kind (take (at - from) (drop from bytes)) → IsGap kind (take n (drop at bytes)) → IsGap kind (take (at + n - from) (drop from bytes))
  longer from at n h g next =
      let len : at + n - from ≡ at - from + n = omega (arith, h) in
      let there : from + (at - from) ≡ at = omega (arith, h) in
      let rest : drop (at - from) (drop from bytes) ≡ drop at bytes = drop-drop (at - from) from bytes ∙ ap (λ (m : ℕ). drop m bytes) there in
      rw (len, take-add (at - from) n (drop from bytes), rest) (gap_append kind (take n (drop at bytes)) g next)

  pub in_order : (place : ℕ → Place) {left at : ℕ} {o : Outcome} → Cuts kind bytes left at o → at ≤ length bytes → (from : ℕ) → from ≤ at → IsGap kind (take (at - from) (drop from bytes)) → o.stop ≡ None → StandInOrder kind bytes from (map (placed place) o.pieces)
  in_order place {left = left} {at = at} (ends e) h from w g s =
      let over : length bytes - at ≡ 0 = sym (length-drop at bytes) ∙ ap length (rest_end kind (take at bytes) (drop at bytes) e) in
      subst (IsGap kind) (take_all (at - from) (drop from bytes) (omega (arith, length-drop from bytes, over))) g
  in_order place {left = left} {at = at} (skips {n = n} e d) h from w g s =
      in_order place d (skip_within kind bytes at n e h).1 from (omega (arith, w)) (longer from at n w g (skip_gap kind (take at bytes) (drop at bytes) n e)) s
  in_order place {left = left} {at = at} (takes {n = n} {t = t} e short d) h from w g s =
      let fits = piece_within kind bytes at n t e h in
      let none : at + n - (at + n) ≡ 0 = omega arith in
      (w, g, omega (arith, fits.0), fits.1, in_order place d fits.1 (at + n) (omega arith) (rw none nothing) s)
  in_order place (is_long e long) h from w g s = absurd cc
  in_order place (is_full e) h from w g s = absurd cc
  in_order place (refuses e) h from w g s = absurd cc

-- a comment is no token
no_cond : (b : Bool) (x y : Lead) (t : TokenKind) (n : ℕ) → (x ≡ Piece t n → ⊥) → (y ≡ Piece t n → ⊥) → cond b x y ≡ Piece t n → ⊥
no_cond true x y t n f g e = f e
no_cond false x y t n f g e = g e

comment_of_no_piece : (kind : FileKind) (m : ℕ) (bytes : List ℕ) (t : TokenKind) (n : ℕ) → comment_of kind m bytes ≡ Piece t n → ⊥
comment_of_no_piece Source m bytes t n e = cc
comment_of_no_piece Spec m bytes t n e = no_cond (is_utf8 (take m bytes)) _ _ t n (λ f. cc) (λ f. cc) e
comment_of_no_piece Script m bytes t n e = no_cond (is_utf8 (take m bytes)) _ _ t n (λ f. cc) (λ f. cc) e

line_comment_no_piece : (kind : FileKind) (bytes : List ℕ) (t : TokenKind) (n : ℕ) → line_comment kind bytes ≡ Piece t n → ⊥
unfolding line_comment
line_comment_no_piece kind bytes t n e = comment_of_no_piece kind (run class.NoFeed bytes) bytes t n e

or_bad_no_piece : (kind : FileKind) (o : Option ℕ) (bytes : List ℕ) (t : TokenKind) (n : ℕ) → comment_or_bad kind o bytes ≡ Piece t n → ⊥
or_bad_no_piece kind (Some m) bytes t n e = comment_of_no_piece kind (m + 2) bytes t n e
or_bad_no_piece kind None bytes t n e = cc

comment_no_piece : (kind : FileKind) (bytes : List ℕ) (t : TokenKind) (n : ℕ) → comment kind bytes ≡ Piece t n → ⊥
unfolding comment
comment_no_piece kind bytes t n e = or_bad_no_piece kind (comment_len (drop 2 bytes)) bytes t n e

module _ (kind : FileKind) (before : List ℕ) (t : TokenKind) (n : ℕ) where
  within : (bytes : List ℕ) → front kind before bytes ≡ Piece t n → n ≤ length bytes
  within bytes e = (steps_by (subst (Moves (length bytes)) e (front_moves kind before bytes))).1

  -- a token on a line ends there
  on_line : (xs ys : List ℕ) → front kind before (xs ++ 10 ∷ ys) ≡ Piece t n → n ≤ length xs
  unfolding front
  on_line [] ys e = absurd cc
  on_line (b ∷ xs) ys e = elim (begins "/*" (b ∷ xs)) as (λ v. begins "/*" (b ∷ xs) ≡ v → n ≤ length (b ∷ xs)) [
    | true ↦ λ opens.
        let by = front_by kind before b (xs ++ 10 ∷ ys) (is_white b) (begins "//" (b ∷ (xs ++ 10 ∷ ys))) true refl refl (begins_line "/*" (b ∷ xs) ys refl ∙ opens) in
        absurd (no_cond (is_white b) (Skip 1) _ t n (λ f. cc) (no_cond (begins "//" (b ∷ (xs ++ 10 ∷ ys))) (line_comment kind (b ∷ (xs ++ 10 ∷ ys))) (comment kind (b ∷ (xs ++ 10 ∷ ys))) t n (line_comment_no_piece kind (b ∷ (xs ++ 10 ∷ ys)) t n) (comment_no_piece kind (b ∷ (xs ++ 10 ∷ ys)) t n)) (sym by ∙ e))
    | false ↦ λ other. within (b ∷ xs) (sym (front_line kind before b xs ys other) ∙ e)
  ] refl

  pub piece_on_line : (rest : List ℕ) → front kind before rest ≡ Piece t n → n ≤ run class.NoFeed rest
  piece_on_line rest e = elim (cases_lt (run class.NoFeed rest) (length rest)) [
    | inl h ↦ omega (arith, on_line (take (run class.NoFeed rest) rest) (drop (run class.NoFeed rest + 1) rest) (ap (front kind before) (sym (line_split rest h)) ∙ e), length-take (run class.NoFeed rest) rest)
    | inr h ↦ omega (arith, h, within rest e)
  ]

module _ (kind : FileKind) (bytes : List ℕ) (place : ℕ → Place) where
  pub on_lines : {left at : ℕ} {o : Outcome} → Cuts kind bytes left at o → at ≤ length bytes → (k : ℕ) (d : Lexeme) → k < length (map (placed place) o.pieces) → IsOnOneLine (text_of bytes (get_or (map (placed place) o.pieces) k d))
  on_lines (ends e) h k d w = absurd (omega (arith, w))
  on_lines {left = left} {at = at} (skips {n = n} e c) h k d w = on_lines c (skip_within kind bytes at n e h).1 k d w
  on_lines {left = left} {at = at} (takes {n = n} {t = t} e short c) h zero d w =
      let len : at + n - at ≡ n = omega arith in
      rw len (one_line (drop at bytes) n (piece_on_line kind (take at bytes) t n (drop at bytes) e))
  on_lines {left = left} {at = at} (takes {n = n} {t = t} e short c) h (suc k) d w = on_lines c (piece_within kind bytes at n t e h).1 k d (omega (arith, w))
  on_lines (is_long e long) h k d w = absurd (omega (arith, w))
  on_lines (is_full e) h k d w = absurd (omega (arith, w))
  on_lines (refuses e) h k d w = absurd (omega (arith, w))

  pub all_suit : {left at : ℕ} {o : Outcome} → Cuts kind bytes left at o → (k : ℕ) (d : Lexeme) → k < length (map (placed place) o.pieces) → Suits (get_or (map (placed place) o.pieces) k d).kind kind
  all_suit (ends e) k d w = absurd (omega (arith, w))
  all_suit (skips e c) k d w = all_suit c k d w
  all_suit {left = left} {at = at} (takes {n = n} {t = t} e short c) zero d w = piece_suits kind (take at bytes) (drop at bytes) t n e
  all_suit (takes e short c) (suc k) d w = all_suit c k d (omega (arith, w))
  all_suit (is_long e long) k d w = absurd (omega (arith, w))
  all_suit (is_full e) k d w = absurd (omega (arith, w))
  all_suit (refuses e) k d w = absurd (omega (arith, w))

-- the tokens of a file are those of its outcome
listed : (file : ℕ) (bytes : List ℕ) (list : TokenList) (pieces : List CutPiece) (stop : Option (Flaw × ℕ)) → Ok list ≡ answer_at file bytes pieces stop → (stop ≡ None) × (list.items ≡ map (placed (place_at file bytes)) pieces)
listed file bytes list pieces (Some s) e = absurd cc
listed file bytes list pieces None e =
    let same : list ≡ record { file = file; items = map (placed (place_at file bytes)) pieces } = cc in
    (refl, ap (λ (l : TokenList). l.items) same)

pub texts_in_order : (kind : FileKind) (bytes : List ℕ) (list : TokenList) → AreTokens kind bytes list → StandInOrder kind bytes 0 list.items
texts_in_order kind bytes list are =
    let l = listed list.file bytes list are.outcome.pieces are.outcome.stop are.same in
    subst (StandInOrder kind bytes 0) (sym l.1) (in_order kind bytes (place_at list.file bytes) are.cut (omega arith) 0 (omega arith) nothing l.0)

pub texts_on_lines : (kind : FileKind) (bytes : List ℕ) (list : TokenList) → AreTokens kind bytes list → (k : ℕ) (d : Lexeme) → k < length list.items → IsOnOneLine (text_of bytes (get_or list.items k d))
texts_on_lines kind bytes list are =
    let l = listed list.file bytes list are.outcome.pieces are.outcome.stop are.same in
    let P : List Lexeme → Type 0 = λ xs. (k : ℕ) (d : Lexeme) → k < length xs → IsOnOneLine (text_of bytes (get_or xs k d)) in
    subst P (sym l.1) (on_lines kind bytes (place_at list.file bytes) are.cut (omega arith))

pub tokens_all_suit : (kind : FileKind) (bytes : List ℕ) (list : TokenList) → AreTokens kind bytes list → (k : ℕ) (d : Lexeme) → k < length list.items → Suits (get_or list.items k d).kind kind
tokens_all_suit kind bytes list are =
    let l = listed list.file bytes list are.outcome.pieces are.outcome.stop are.same in
    let P : List Lexeme → Type 0 = λ xs. (k : ℕ) (d : Lexeme) → k < length xs → Suits (get_or xs k d).kind kind in
    subst P (sym l.1) (all_suit kind bytes (place_at list.file bytes) are.cut)
