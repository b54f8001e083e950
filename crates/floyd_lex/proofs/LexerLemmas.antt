-- What was cut of the first lines is what the whole begins with.
use Rattle.std.proofs.Common.{◌≡◌, ℕ, ◌+◌, ◌-◌, ◌∙◌, ◌≤◌, true, false, cond, eqb, List, [], ◌++◌, length, map, take, drop, take-take, get_or, reverse, zero, suc, Option, Some, None, Ok, Err, refl, ap, sym, subst, arith}
use Rattle.std.specs.List.{prefix_len, suffix_len}
use Rattle.std.proofs.lemmas.List.Folds.{prefix_len-append}
use Rattle.std.proofs.lemmas.List.Sums.{suffix_len-take_yes, suffix_len-take_no, suffix_len-le-length}
use Rattle.std.proofs.lemmas.List.{length-append, length-map, length-take, length-reverse, map-append, reverse-append, take-append-drop, take_all, take_more, take_rest, take-append-le, append-nil}
use Rattle.floyd_text.specs.Place.{is_feed, is_other, place_at}
use Rattle.floyd_lex.specs.declared.cutting.Stand.{Stand}
use Rattle.floyd_lex.specs.declared.kinds.FileKind.{FileKind}
use Rattle.floyd_lex.specs.declared.lead.Flaw.{Flaw}
use Rattle.floyd_lex.specs.declared.lead.Flaw.TheVariants.{BadByte, OpenComment, BadNumber, TooManyTokens, LongName}
use Rattle.floyd_lex.specs.declared.lead.Lead.TheVariants as lead
use Rattle.floyd_lex.specs.Cuts.{Cuts, Outcome, stopped, refusal_of, ends, skips, takes, is_long, is_full, refuses}
use Rattle.floyd_lex.specs.CuttingClauses.{HasCut, EndsAt}
use Rattle.floyd_lex.specs.Front.{front, comment_len}
use Rattle.floyd_lex.specs.Laws.{AreLines, no_lines, lines, GoesOn, Continues}
use Rattle.floyd_lex.specs.LexerClauses.{cut_as, is_open}
use Rattle.floyd_lex.specs.Lexing.{IsCutInto, whole_lines}
use Rattle.floyd_lex.specs.SpotClauses.{IsSpot}
use Rattle.floyd_lex.specs.Token.{Piece, Lexeme, TokenList, placed, empty_list}
use Rattle.floyd_lex.proofs.CutLemmas.{begin_within}
use Rattle.floyd_lex.proofs.GapLemmas.{none_left}
use Rattle.floyd_lex.proofs.LinesLemmas.{stand_alone}
use Rattle.floyd_lex.proofs.OpenLemmas.{begins_at, front_opens}
use Rattle.floyd_lex.proofs.SpotLemmas.{places_stay, spot_stays}

-- a cut has no more tokens than there is room for
pub cut_count : {kind : FileKind} {bytes : List ℕ} {left at : ℕ} {o : Outcome} → Cuts kind bytes left at o → length o.pieces ≤ left
cut_count (ends e) = omega arith
cut_count (skips e d) = cut_count d
cut_count (takes e short d) = omega (arith, cut_count d)
cut_count (is_long e long) = omega arith
cut_count (is_full e) = omega arith
cut_count (refuses e) = omega arith

abbrev list_at : ℕ → List ℕ → List Piece → TokenList
list_at file bytes ps = record { file = file; items = map (placed (place_at file bytes)) ps }

module _ (kind : FileKind) (file : ℕ) (b more : List ℕ) (t : TokenList) (stand : Stand) (is_lines : AreLines b) (first : HasCut kind b 0 (empty_list file) t stand) where
  pub small_count : length t.items ≤ 1000000
  small_count = omega (arith, cut_count first.cut, ap (λ (l : TokenList). length l.items) first.items, length-map first.pieces (placed (place_at file b)))

  -- the same places in the whole
  same_list : t ≡ list_at file (b ++ more) first.pieces
  same_list = first.items ∙ ap (λ (xs : List Lexeme). record { file = file; items = xs }) (sym (places_stay file b more first.pieces (begin_within kind b first.cut (omega arith))))

  goes : Continues kind (b ++ more) 1000000 0 (length b) first.pieces stand.flaw
  goes = stand_alone kind 1000000 b more record { pieces = first.pieces; stop = stand.flaw } is_lines first.cut

  pub spot_there : IsSpot (b ++ more) stand.spot
  spot_there = spot_stays b stand.spot first.spot more

  -- as it was, where it does not go on
  kept : Cuts kind (b ++ more) 1000000 0 record { pieces = first.pieces; stop = stand.flaw } → EndsAt (b ++ more) stand.spot stand.flaw → HasCut kind (b ++ more) 0 (empty_list file) t stand
  kept d over = record { pieces = first.pieces; items = same_list; cut = d; spot = spot_there; ends = over }

  pub other_stays : (flaw : Flaw) (to : ℕ) → stand.flaw ≡ Some (flaw, to) → (flaw ≡ OpenComment → ⊥) → HasCut kind (b ++ more) 0 (empty_list file) t stand
  other_stays flaw to e other =
      let d = by flaw other (subst (Continues kind (b ++ more) 1000000 0 (length b) first.pieces) e goes) in
      let within = ends_by flaw other (subst (EndsAt b stand.spot) e first.ends) in
      kept (subst (λ (f : Option (Flaw × ℕ)). Cuts kind (b ++ more) 1000000 0 record { pieces = first.pieces; stop = f }) (sym e) d) (subst (EndsAt (b ++ more) stand.spot) (sym e) (over_by flaw other within))
    where
      by : (flaw : Flaw) → (flaw ≡ OpenComment → ⊥) → Continues kind (b ++ more) 1000000 0 (length b) first.pieces (Some (flaw, to)) → Cuts kind (b ++ more) 1000000 0 record { pieces = first.pieces; stop = Some (flaw, to) }
      by OpenComment other c = absurd (other refl)
      by BadByte other c = c
      by BadNumber other c = c
      by TooManyTokens other c = c
      by LongName other c = c

      ends_by : (flaw : Flaw) → (flaw ≡ OpenComment → ⊥) → EndsAt b stand.spot (Some (flaw, to)) → to ≤ length b
      ends_by OpenComment other c = absurd (other refl)
      ends_by BadByte other c = c
      ends_by BadNumber other c = c
      ends_by TooManyTokens other c = c
      ends_by LongName other c = c

      longer : to ≤ length b → to ≤ length (b ++ more)
      longer h = omega (arith, h, length-append b more)

      over_by : (flaw : Flaw) → (flaw ≡ OpenComment → ⊥) → to ≤ length b → EndsAt (b ++ more) stand.spot (Some (flaw, to))
      over_by OpenComment other h = absurd (other refl)
      over_by BadByte other h = longer h
      over_by BadNumber other h = longer h
      over_by TooManyTokens other h = longer h
      over_by LongName other h = longer h

  -- it goes on from the spot
  abbrev GoesFrom : Type 0
  GoesFrom = (o : Outcome) → Cuts kind (b ++ more) (1000000 - length first.pieces) stand.spot.at o → Cuts kind (b ++ more) 1000000 0 record { pieces = first.pieces ++ o.pieces; stop = o.stop }

  from_none : stand.flaw ≡ None → GoesFrom
  from_none e o d =
      let over : stand.spot.at ≡ length b = subst (EndsAt b stand.spot) e first.ends in
      let on : GoesOn kind (b ++ more) 1000000 0 (length b) first.pieces = subst (Continues kind (b ++ more) 1000000 0 (length b) first.pieces) e goes in
      on o (subst (λ (m : ℕ). Cuts kind (b ++ more) (1000000 - length first.pieces) m o) over d)

  from_open : (to : ℕ) → stand.flaw ≡ Some (OpenComment, to) → GoesFrom
  from_open to e o d =
      let over : stand.spot.at ≡ to = subst (EndsAt b stand.spot) e first.ends in
      let on : GoesOn kind (b ++ more) 1000000 0 to first.pieces = subst (Continues kind (b ++ more) 1000000 0 (length b) first.pieces) e goes in
      on o (subst (λ (m : ℕ). Cuts kind (b ++ more) (1000000 - length first.pieces) m o) over d)

  joined : GoesFrom → (new : TokenList) (next : Stand) → HasCut kind (b ++ more) stand.spot.at t new next → HasCut kind (b ++ more) 0 (empty_list file) new next
  joined on new next second =
      let s : HasCut kind (b ++ more) stand.spot.at (list_at file (b ++ more) first.pieces) new next = subst (λ (l : TokenList). HasCut kind (b ++ more) stand.spot.at l new next) same_list second in
      let pw = placed (place_at file (b ++ more)) in
      let len : length (map pw first.pieces) ≡ length first.pieces = length-map first.pieces pw in
      record {
        pieces = first.pieces ++ s.pieces;
        items = s.items ∙ ap (λ (xs : List Lexeme). record { file = file; items = xs }) (sym (map-append pw first.pieces s.pieces));
        cut = on record { pieces = s.pieces; stop = next.flaw } (subst (λ (n : ℕ). Cuts kind (b ++ more) (1000000 - n) stand.spot.at record { pieces = s.pieces; stop = next.flaw }) len s.cut);
        spot = s.spot;
        ends = s.ends;
      }

  pub none_goes : stand.flaw ≡ None → (new : TokenList) (next : Stand) → HasCut kind (b ++ more) stand.spot.at t new next → HasCut kind (b ++ more) 0 (empty_list file) new next
  none_goes e = joined (from_none e)

  pub open_goes : (to : ℕ) → stand.flaw ≡ Some (OpenComment, to) → (new : TokenList) (next : Stand) → HasCut kind (b ++ more) stand.spot.at t new next → HasCut kind (b ++ more) 0 (empty_list file) new next
  open_goes to e = joined (from_open to e)

-- a comment that stays open
still_there : (kind : FileKind) (b more : List ℕ) (to : ℕ) → AreLines b → front kind (take to b) (drop to b) ≡ lead.Bad OpenComment 0 → to ≤ length b → comment_len more ≡ None → front kind (take to (b ++ more)) (drop to (b ++ more)) ≡ lead.Bad OpenComment 0
still_there kind b more zero no_lines e h none = let no : lead.End ≡ lead.Bad OpenComment 0 = sym (none_left kind []) ∙ e in absurd cc
still_there kind b more (suc to) no_lines e h none = absurd (omega (arith, h))
still_there kind b more to (lines zs) e h none = front_opens kind zs more to e h none

pub open_stays : (kind : FileKind) (file : ℕ) (b more : List ℕ) (t : TokenList) (stand : Stand) → AreLines b → HasCut kind b 0 (empty_list file) t stand → (to : ℕ) → stand.flaw ≡ Some (OpenComment, to) → comment_len more ≡ None → HasCut kind (b ++ more) 0 (empty_list file) t stand
open_stays kind file b more t stand is_lines first to e none =
    let at = begins_at kind b to first.cut (omega arith) e in
    let there = still_there kind b more to is_lines at.0 at.1 none in
    let over : stand.spot.at ≡ to = subst (EndsAt b stand.spot) e first.ends in
    let zero_more : to + 0 ≡ to = omega arith in
    let stop : Cuts kind (b ++ more) (1000000 - length first.pieces) to (stopped OpenComment to) = subst (λ (m : ℕ). Cuts kind (b ++ more) (1000000 - length first.pieces) to (stopped OpenComment m)) zero_more (refuses there) in
    let d = from_open kind file b more t stand is_lines first to e (stopped OpenComment to) (subst (λ (m : ℕ). Cuts kind (b ++ more) (1000000 - length first.pieces) m (stopped OpenComment to)) (sym over) stop) in
    let whole : Cuts kind (b ++ more) 1000000 0 record { pieces = first.pieces; stop = Some (OpenComment, to) } = subst (λ (ps : List Piece). Cuts kind (b ++ more) 1000000 0 record { pieces = ps; stop = Some (OpenComment, to) }) (append-nil first.pieces) d in
    kept kind file b more t stand is_lines first (subst (λ (f : Option (Flaw × ℕ)). Cuts kind (b ++ more) 1000000 0 record { pieces = first.pieces; stop = f }) (sym e) whole) (subst (EndsAt (b ++ more) stand.spot) (sym e) over)

-- The same of bytes whose first `old` are whole lines.
module _ (kind : FileKind) (file : ℕ) (bytes : List ℕ) (old : ℕ) (t : TokenList) (stand : Stand) (is_lines : AreLines (take old bytes)) (first : HasCut kind (take old bytes) 0 (empty_list file) t stand) where
  whole : take old bytes ++ drop old bytes ≡ bytes
  whole = take-append-drop old bytes

  apart : (at : ℕ) (old_list new : TokenList) (next : Stand) → HasCut kind bytes at old_list new next → HasCut kind (take old bytes ++ drop old bytes) at old_list new next
  apart at old_list new next = subst (λ (xs : List ℕ). HasCut kind xs at old_list new next) (sym whole)

  together : (new : TokenList) (next : Stand) → HasCut kind (take old bytes ++ drop old bytes) 0 (empty_list file) new next → HasCut kind bytes 0 (empty_list file) new next
  together new next = subst (λ (xs : List ℕ). HasCut kind xs 0 (empty_list file) new next) whole

  pub more_none : stand.flaw ≡ None → (new : TokenList) (next : Stand) → HasCut kind bytes stand.spot.at t new next → HasCut kind bytes 0 (empty_list file) new next
  more_none e new next second = together new next (none_goes kind file (take old bytes) (drop old bytes) t stand is_lines first e new next (apart stand.spot.at t new next second))

  pub more_open : (to : ℕ) → stand.flaw ≡ Some (OpenComment, to) → (new : TokenList) (next : Stand) → HasCut kind bytes stand.spot.at t new next → HasCut kind bytes 0 (empty_list file) new next
  more_open to e new next second = together new next (open_goes kind file (take old bytes) (drop old bytes) t stand is_lines first to e new next (apart stand.spot.at t new next second))

  pub still_open : (to : ℕ) → stand.flaw ≡ Some (OpenComment, to) → comment_len (drop old bytes) ≡ None → HasCut kind bytes 0 (empty_list file) t stand
  still_open to e none = together t stand (open_stays kind file (take old bytes) (drop old bytes) t stand is_lines first to e none)

  pub still_flawed : (flaw : Flaw) (to : ℕ) → stand.flaw ≡ Some (flaw, to) → (flaw ≡ OpenComment → ⊥) → HasCut kind bytes 0 (empty_list file) t stand
  still_flawed flaw to e other = together t stand (other_stays kind file (take old bytes) (drop old bytes) t stand is_lines first flaw to e other)

  pub room : length t.items ≤ 1000000
  room = small_count kind file (take old bytes) (drop old bytes) t stand is_lines first

pub open_is : (flaw : Flaw) → is_open flaw ≡ true → flaw ≡ OpenComment
open_is OpenComment e = refl
open_is BadByte e = absurd cc
open_is BadNumber e = absurd cc
open_is TooManyTokens e = absurd cc
open_is LongName e = absurd cc

pub open_is_not : (flaw : Flaw) → is_open flaw ≡ false → flaw ≡ OpenComment → ⊥
open_is_not flaw e f = let both : true ≡ false = sym (ap is_open f) ∙ e in absurd cc

-- whole lines
lines_to : (bytes : List ℕ) (n : ℕ) → n ≤ length bytes → AreLines (take (n - suffix_len is_other (take n bytes)) bytes)
lines_to bytes zero h = no_lines
lines_to bytes (suc n) h =
    let one : suc n ≡ n + 1 = omega arith in
    let less : n + 1 - 1 ≡ n = omega arith in
    let goal : ℕ → Type 0 = λ m. AreLines (take m bytes) in
    rw one (elim (is_feed (get_or bytes n 0)) as (λ v. is_feed (get_or bytes n 0) ≡ v → goal (n + 1 - suffix_len is_other (take (n + 1) bytes))) [
      | true ↦ λ e.
          let not_other : is_other (get_or bytes (n + 1 - 1) 0) ≡ false = rw (less, e) refl in
          let all : n + 1 - suffix_len is_other (take (n + 1) bytes) ≡ n + 1 = omega (arith, suffix_len-take_no is_other bytes (n + 1) 0 (omega arith) (omega (arith, h)) not_other) in
          let feed : get_or bytes n 0 ≡ 10 = grind (arith, e) in
          rw (all, take_more bytes n 0 (omega (arith, h)), feed) (lines (take n bytes))
      | false ↦ λ e.
          let other : is_other (get_or bytes (n + 1 - 1) 0) ≡ true = rw (less, e) refl in
          let fewer : n + 1 - suffix_len is_other (take (n + 1) bytes) ≡ n - suffix_len is_other (take n bytes) = omega (arith, suffix_len-take_yes is_other bytes (n + 1) 0 (omega arith) (omega (arith, h)) other, ap (λ (m : ℕ). suffix_len is_other (take m bytes)) less) in
          rw fewer (lines_to bytes n (omega (arith, h)))
    ] refl)

pub whole_are_lines : (bytes : List ℕ) → AreLines (whole_lines bytes)
whole_are_lines bytes = subst (λ (xs : List ℕ). AreLines (take (length bytes - suffix_len is_other xs) bytes)) (take_all (length bytes) bytes (omega arith)) (lines_to bytes (length bytes) (omega arith))

whole_len : (bytes : List ℕ) → length (whole_lines bytes) ≡ length bytes - suffix_len is_other bytes
whole_len bytes = omega (arith, length-take (length bytes - suffix_len is_other bytes) bytes)

-- by how many bytes they are
pub whole_taken : (bytes : List ℕ) (end : ℕ) → end ≡ length (whole_lines bytes) → take end bytes ≡ whole_lines bytes
whole_taken bytes end e = ap (λ (n : ℕ). take n bytes) (e ∙ whole_len bytes)

-- the whole lines of bytes with a piece behind them
tail_of : (bytes piece : List ℕ) → suffix_len is_other (bytes ++ piece) ≡ cond (eqb (suffix_len is_other piece) (length piece)) (length piece + suffix_len is_other bytes) (suffix_len is_other piece)
tail_of bytes piece =
    ap (prefix_len is_other) (reverse-append bytes piece) ∙ prefix_len-append is_other (reverse piece) (reverse bytes)
    ∙ ap (λ (n : ℕ). cond (eqb (suffix_len is_other piece) n) (n + suffix_len is_other bytes) (suffix_len is_other piece)) (length-reverse piece)

pub no_line_more : (bytes piece : List ℕ) (end : ℕ) → end ≡ length (whole_lines bytes) → suffix_len is_other piece ≡ length piece → end ≡ length (whole_lines (bytes ++ piece))
no_line_more bytes piece end e all =
    let yes : eqb (suffix_len is_other piece) (length piece) ≡ true = grind (arith, all) in
    let tail : suffix_len is_other (bytes ++ piece) ≡ length piece + suffix_len is_other bytes = rw (tail_of bytes piece, yes) refl in
    omega (arith, e, whole_len bytes, whole_len (bytes ++ piece), tail, length-append bytes piece)

pub lines_more : (bytes piece : List ℕ) → (suffix_len is_other piece ≡ length piece → ⊥) → length bytes + (length piece - suffix_len is_other piece) ≡ length (whole_lines (bytes ++ piece))
lines_more bytes piece some =
    let unequal : eqb (suffix_len is_other piece) (length piece) ≡ false = grind (arith, some) in
    let tail : suffix_len is_other (bytes ++ piece) ≡ suffix_len is_other piece = rw (tail_of bytes piece, unequal) refl in
    omega (arith, whole_len (bytes ++ piece), tail, length-append bytes piece, suffix_len-le-length is_other piece)

-- .. so many bytes behind the first ones
module _ (bytes : List ℕ) (len old : ℕ) (within : len ≤ length bytes) (e : old ≡ length (whole_lines (take len bytes))) where
  piece : List ℕ
  piece = take (length bytes - len) (drop len bytes)

  both : take len bytes ++ take (length bytes - len) (drop len bytes) ≡ bytes
  both = ap (λ (xs : List ℕ). take len bytes ++ xs) (take_rest bytes len) ∙ take-append-drop len bytes

  pub end_kept : suffix_len is_other (take (length bytes - len) (drop len bytes)) ≡ length (take (length bytes - len) (drop len bytes)) → old ≡ length (whole_lines bytes)
  end_kept all = no_line_more (take len bytes) (take (length bytes - len) (drop len bytes)) old e all ∙ ap (λ (xs : List ℕ). length (whole_lines xs)) both

  pub end_moved : (suffix_len is_other (take (length bytes - len) (drop len bytes)) ≡ length (take (length bytes - len) (drop len bytes)) → ⊥) → len + (length (take (length bytes - len) (drop len bytes)) - suffix_len is_other (take (length bytes - len) (drop len bytes))) ≡ length (whole_lines bytes)
  end_moved some =
      let len_is : length (take len bytes) ≡ len = omega (arith, length-take len bytes, within) in
      ap (λ (n : ℕ). n + (length (take (length bytes - len) (drop len bytes)) - suffix_len is_other (take (length bytes - len) (drop len bytes)))) (sym len_is) ∙ lines_more (take len bytes) (take (length bytes - len) (drop len bytes)) some ∙ ap (λ (xs : List ℕ). length (whole_lines xs)) both

pub end_within : (bytes : List ℕ) (end : ℕ) → end ≡ length (whole_lines bytes) → end ≤ length bytes
end_within bytes end e = omega (arith, e, whole_len bytes)

pub end_after : (bytes : List ℕ) (len old end : ℕ) → old ≡ length (whole_lines (take len bytes)) → old ≤ len
end_after bytes len old end e = omega (arith, end_within (take len bytes) old e, length-take len bytes)

-- the lines of the first bytes among those of all
pub lines_among : (bytes : List ℕ) (len old end : ℕ) → old ≡ length (whole_lines (take len bytes)) → old ≤ end → take old (take end bytes) ≡ whole_lines (take len bytes)
lines_among bytes len old end e h =
    let small : old ≤ len = omega (arith, end_within (take len bytes) old e, length-take len bytes) in
    take-take old end bytes h ∙ sym (take-take old len bytes small) ∙ whole_taken (take len bytes) old e

-- .. where the first ones are all that there were
pub lines_before : (bytes piece all : List ℕ) (len old end : ℕ) → all ≡ bytes ++ piece → len ≡ length bytes → old ≡ length (whole_lines bytes) → old ≤ end → take old (take end all) ≡ whole_lines bytes
lines_before bytes piece all len old end put is_len e h =
    let first : take len all ≡ bytes = ap (λ (xs : List ℕ). take len xs) put ∙ take-append-le len bytes piece (omega (arith, is_len)) ∙ take_all len bytes (omega (arith, is_len)) in
    lines_among all len old end (e ∙ ap (λ (xs : List ℕ). length (whole_lines xs)) (sym first)) h ∙ ap whole_lines first

-- the lines of a slice that was cut
pub cut_whole : (kind : FileKind) (file : ℕ) (slice all : List ℕ) (end : ℕ) (t : TokenList) (stand : Stand) → slice ≡ all → end ≡ length (whole_lines slice) → HasCut kind (take end slice) 0 (empty_list file) t stand → HasCut kind (whole_lines all) 0 (empty_list t.file) t stand
cut_whole kind file slice all end t stand same e h =
    let is_file : file ≡ t.file = sym (ap (λ (l : TokenList). l.file) h.items) in
    let there : take end slice ≡ whole_lines all = whole_taken slice end e ∙ ap whole_lines same in
    subst (λ (f : ℕ). HasCut kind (whole_lines all) 0 (empty_list f) t stand) is_file (subst (λ (xs : List ℕ). HasCut kind xs 0 (empty_list file) t stand) there h)

-- what all bytes are cut into
pub cut_into : (kind : FileKind) (file : ℕ) (bytes : List ℕ) (t : TokenList) (stand : Stand) → HasCut kind bytes 0 (empty_list file) t stand → IsCutInto record { kind = kind; file = file; taken = bytes } (cut_as t stand.flaw bytes)
cut_into kind file bytes t stand h = by stand.flaw h.cut
  where
    by : (flaw : Option (Flaw × ℕ)) → Cuts kind bytes 1000000 0 record { pieces = h.pieces; stop = flaw } → IsCutInto record { kind = kind; file = file; taken = bytes } (cut_as t flaw bytes)
    by None d = record { outcome = record { pieces = h.pieces; stop = None }; cut = d; same = ap (λ (l : TokenList). Ok l) h.items }
    by (Some s) d = record { outcome = record { pieces = h.pieces; stop = Some s }; cut = d; same = ap (λ (l : TokenList). Err (refusal_of l.file bytes s.0 s.1)) h.items }
