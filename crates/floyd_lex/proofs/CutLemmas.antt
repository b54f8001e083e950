-- The steps of a cut, behind the tokens that were cut so far.
use Rattle.std.proofs.Common.{◌≡◌, ℕ, ◌+◌, ◌-◌, ◌<◌, ◌≤◌, List, map, [], ◌∷◌, ◌++◌, length, take, drop, suc, Option, Some, None, ap, sym, subst, ◌∙◌, append_assoc, true, false, arith}
use Rattle.std.proofs.lemmas.List.{length-drop, append-nil, length-append, length-map, map-append}
use Rattle.floyd_lex.specs.declared.kinds.FileKind.{FileKind}
use Rattle.floyd_lex.specs.declared.kinds.TokenKind.{TokenKind}
use Rattle.floyd_lex.specs.declared.lead.Flaw.{Flaw}
use Rattle.floyd_lex.specs.declared.lead.Flaw.TheVariants.{BadByte, OpenComment, BadNumber, TooManyTokens, LongName}
use Rattle.floyd_lex.specs.declared.lead.Lead.{Lead}
use Rattle.floyd_lex.specs.declared.lead.Lead.TheVariants as lead
use Rattle.floyd_lex.specs.declared.spot.Spot.{Spot}
use Rattle.floyd_lex.specs.Front.{front}
use Rattle.floyd_lex.specs.Cuts.{Cuts, Outcome, stopped, with_first, is_long_name, ends, skips, takes, is_long, is_full, refuses}
use Rattle.floyd_lex.specs.CuttingClauses.{HasCut, EndsAt, behind_list, place_of_spot}
use Rattle.floyd_lex.specs.SpotClauses.{IsSpot}
use Rattle.floyd_lex.specs.Token.{Piece, Lexeme, TokenList, placed, with_last}
use Rattle.floyd_text.specs.declared.place.Place.{Place}
use Rattle.floyd_text.specs.Place.{place_at}
use Rattle.floyd_lex.proofs.GapLemmas.{open_here, rest_end}
use Rattle.floyd_lex.proofs.MoveLemmas.{Moves, Steps, steps_by, front_moves}
use Rattle.floyd_lex.proofs.SpotLemmas.{BeginWithin, place_is}

-- what was cut so far, and the outcome of the rest
abbrev pub after : List Piece → Outcome → Outcome
after out o = record { pieces = out ++ o.pieces; stop = o.stop }

-- whatever the rest is cut into, the whole is that behind the tokens so far
abbrev pub Rest : FileKind → List ℕ → ℕ → ℕ → ℕ → List Piece → Type 0
Rest kind bytes room from at out = (o : Outcome) → Cuts kind bytes (room - length out) at o → Cuts kind bytes room from (after out o)

after_first : (out : List Piece) (p : Piece) (o : Outcome) → after out (with_first p o) ≡ after (out ++ p ∷ []) o
after_first out p o = ap (λ (ps : List Piece). record { pieces = ps; stop = o.stop }) (sym (append_assoc out (p ∷ []) o.pieces))

pub nothing_cut : (kind : FileKind) (bytes : List ℕ) (room from : ℕ) → Rest kind bytes room from from []
nothing_cut kind bytes room from o d = let same : room - 0 ≡ room = omega arith in subst (λ (m : ℕ). Cuts kind bytes m from o) same d

module _ (kind : FileKind) (bytes : List ℕ) (room from at : ℕ) (out : List Piece) where
  pub skip : (n : ℕ) → Rest kind bytes room from at out → front kind (take at bytes) (drop at bytes) ≡ lead.Skip n → Rest kind bytes room from (at + n) out
  skip n now e o d = now o (skips e d)

  pub piece : (n : ℕ) (t : TokenKind) → length out < room → Rest kind bytes room from at out → front kind (take at bytes) (drop at bytes) ≡ lead.Piece t n → is_long_name t n ≡ false → Rest kind bytes room from (at + n) (out ++ record { kind = t; start = at; end = at + n } ∷ [])
  piece n t some now e short o d =
      let p : Piece = record { kind = t; start = at; end = at + n } in
      let len : room - length out ≡ suc (room - length (out ++ p ∷ [])) = omega (arith, some, length-append out (p ∷ [])) in
      subst (Cuts kind bytes room from) (after_first out p o) (now (with_first p o) (subst (λ (m : ℕ). Cuts kind bytes m at (with_first p o)) (sym len) (takes e short d)))

-- what stands at a place within the bytes lies within them
module _ (kind : FileKind) (bytes : List ℕ) where
  steps_at : (at : ℕ) (l : Lead) → front kind (take at bytes) (drop at bytes) ≡ l → Steps (length (drop at bytes)) l
  steps_at at l e = steps_by (subst (Moves (length (drop at bytes))) e (front_moves kind (take at bytes) (drop at bytes)))

  pub skip_within : (at n : ℕ) → front kind (take at bytes) (drop at bytes) ≡ lead.Skip n → at ≤ length bytes → (0 < n) × (at + n ≤ length bytes)
  skip_within at n e h = let s = steps_at at (lead.Skip n) e in (s.0, omega (arith, s.1, length-drop at bytes, h))

  pub piece_within : (at n : ℕ) (t : TokenKind) → front kind (take at bytes) (drop at bytes) ≡ lead.Piece t n → at ≤ length bytes → (0 < n) × (at + n ≤ length bytes)
  piece_within at n t e h = let s = steps_at at (lead.Piece t n) e in (s.0, omega (arith, s.1, length-drop at bytes, h))

  pub bad_within : (at n : ℕ) (flaw : Flaw) → front kind (take at bytes) (drop at bytes) ≡ lead.Bad flaw n → at ≤ length bytes → at + n ≤ length bytes
  bad_within at n flaw e h = omega (arith, steps_at at (lead.Bad flaw n) e, length-drop at bytes, h)

  pub begin_within : {left at : ℕ} {o : Outcome} → Cuts kind bytes left at o → at ≤ length bytes → BeginWithin bytes o.pieces
  begin_within (ends e) h = tt
  begin_within {left} {at} (skips {n = n} e d) h = begin_within d (skip_within at n e h).1
  begin_within {left} {at} (takes {n = n} {t = t} e short d) h = (h, begin_within d (piece_within at n t e h).1)
  begin_within (is_long e long) h = tt
  begin_within (is_full e) h = tt
  begin_within (refuses e) h = tt

-- Tokens behind those that there were.
pub behind_one : (old : TokenList) (ps : List Piece) (place : ℕ → Place) (p : Piece) → behind_list old (map (placed place) (ps ++ p ∷ [])) ≡ with_last (behind_list old (map (placed place) ps)) (placed place p)
behind_one old ps place p = ap (λ (xs : List Lexeme). record { file = old.file; items = xs }) (ap (λ (xs : List Lexeme). old.items ++ xs) (map-append (placed place) ps (p ∷ [])) ∙ sym (append_assoc old.items (map (placed place) ps) (placed place p ∷ [])))

-- what a cut ends as
module _ (kind : FileKind) (bytes : List ℕ) (old new : TokenList) (from : ℕ) (spot : Spot) where
  abbrev pub SoFar : TokenList → ℕ → Type 0
  SoFar now at = (pieces : List Piece) × (now ≡ behind_list old (map (placed (place_at old.file bytes)) pieces)) × Rest kind bytes (1000000 - length old.items) from at pieces

  count_of : (so : SoFar new spot.at) → length new.items ≡ length old.items + length so.0
  count_of so = ap (λ (l : TokenList). length l.items) so.1 ∙ length-append old.items (map (placed (place_at old.file bytes)) so.0) ∙ ap (λ (n : ℕ). length old.items + n) (length-map so.0 (placed (place_at old.file bytes)))

  -- less room where so many tokens were cut
  room_left : (so : SoFar new spot.at) → 1000000 - length old.items - length so.0 ≡ 1000000 - length new.items
  room_left so = omega (arith, count_of so)

  stops_at : (so : SoFar new spot.at) (flaw : Option (Flaw × ℕ)) → IsSpot bytes spot → Cuts kind bytes (1000000 - length new.items) spot.at record { pieces = []; stop = flaw } → EndsAt bytes spot flaw → HasCut kind bytes from old new record { spot = spot; flaw = flaw }
  stops_at so flaw s d over =
      let o : Outcome = record { pieces = []; stop = flaw } in
      let cut = so.2 o (subst (λ (m : ℕ). Cuts kind bytes m spot.at o) (sym (room_left so)) d) in
      record {
        pieces = so.0;
        items = so.1;
        cut = subst (λ (ps : List Piece). Cuts kind bytes (1000000 - length old.items) from record { pieces = ps; stop = flaw }) (append-nil so.0) cut;
        spot = s;
        ends = over;
      }

  pub at_end : SoFar new spot.at → IsSpot bytes spot → front kind (take spot.at bytes) (drop spot.at bytes) ≡ lead.End → HasCut kind bytes from old new record { spot = spot; flaw = None }
  at_end so s e =
      let over : length bytes - spot.at ≡ 0 = sym (length-drop spot.at bytes) ∙ ap length (rest_end kind (take spot.at bytes) (drop spot.at bytes) e) in
      stops_at so None s (ends e) (omega (arith, over, s.within))

  pub at_limit : SoFar new spot.at → IsSpot bytes spot → (t : TokenKind) (n : ℕ) → front kind (take spot.at bytes) (drop spot.at bytes) ≡ lead.Piece t n → length new.items ≡ 1000000 → HasCut kind bytes from old new record { spot = spot; flaw = Some (TooManyTokens, spot.at + 0) }
  at_limit so s t n e full =
      let none : 0 ≡ 1000000 - length new.items = omega (arith, full) in
      let same : spot.at ≡ spot.at + 0 = omega arith in
      subst (λ (m : ℕ). HasCut kind bytes from old new record { spot = spot; flaw = Some (TooManyTokens, m) }) same (stops_at so (Some (TooManyTokens, spot.at)) s (subst (λ (m : ℕ). Cuts kind bytes m spot.at (stopped TooManyTokens spot.at)) none (is_full e)) s.within)

  pub at_long : SoFar new spot.at → IsSpot bytes spot → (t : TokenKind) (n : ℕ) → front kind (take spot.at bytes) (drop spot.at bytes) ≡ lead.Piece t n → length new.items < 1000000 → is_long_name t n ≡ true → HasCut kind bytes from old new record { spot = spot; flaw = Some (LongName, spot.at + 0) }
  at_long so s t n e some long =
      let left : suc (1000000 - length new.items - 1) ≡ 1000000 - length new.items = omega (arith, some) in
      let same : spot.at ≡ spot.at + 0 = omega arith in
      subst (λ (m : ℕ). HasCut kind bytes from old new record { spot = spot; flaw = Some (LongName, m) }) same (stops_at so (Some (LongName, spot.at)) s (subst (λ (m : ℕ). Cuts kind bytes m spot.at (stopped LongName spot.at)) left (is_long e long)) s.within)

  ends_at_flaw : (flaw : Flaw) (n : ℕ) → front kind (take spot.at bytes) (drop spot.at bytes) ≡ lead.Bad flaw n → spot.at + n ≤ length bytes → EndsAt bytes spot (Some (flaw, spot.at + n))
  ends_at_flaw OpenComment n e within = omega (arith, open_here kind (take spot.at bytes) (drop spot.at bytes) n e)
  ends_at_flaw BadByte n e within = within
  ends_at_flaw BadNumber n e within = within
  ends_at_flaw TooManyTokens n e within = within
  ends_at_flaw LongName n e within = within

  pub at_flaw : SoFar new spot.at → IsSpot bytes spot → (flaw : Flaw) (n : ℕ) → front kind (take spot.at bytes) (drop spot.at bytes) ≡ lead.Bad flaw n → HasCut kind bytes from old new record { spot = spot; flaw = Some (flaw, spot.at + n) }
  at_flaw so s flaw n e = stops_at so (Some (flaw, spot.at + n)) s (refuses e) (ends_at_flaw flaw n e (bad_within kind bytes spot.at n flaw e s.within))

  pub skip_more : SoFar new spot.at → (n to : ℕ) → to ≡ spot.at + n → front kind (take spot.at bytes) (drop spot.at bytes) ≡ lead.Skip n → SoFar new to
  skip_more so n to same e = (so.0, so.1, subst (λ (m : ℕ). Rest kind bytes (1000000 - length old.items) from m so.0) (sym same) (skip kind bytes (1000000 - length old.items) from spot.at so.0 n so.2 e))

  pub piece_more : SoFar new spot.at → IsSpot bytes spot → (t : TokenKind) (n to : ℕ) (now : TokenList) → to ≡ spot.at + n → length new.items < 1000000 → front kind (take spot.at bytes) (drop spot.at bytes) ≡ lead.Piece t n → is_long_name t n ≡ false → now ≡ with_last new record { kind = t; start = spot.at; end = spot.at + n; place = place_of_spot new.file spot } → SoFar now to
  piece_more so s t n to now same some e short put =
      let p : Piece = record { kind = t; start = spot.at; end = spot.at + n } in
      let file : new.file ≡ old.file = ap (λ (l : TokenList). l.file) so.1 in
      let place = ap (λ (f : ℕ). place_of_spot f spot) file ∙ place_is bytes spot s old.file in
      let room : length so.0 < 1000000 - length old.items = omega (arith, count_of so, some) in (
        so.0 ++ p ∷ [],
        put ∙ ap (λ q. with_last new record { kind = t; start = spot.at; end = spot.at + n; place = q }) place ∙ ap (λ (l : TokenList). with_last l (placed (place_at old.file bytes) p)) so.1 ∙ sym (behind_one old so.0 (place_at old.file bytes) p),
        subst (λ (m : ℕ). Rest kind bytes (1000000 - length old.items) from m (so.0 ++ p ∷ [])) (sym same) (piece kind bytes (1000000 - length old.items) from spot.at so.0 n t room so.2 e short),
      )
