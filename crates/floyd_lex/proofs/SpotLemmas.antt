-- Lines and columns on the way through a file.
use Rattle.std.proofs.Common.{◌≡◌, ℕ, ◌+◌, ◌-◌, ◌∙◌, ◌<◌, ◌≤◌, true, false, min, List, [], ◌∷◌, ◌++◌, length, map, take, get_or, count_by, refl, ap, sym, subst, arith}
use Rattle.std.specs.List.{suffix_len}
use Rattle.std.proofs.lemmas.List.{take-append-le, length-append}
use Rattle.std.proofs.lemmas.List.Sums.{suffix_len-take_yes, suffix_len-take_no, count_by_more_yes, count_by_more_no}
use Rattle.floyd_text.specs.Place.{is_feed, is_other, place_at}
use Rattle.floyd_lex.specs.declared.spot.Spot.{Spot}
use Rattle.floyd_lex.specs.SpotClauses.{IsSpot}
use Rattle.floyd_lex.specs.CuttingClauses.{place_of_spot}
use Rattle.floyd_lex.specs.Token.{Piece, placed}

pub first_spot : (bytes : List ℕ) → IsSpot bytes (record { at = 0; feeds = 0; begin = 0 })
first_spot bytes = record { within = omega arith; feeds = refl; begin = refl }

module _ (bytes : List ℕ) (spot : Spot) (s : IsSpot bytes spot) where
  less : spot.at + 1 - 1 ≡ spot.at
  less = omega arith

  -- a line feed
  pub step_feed : spot.at + 1 ≤ length bytes → get_or bytes spot.at 0 ≡ 10 → IsSpot bytes (record { at = spot.at + 1; feeds = spot.feeds + 1; begin = spot.at + 1 })
  step_feed within e =
      let yes : is_feed (get_or bytes spot.at 0) ≡ true = rw e refl in
      let no : is_other (get_or bytes (spot.at + 1 - 1) 0) ≡ false = rw (less, e) refl in
      let short : spot.at < length bytes = omega (arith, within) in
      record {
        within = within;
        feeds = omega (arith, s.feeds, count_by_more_yes is_feed bytes spot.at 0 short yes);
        begin = omega (arith, suffix_len-take_no is_other bytes (spot.at + 1) 0 (omega arith) within no);
      }

  -- another byte
  pub step_other : spot.at + 1 ≤ length bytes → is_feed (get_or bytes spot.at 0) ≡ false → IsSpot bytes (record { at = spot.at + 1; feeds = spot.feeds; begin = spot.begin })
  step_other within e =
      let yes : is_other (get_or bytes (spot.at + 1 - 1) 0) ≡ true = rw (less, e) refl in
      let short : spot.at < length bytes = omega (arith, within) in
      record {
        within = within;
        feeds = omega (arith, s.feeds, count_by_more_no is_feed bytes spot.at 0 short e);
        begin = omega (arith, s.begin, suffix_len-take_yes is_other bytes (spot.at + 1) 0 (omega arith) within yes, ap (λ (n : ℕ). suffix_len is_other (take n bytes)) less);
      }

  pub begins_before : spot.begin ≤ spot.at
  begins_before = omega (arith, s.begin)

  -- it is the place of the byte there
  pub place_is : (file : ℕ) → place_of_spot file spot ≡ place_at file bytes spot.at
  place_is file =
      let column : spot.at - spot.begin ≡ suffix_len is_other (take spot.at bytes) = omega (arith, s.begin) in
      ap (λ (n : ℕ). record { file = file; line = min (n + 1) 4294967295; column = min (spot.at - spot.begin + 1) 4294967295 }) s.feeds
      ∙ ap (λ (n : ℕ). record { file = file; line = min (count_by is_feed (take spot.at bytes) + 1) 4294967295; column = min (n + 1) 4294967295 }) column

  -- where more comes behind the bytes
  pub spot_stays : (more : List ℕ) → IsSpot (bytes ++ more) spot
  spot_stays more =
      let same : take spot.at (bytes ++ more) ≡ take spot.at bytes = take-append-le spot.at bytes more s.within in
      record {
        within = omega (arith, s.within, length-append bytes more);
        feeds = s.feeds ∙ ap (count_by is_feed) (sym same);
        begin = subst (λ (xs : List ℕ). spot.begin + suffix_len is_other xs ≡ spot.at) (sym same) s.begin;
      }

-- tokens that begin within the bytes
abbrev pub BeginWithin : List ℕ → List Piece → Type 0
BeginWithin bytes [] = Unit {0}
BeginWithin bytes (p ∷ ps) = (p.start ≤ length bytes) × BeginWithin bytes ps

-- .. have the same places where more comes behind
pub places_stay : (file : ℕ) (bytes more : List ℕ) (ps : List Piece) → BeginWithin bytes ps → map (placed (place_at file (bytes ++ more))) ps ≡ map (placed (place_at file bytes)) ps
places_stay file bytes more [] w = refl
places_stay file bytes more (p ∷ ps) w = rw (take-append-le p.start bytes more w.0, places_stay file bytes more ps w.1) refl
