-- Places on the way through a file.
use Rattle.std.specs.Prelude.{◌≡◌, ◌+◌, ◌≤◌, List, ℕ, length, take, count_by}
use Rattle.std.specs.List.{suffix_len}
use Rattle.floyd_text.specs.Place.{is_feed, is_other}
use Rattle.floyd_lex.specs.declared.spot.Spot.{Spot}

-- the line feeds before the offset are counted, and its line begins behind the last of them
pub record IsSpot (bytes : List ℕ) (spot : Spot) : Type 0 where
  pub within : spot.at ≤ length bytes
  pub feeds : spot.feeds ≡ count_by is_feed (take spot.at bytes)
  pub begin : spot.begin + suffix_len is_other (take spot.at bytes) ≡ spot.at
