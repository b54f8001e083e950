use Rattle.std.proofs.Common.{◌≡◌, ◌-◌, ◌≤◌, List, length, map}
use Rattle.floyd_text.specs.Place.{place_at}
use Rattle.floyd_lex.specs.CuttingClauses.{behind_list}
use Rattle.floyd_lex.specs.SpotClauses.{IsSpot}
use Rattle.floyd_lex.specs.Token.{Piece, placed}
use Rattle.floyd_lex.proofs.CutLemmas.{Rest}
use Rattle.floyd_lex.proofs.cutting.cut_rest.Given as goal

-- so many tokens were cut, and whatever the rest is cut into, the whole is that behind them
abbrev pub invariant-each : goal.invariant-each
invariant-each l = record {
  spot : IsSpot l.bytes l.spot;
  count : length l.tokens.items ≤ 1000000;
  so_far : (pieces : List Piece) × (l.tokens ≡ behind_list l.fn.tokens (map (placed (place_at l.fn.tokens.file l.bytes)) pieces)) × Rest l.kind l.bytes (1000000 - length l.fn.tokens.items) l.fn.from.at l.spot.at pieces;
}

abbrev pub decreases-each : goal.decreases-each
decreases-each l = length l.bytes - l.spot.at
