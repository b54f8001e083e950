-- What the tokens behind others are, and where a cut ended.
use Rattle.std.specs.Prelude.{◌≡◌, ℕ, ◌+◌, ◌-◌, ◌≤◌, List, ◌++◌, length, map, min, Option, Some, None}
use Rattle.floyd_text.specs.declared.place.Place.{Place}
use Rattle.floyd_text.specs.Place.{place_at}
use Rattle.floyd_lex.specs.declared.cutting.Stand.{Stand}
use Rattle.floyd_lex.specs.declared.kinds.FileKind.{FileKind}
use Rattle.floyd_lex.specs.declared.lead.Flaw.{Flaw}
use Rattle.floyd_lex.specs.declared.lead.Flaw.TheVariants.{OpenComment}
use Rattle.floyd_lex.specs.declared.spot.Spot.{Spot}
use Rattle.floyd_lex.specs.Cuts.{Cuts, token_limit}
use Rattle.floyd_lex.specs.SpotClauses.{IsSpot}
use Rattle.floyd_lex.specs.Token.{Piece, Lexeme, TokenList, placed}

abbrev pub place_of_spot : ℕ → Spot → Place
place_of_spot file spot = record { file = file; line = min (spot.feeds + 1) 4294967295; column = min (spot.at - spot.begin + 1) 4294967295 }

-- these behind the tokens that there are
abbrev pub behind_list : TokenList → List Lexeme → TokenList
behind_list list more = record { file = list.file; items = list.items ++ more }

abbrev pub HasMore : TokenList → TokenList → Type 0
HasMore old new = (more : List Lexeme) × (new ≡ behind_list old more)

-- a cut ended at the end of the bytes, or it goes on where a comment stays open
abbrev pub EndsAt : List ℕ → Spot → Option (Flaw × ℕ) → Type 0
EndsAt bytes spot None = spot.at ≡ length bytes
EndsAt bytes spot (Some (OpenComment, at)) = spot.at ≡ at
EndsAt bytes spot (Some (flaw, at)) = at ≤ length bytes

-- The bytes are cut from `at` on, behind the tokens that there were.
pub record HasCut (kind : FileKind) (bytes : List ℕ) (at : ℕ) (old new : TokenList) (stand : Stand) : Type 0 where
  pub pieces : List Piece
  pub items : new ≡ behind_list old (map (placed (place_at old.file bytes)) pieces)
  pub cut : Cuts kind bytes (token_limit - length old.items) at record { pieces = pieces; stop = stand.flaw }
  pub spot : IsSpot bytes stand.spot
  pub ends : EndsAt bytes stand.spot stand.flaw
