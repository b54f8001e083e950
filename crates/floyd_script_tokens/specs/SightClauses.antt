-- Tokens of a script as the code sees them.
use Rattle.std.specs.Prelude.{◌≡◌, ℕ, Bool, true, not, List, [], ◌∷◌, Result}
use Rattle.std.specs.Prelude as base
use Rattle.floyd_grammar.specs.ParseClauses.{Parser, taken}
use Rattle.floyd_script_tokens.specs.Heads.{ends_phrase}
use Rattle.floyd_script_tokens.specs.Sights.{Sight}
use Rattle.floyd_script_tokens.specs.declared.heads.Opening.{Opening}
use Rattle.floyd_script_tokens.specs.declared.heads.Opening.TheVariants.{Plain}

-- what the next token is read as
abbrev pub take_as : {A : Type 0} → Result A ℕ → Parser Sight A
take_as found [] = base.Err record { left = 0; cause = 0 }
take_as found (s ∷ ss) = taken ss found

-- a phrase goes on with it
abbrev pub goes_on : Bool → Sight → Bool
goes_on inside s = not (ends_phrase inside s)

-- a bracket opens only where one more may be open
abbrev pub HasRoom : Bool → Opening → Type 0
HasRoom room Plain = Unit {0}
HasRoom room bracket = room ≡ true
