-- Character constants and string literals of C.
use Rattle.std.specs.Prelude.{ℕ, ◌+◌, Bool, false, not, ◌&&◌, ◌||◌, ◌==◌, if◌then◌else◌, List, [], ◌∷◌, drop, slice_index, Option, Some, None, option_map}
use Rattle.std.specs.Int.{is_in_range}
use Rattle.floyd_lex.specs.declared.kinds.LiteralType.TheVariants.{Int}
use Rattle.floyd_lex.specs.declared.kinds.TokenKind.TheVariants as k
use Rattle.floyd_lex.specs.declared.lead.Flaw.TheVariants.{BadByte, BadNumber}
use Rattle.floyd_lex.specs.declared.lead.Lead.{Lead}
use Rattle.floyd_lex.specs.declared.lead.Lead.TheVariants.{Piece, Bad}
use Rattle.floyd_lex.specs.Classes.{is_word}

-- the character that a letter means behind a `\`
abbrev pub escape_of : ℕ → Option ℕ
escape_of b =
    if b == 110 then Some 10
    else if b == 116 then Some 9
    else if b == 114 then Some 13
    else if b == 48 then Some 0
    else if b == 92 then Some 92
    else if b == 39 then Some 39
    else if b == 34 then Some 34
    else None

-- a printable character of ASCII that is neither `'` nor `\`
abbrev pub is_plain : ℕ → Bool
is_plain b = is_in_range 32 126 b && not (b == 39) && not (b == 92)

-- the character between two `'`, with the length of all
abbrev pub constant_of : List ℕ → Option (ℕ × ℕ)
constant_of bytes =
    if is_plain (slice_index bytes 1) && slice_index bytes 2 == 39 then Some (slice_index bytes 1, 3)
    else if slice_index bytes 1 == 92 && slice_index bytes 3 == 39 then option_map (λ c. (c, 4)) (escape_of (slice_index bytes 2))
    else None

-- a literal goes on where a letter, a digit, `_` or `.` follows
abbrev pub goes_on : List ℕ → Bool
goes_on [] = false
goes_on (b ∷ bytes) = is_word b || b == 46

abbrev pub constant_or_bad : Option (ℕ × ℕ) → List ℕ → Lead
constant_or_bad (Some c) bytes = if goes_on (drop c.1 bytes) then Bad BadNumber 0 else Piece (k.Literal Int c.0) c.1
constant_or_bad None bytes = Bad BadByte 0

-- a character constant
unfoldable pub constant : List ℕ → Lead
constant bytes = constant_or_bad (constant_of bytes) bytes

-- how many bytes there are up to the first `"` that does not follow a `\`, with it, where it stands on this line and the
-- byte before is given
abbrev pub string_len : ℕ → List ℕ → Option ℕ
string_len before [] = None
string_len before (b ∷ bytes) =
    if b == 10 then None
    else if b == 34 && not (before == 92) then Some 1
    else option_map (λ n. n + 1) (string_len b bytes)

abbrev pub string_or_bad : Option ℕ → Lead
string_or_bad (Some n) = Piece k.StringLiteral (n + 1)
string_or_bad None = Bad BadByte 0

-- a string literal, from its `"` on
unfoldable pub string : List ℕ → Lead
string bytes = string_or_bad (string_len 34 (drop 1 bytes))
