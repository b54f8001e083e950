-- What one token of a command's arguments names: a number, a part, a hypothesis, or a name.
use Rattle.std.specs.Prelude.{ℕ, ◌+◌, ◌-◌, ◌*◌, ◌^◌, min, nat_lt, Bool, true, false, ◌&&◌, if◌then◌else◌, List, [], ◌∷◌, drop, codes, bytes_eq, Option, Some, None, is_some, option_map, ℤ, pos, neg_ℤ}
use Rattle.floyd_lex.specs.declared.kinds.TokenKind.{TokenKind}
use Rattle.floyd_lex.specs.declared.kinds.TokenKind.TheVariants as k
use Rattle.floyd_lex.specs.Token.{Token}
use Rattle.floyd_termread_tokens.specs.Tokens.{is_name}
use Rattle.floyd_termread_tokens.specs.Words.{is_free, is_hypothesis}

-- the greatest number, which no part and no hypothesis has
abbrev pub last : ℕ
last = 4294967295

-- a greater number stands for it too
abbrev pub capped : ℕ → ℕ
capped n = min n last

abbrev pub literal_kind : TokenKind → Option ℕ
literal_kind (k.Literal of value) = Some value
literal_kind kind = None

-- the number that a token writes
abbrev pub literal : Token → Option ℕ
literal t = literal_kind t.kind

-- the number of a part
abbrev pub part_number : Token → Option ℕ
part_number t = option_map capped (literal t)

-- the number that digits write behind those of another
abbrev pub digits_behind : ℕ → List ℕ → ℕ
digits_behind n [] = n
digits_behind n (b ∷ bs) = digits_behind (n * 10 + (b - 48)) bs

-- the number of a hypothesis: its name is `H` and the digits
abbrev pub number_in_name : List ℕ → ℕ
number_in_name name = capped (digits_behind 0 (drop 1 name))

abbrev pub hypothesis_number : Token → Option ℕ
hypothesis_number t = if is_name t && is_hypothesis t.text then Some (number_in_name t.text) else None

-- what has a weight: a hypothesis, or `N`, the negated goal, which is 0
abbrev pub is_negated : Token → Bool
is_negated t = is_name t && bytes_eq t.text (codes "N")

abbrev pub weighed_number : Token → Option ℕ
weighed_number t = if is_negated t then Some 0 else hypothesis_number t

-- the number of a weight; no token writes a greater one
abbrev pub small : ℕ → Option ℕ
small n = if nat_lt n (2 ^ 126) then Some n else None

abbrev pub small_if : Option ℕ → Option ℕ
small_if None = None
small_if (Some n) = small n

abbrev pub weight_number : Token → Option ℕ
weight_number t = small_if (literal t)

abbrev pub signed : Bool → ℕ → ℤ
signed true n = neg_ℤ (pos n)
signed false n = pos n

-- a name, and a name that a variable may have
abbrev pub name_of : Token → Option (List ℕ)
name_of t = if is_name t then Some t.text else None

abbrev pub variable_of : Token → Option (List ℕ)
variable_of t = if is_name t && is_free t.text then Some t.text else None

-- whether the token is so
abbrev pub is_literal : Token → Bool
is_literal t = is_some (literal t)

abbrev pub names_hypothesis : Token → Bool
names_hypothesis t = is_some (hypothesis_number t)

abbrev pub is_variable : Token → Bool
is_variable t = is_some (variable_of t)
