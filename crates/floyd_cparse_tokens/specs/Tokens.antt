-- Tokens of C as its grammar sees them, and for what cause one is refused.
--
-- How the grammar of C, in Expressions, Types, Statements and Units, is written:
--
-- A production is a phrase over tokens that are seen with those behind them, so that a choice which wants one or two
-- tokens more (a cast, a parameter list, the size of an array, a label) is still a matter of one token.
--
-- Names of types in scope are an argument of each production. Only a typedef at the top of a file adds to them, by its
-- value: the list of the file's declarations and the list of a typedef's declarators carry them on.
--
-- Depth is two numbers. `room` is 200 less the brackets and the words `if`, `else`, `while`, `do`, `for`, `switch` and `?`
-- that a token stands inside. It is an argument, goes down by one with each of them, and what stands inside so many that
-- nothing is left reads nothing: this is what the recursion of the grammar goes down by. `count` is what else counts
-- before a token. It is an argument of a production, and its value tells the number behind it: the binary and postfix
-- operators so far in the full expression or declarator, which do not go away when a bracket closes. The prefix
-- operators or stars directly before a token are added to it for that token alone. A token is too deep where `count`,
-- and one for an opening bracket, is more than `room`; then it is taken nowhere.
--
-- A refused token has the greatest of the causes for which it is refused by what might stand there. What may stand
-- somewhere blames only what it would take but for its depth (`offered`); what must stand there, or follow, blames every
-- other token (`wanted`, `closing`): it is too deep, left out of the profile, a shadowed name of a type, or not expected.
use Rattle.std.specs.Prelude.{ℕ, ◌+◌, ◌^◌, nat_lt, Bool, true, false, not, ◌&&◌, ◌||◌, if◌then◌else◌, Option, Some, None, Result, Ok, Err, List, [], ◌∷◌, ◌++◌, bytes_eq}
use Rattle.std.specs.List.{list_any}
use Rattle.floyd_int.specs.declared.kinds.IntKind.TheVariants.{I32, U32, I64, U64}
use Rattle.floyd_int.specs.declared.kinds.IntKind.{IntKind}
use Rattle.floyd_text.specs.declared.place.Place.{Place}
use Rattle.floyd_lex.specs.declared.kinds.TokenKind.{TokenKind}
use Rattle.floyd_lex.specs.declared.kinds.TokenKind.TheVariants as k
use Rattle.floyd_lex.specs.declared.kinds.LiteralType.{LiteralType}
use Rattle.floyd_lex.specs.declared.kinds.LiteralType.TheVariants as l
use Rattle.floyd_lex.specs.declared.kinds.Punctuator.{Punctuator}
use Rattle.floyd_lex.specs.declared.kinds.Punctuator.TheVariants as p
use Rattle.floyd_lex.specs.declared.kinds.Keyword.{Keyword}
use Rattle.floyd_lex.specs.declared.kinds.Keyword.TheVariants as w
use Rattle.floyd_lex.specs.contracts.kinds.Punctuator.{the_type as marks}
use Rattle.floyd_lex.specs.contracts.kinds.Keyword.{the_type as words}
use Rattle.floyd_lex.specs.Token.{Token}
use Rattle.floyd_cparse_trees.specs.declared.types.Identifier.{Identifier}
use Rattle.floyd_cparse_trees.specs.declared.types.Literal.{Literal}
use denote.Enum.Bare.{sameb}

abbrev pub is_there : {A : Type 0} → Option A → Bool
is_there None = false
is_there (Some x) = true

-- a token with those behind it, which is what a production looks at
pub record Sight : Type 0 where
  pub token : Token
  pub behind : List Token

abbrev pub sights : List Token → List Sight
sights [] = []
sights (t ∷ ts) = record { token = t; behind = ts } ∷ sights ts

-- the names of types in scope
abbrev pub Types : Type 0
Types = List (List ℕ)

-- a mark, a word, a name
abbrev pub is_mark_kind : Punctuator → TokenKind → Bool
is_mark_kind mark (k.Punctuator other) = sameb marks other mark
is_mark_kind mark kind = false

abbrev pub is_word_kind : Keyword → TokenKind → Bool
is_word_kind word (k.Keyword other) = sameb words other word
is_word_kind word kind = false

abbrev pub is_name_kind : TokenKind → Bool
is_name_kind k.Name = true
is_name_kind kind = false

abbrev pub is_mark : Punctuator → Sight → Bool
is_mark mark s = is_mark_kind mark s.token.kind

abbrev pub is_word : Keyword → Sight → Bool
is_word word s = is_word_kind word s.token.kind

abbrev pub is_name : Sight → Bool
is_name s = is_name_kind s.token.kind

abbrev pub identifier_of : Sight → Identifier
identifier_of s = record { name = s.token.text; place = s.token.place }

-- a name that is a type's, or is not
abbrev pub is_type_text : Types → List ℕ → Bool
is_type_text types text = list_any (λ name. bytes_eq text name) types

abbrev pub is_type_token : Types → Token → Bool
is_type_token types t = is_name_kind t.kind && is_type_text types t.text

abbrev pub is_type : Types → Sight → Bool
is_type types s = is_type_token types s.token

abbrev pub is_plain : Types → Sight → Bool
is_plain types s = is_name s && not (is_type types s)

-- an integer or character constant, of 64 bits at most
abbrev pub literal_kind : LiteralType → Option IntKind
literal_kind l.Int = Some I32
literal_kind l.UnsignedInt = Some U32
literal_kind l.Long = Some I64
literal_kind l.UnsignedLong = Some U64
literal_kind l.Untyped = None

abbrev pub literal_at : Place → ℕ → Option IntKind → Option Literal
literal_at place value None = None
literal_at place value (Some kind) = if nat_lt value (2 ^ 64) then Some record { kind = kind; value = value; place = place } else None

abbrev pub literal_of_kind : Place → TokenKind → Option Literal
literal_of_kind place (k.Literal type value) = literal_at place value (literal_kind type)
literal_of_kind place kind = None

abbrev pub literal_of : Sight → Option Literal
literal_of s = literal_of_kind s.token.place s.token.kind

abbrev pub is_literal_token : Token → Bool
is_literal_token t = is_there (literal_of_kind t.place t.kind)

-- what stands next behind a token
abbrev pub next_is : Punctuator → List Token → Bool
next_is mark [] = false
next_is mark (t ∷ ts) = is_mark_kind mark t.kind

-- the words of integer types
abbrev pub is_integer_word : TokenKind → Bool
is_integer_word (k.Keyword w.Char) = true
is_integer_word (k.Keyword w.Short) = true
is_integer_word (k.Keyword w.Int) = true
is_integer_word (k.Keyword w.Long) = true
is_integer_word (k.Keyword w.Signed) = true
is_integer_word (k.Keyword w.Unsigned) = true
is_integer_word kind = false

-- a token with which a base or a type begins
abbrev pub begins_base : Types → Token → Bool
begins_base types t = is_word_kind w.Void t.kind || is_integer_word t.kind || is_word_kind w.Struct t.kind || is_type_token types t

abbrev pub begins_type : Types → Token → Bool
begins_type types t = is_word_kind w.Const t.kind || begins_base types t

-- "(" and the beginning of a type stand next
abbrev pub opens_type : Types → List Token → Bool
opens_type types [] = false
opens_type types (t ∷ []) = false
opens_type types (t ∷ u ∷ ts) = is_mark_kind p.OpenParen t.kind && begins_type types u

-- what the profile leaves out wherever it stands: the words of what is left out, texts in quotes, "..." ..
abbrev pub is_left_out_kind : TokenKind → Bool
is_left_out_kind (k.Keyword w.Float) = true
is_left_out_kind (k.Keyword w.Double) = true
is_left_out_kind (k.Keyword w.Union) = true
is_left_out_kind (k.Keyword w.Enum) = true
is_left_out_kind (k.Keyword w.Static) = true
is_left_out_kind (k.Keyword w.Volatile) = true
is_left_out_kind (k.Keyword w.Register) = true
is_left_out_kind (k.Keyword w.Inline) = true
is_left_out_kind (k.Keyword w.Restrict) = true
is_left_out_kind (k.Keyword w.Goto) = true
is_left_out_kind (k.Keyword w.Asm) = true
is_left_out_kind (k.Keyword w.Bool) = true
is_left_out_kind (k.Punctuator p.Ellipsis) = true
is_left_out_kind k.StringLiteral = true
is_left_out_kind kind = false

-- .. and a `sizeof` that no type name in parentheses follows
abbrev pub is_left_out : Types → Sight → Bool
is_left_out types s = is_left_out_kind s.token.kind || (is_word w.Sizeof s && not (opens_type types s.behind))

-- The causes. Of two at one token the greater goes first.
abbrev pub unexpected : ℕ
unexpected = 0

-- a name of a type that is declared as something else
abbrev pub shadowed : ℕ
shadowed = 1

abbrev pub left_out : ℕ
left_out = 2

abbrev pub too_deep : ℕ
too_deep = 3

-- Depth. `room` is 200 less the brackets and the words (`if`, `else`, `while`, `do`, `for`, `switch`, `?`) that a
-- token stands inside, and `count` what else counts before it: operators of its full expression or declarator, and those directly
-- before it. An opening bracket counts itself, and a closing one does not count its own pair.
abbrev pub is_opening : Sight → Bool
is_opening s = is_mark p.OpenParen s || is_mark p.OpenBracket s || is_mark p.OpenBrace s

abbrev pub is_closing : Sight → Bool
is_closing s = is_mark p.CloseParen s || is_mark p.CloseBracket s || is_mark p.CloseBrace s

abbrev pub number : Bool → ℕ
number true = 1
number false = 0

abbrev pub is_deep : ℕ → ℕ → Sight → Bool
is_deep room count s = nat_lt (room + number (is_closing s)) (count + number (is_opening s))

-- for what a token is refused where no room at all is left
abbrev pub without_room : ℕ → Sight → ℕ
without_room count s = if nat_lt count (number (is_closing s)) then unexpected else too_deep

-- for what a token is refused that is not wanted, where `special` is the cause if it is neither too deep nor left out
-- wherever it stands
abbrev pub blame : Types → ℕ → ℕ → ℕ → Sight → ℕ
blame types room count special s = if is_deep room count s then too_deep else if is_left_out types s then left_out else special

-- what may stand here is taken unless it is too deep, and nothing else is blamed
abbrev pub offer : {A : Type 0} → ℕ → ℕ → Sight → Option A → Result A ℕ
offer room count s None = Err unexpected
offer room count s (Some x) = if is_deep room count s then Err too_deep else Ok x

-- what must stand here is taken unless it is too deep, and everything else is blamed
abbrev pub demand : {A : Type 0} → Types → ℕ → ℕ → ℕ → Sight → Option A → Result A ℕ
demand types room count special s None = Err (blame types room count special s)
demand types room count special s (Some x) = if is_deep room count s then Err too_deep else Ok x

-- the same of what closes, or ends what stands before, and is never too deep
abbrev pub found_or : {A : Type 0} → ℕ → Option A → Result A ℕ
found_or cause None = Err cause
found_or cause (Some x) = Ok x

-- the place of a token of which the test holds
abbrev pub place_if : Bool → Sight → Option Place
place_if true s = Some s.token.place
place_if false s = None

-- with one name more
abbrev pub with_name : Option (List ℕ) → Types → Types
with_name None types = types
with_name (Some name) types = if is_type_text types name then types else types ++ name ∷ []
