-- Literals: their digits, suffixes, values and types.
use Rattle.std.specs.Prelude.{ℕ, ◌+◌, ◌-◌, ◌*◌, ◌^◌, Bool, true, false, not, ◌&&◌, ◌||◌, ◌==◌, nat_lt, nat_le, if◌then◌else◌, List, [], ◌∷◌, length, take, drop, fold, find, slice_index, Option, Some, None, option_and_then, option_map}
use Rattle.std.specs.Char.{digit_value, is_ascii_hexdigit}
use Rattle.floyd_lex.specs.declared.kinds.LiteralType.{LiteralType}
use Rattle.floyd_lex.specs.declared.kinds.LiteralType.TheVariants.{Int, UnsignedInt, Long, UnsignedLong, Untyped}
use Rattle.floyd_lex.specs.declared.kinds.TokenKind.TheVariants as k
use Rattle.floyd_lex.specs.declared.classes.Class.{Class}
use Rattle.floyd_lex.specs.declared.classes.Class.TheVariants as class
use Rattle.floyd_lex.specs.declared.lead.Flaw.TheVariants.{BadNumber}
use Rattle.floyd_lex.specs.declared.lead.Lead.{Lead}
use Rattle.floyd_lex.specs.declared.lead.Lead.TheVariants.{Piece, Bad}
use Rattle.floyd_lex.specs.declared.numbers.Base.{Base}
use Rattle.floyd_lex.specs.declared.numbers.Base.TheVariants.{Decimal, Octal, Hexadecimal}
use Rattle.floyd_lex.specs.declared.numbers.Suffix.{Suffix}
use Rattle.floyd_lex.specs.Classes.{run, begins}

abbrev pub radix : Base → ℕ
radix Decimal = 10
radix Octal = 8
radix Hexadecimal = 16

-- the digits of a base
abbrev pub digits_of : Base → Class
digits_of Decimal = class.Decimal
digits_of Octal = class.Octal
digits_of Hexadecimal = class.Hexadecimal

-- the number that digits write
abbrev pub number_in : ℕ → List ℕ → ℕ
number_in base digits = fold (λ n d. n * base + digit_value d) 0 digits

-- `0x` before a hexadecimal digit is hexadecimal, any other leading 0 octal
unfoldable pub base_of : List ℕ → Base
base_of word =
    if (begins "0x" word || begins "0X" word) && is_ascii_hexdigit (slice_index word 2) then Hexadecimal
    else if begins "0" word then Octal
    else Decimal

-- how many bytes stand before the digits
abbrev pub prefix_of : Base → ℕ
prefix_of Hexadecimal = 2
prefix_of _ = 0

-- how many bytes of `u` stand at the front, and of `l` or `ll`, whose letters have one case
abbrev pub u_len : List ℕ → ℕ
u_len bytes = if begins "u" bytes || begins "U" bytes then 1 else 0

abbrev pub l_len : List ℕ → ℕ
l_len bytes = if begins "ll" bytes || begins "LL" bytes then 2 else if begins "l" bytes || begins "L" bytes then 1 else 0

-- [u] [l] and nothing else, or [l] [u]
unfoldable pub suffix_of : List ℕ → Option Suffix
suffix_of bytes =
    let u = u_len bytes in
    let l = l_len bytes in
    if u + l_len (drop u bytes) == length bytes then Some (record { unsigned = nat_lt 0 u; long = nat_lt 0 (l_len (drop u bytes)) })
    else if l + u_len (drop l bytes) == length bytes then Some (record { unsigned = nat_lt 0 (u_len (drop l bytes)); long = nat_lt 0 l })
    else None

-- the types of a literal without `l`, in their order
abbrev pub types_of : Base → Bool → List LiteralType
types_of base true = UnsignedInt ∷ UnsignedLong ∷ []
types_of Decimal false = Int ∷ Long ∷ []
types_of base false = Int ∷ UnsignedInt ∷ Long ∷ UnsignedLong ∷ []

abbrev pub is_long_type : LiteralType → Bool
is_long_type Long = true
is_long_type UnsignedLong = true
is_long_type _ = false

-- the greatest value of a type
abbrev pub greatest : LiteralType → ℕ
greatest Int = 2 ^ 31 - 1
greatest UnsignedInt = 2 ^ 32 - 1
greatest Long = 2 ^ 63 - 1
greatest UnsignedLong = 2 ^ 64 - 1
greatest Untyped = 2 ^ 126 - 1

-- the first type of the list that holds the value; an `l` leaves the long ones
unfoldable pub type_of : Base → Suffix → ℕ → Option LiteralType
type_of base s value = find (λ t. (not s.long || is_long_type t) && nat_le value (greatest t)) (types_of base s.unsigned)

-- digits of a base, of which there are n, with a suffix behind them
abbrev pub literal_at : Base → List ℕ → ℕ → Option (LiteralType × ℕ)
literal_at base body n =
    let value = number_in (radix base) (take n body) in
    option_and_then (λ s. option_map (λ t. (t, value)) (type_of base s value)) (suffix_of (drop n body))

abbrev pub literal_in : Base → List ℕ → Option (LiteralType × ℕ)
literal_in base body = literal_at base body (run (digits_of base) body)

-- the literal that a word of C is, if it is one
unfoldable pub literal_of : List ℕ → Option (LiteralType × ℕ)
literal_of word = let base = base_of word in literal_in base (drop (prefix_of base) word)

abbrev pub literal_or_bad : Option (LiteralType × ℕ) → ℕ → Lead
literal_or_bad (Some l) n = Piece (k.Literal l.0 l.1) n
literal_or_bad None n = Bad BadNumber 0

-- a literal of C: all the letters, digits and `_` from its first digit on are its own, and no `.` follows them
unfoldable pub c_number : List ℕ → Lead
c_number bytes = let n = run class.Word bytes in if begins "." (drop n bytes) then Bad BadNumber 0 else literal_or_bad (literal_of (take n bytes)) n
