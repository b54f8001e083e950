-- Classes of bytes, and the runs of a class at the front.
use Rattle.std.specs.Prelude.{ℕ, Bool, not, ◌||◌, ◌==◌, List, nat_eq, codes}
use Rattle.std.specs.Int.{is_in_range}
use Rattle.std.specs.Char.{is_ascii_alphabetic, is_ascii_digit, is_ascii_hexdigit}
use Rattle.std.specs.List.{prefix_len, starts_with}
use Prim.Native.String.{String}
use Rattle.floyd_lex.specs.declared.classes.Class.{Class}
use Rattle.floyd_lex.specs.declared.classes.Class.TheVariants.{Blank, NoFeed, Word, Decimal, Octal, Hexadecimal}

-- tab, line feed, vertical tab, form feed and carriage return are 9 to 13
abbrev pub is_white : ℕ → Bool
is_white b = b == 32 || is_in_range 9 13 b

abbrev pub is_letter : ℕ → Bool
is_letter b = is_ascii_alphabetic b || b == 95

abbrev pub is_word : ℕ → Bool
is_word b = is_letter b || is_ascii_digit b

abbrev pub in_class : Class → ℕ → Bool
in_class Blank b = b == 32 || b == 9
in_class NoFeed b = not (b == 10)
in_class Word b = is_word b
in_class Decimal b = is_ascii_digit b
in_class Octal b = is_in_range 48 55 b
in_class Hexadecimal b = is_ascii_hexdigit b

-- the length of the longest front whose bytes are all of the class
abbrev pub run : Class → List ℕ → ℕ
run class bytes = prefix_len (in_class class) bytes

-- the text stands at the front
abbrev pub begins : String → List ℕ → Bool
begins text bytes = starts_with nat_eq bytes (codes text)
