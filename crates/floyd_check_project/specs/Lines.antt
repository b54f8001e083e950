-- The lines of a project file.
use Rattle.std.specs.Prelude.{ℕ, Bool, false, ◌+◌, ◌==◌, ◌&&◌, ◌||◌, nat_le, if◌then◌else◌, List, [], ◌∷◌, length}
use Rattle.std.specs.List.{list_all}

-- a line without its line feed, and the offset of its first byte
pub record Line : Type 0 where
  pub at : ℕ
  pub bytes : List ℕ

-- the lines with a byte put before the first, which then begins at `at`
abbrev pub with_byte : ℕ → ℕ → List Line → List Line
with_byte at b [] = []
with_byte at b (l ∷ ls) = record { at = at; bytes = b ∷ l.bytes } ∷ ls

-- the lines of a text whose first byte has this offset; what stands after the last line feed is a line too
abbrev pub lines_from : ℕ → List ℕ → List Line
lines_from at [] = record { at = at; bytes = [] } ∷ []
lines_from at (b ∷ bs) =
    if b == 10
    then record { at = at; bytes = [] } ∷ lines_from (at + 1) bs
    else with_byte at b (lines_from (at + 1) bs)

-- nothing but spaces and tabs
abbrev pub is_blank : List ℕ → Bool
is_blank bytes = list_all (λ b. b == 32 || b == 9) bytes

-- a line that begins with `#`
abbrev pub is_comment : List ℕ → Bool
is_comment [] = false
is_comment (b ∷ bs) = b == 35

abbrev pub is_letter : ℕ → Bool
is_letter b = (nat_le 97 b && nat_le b 122) || (nat_le 65 b && nat_le b 90)

abbrev pub is_digit : ℕ → Bool
is_digit b = nat_le 48 b && nat_le b 57

-- a letter or `_`
abbrev pub begins_identifier : ℕ → Bool
begins_identifier b = is_letter b || b == 95

-- a letter, a digit or `_`
abbrev pub is_word_byte : ℕ → Bool
is_word_byte b = is_letter b || is_digit b || b == 95

-- an identifier of C of at most 255 bytes
abbrev pub is_identifier : List ℕ → Bool
is_identifier [] = false
is_identifier (b ∷ bs) = begins_identifier b && list_all is_word_byte bs && nat_le (length (b ∷ bs)) 255

-- a letter, a digit, or one of `_ . - /`
abbrev pub is_file_byte : ℕ → Bool
is_file_byte b = is_word_byte b || b == 46 || b == 45 || b == 47

-- 1 to 255 such bytes
abbrev pub is_file_name : List ℕ → Bool
is_file_name bytes = nat_le 1 (length bytes) && nat_le (length bytes) 255 && list_all is_file_byte bytes
