-- Lines and columns of a text, counted from 1, and the places of a file.
use Rattle.std.specs.Prelude.{ℕ, Bool, ◌+◌, ◌==◌, not, min, List, count_by, take}
use Rattle.std.specs.List.{suffix_len}
use Rattle.floyd_text.specs.declared.place.Place.{Place}

abbrev pub is_feed : ℕ → Bool
is_feed b = b == 10

abbrev pub is_other : ℕ → Bool
is_other b = not (b == 10)

-- the line on which what follows these bytes stands: one more than their line feeds, or the greatest number there is
abbrev pub line_of : List ℕ → ℕ
line_of front = min (count_by is_feed front + 1) 4294967295

-- its column: one more than the bytes at their end that are no line feeds, or the greatest number there is
abbrev pub column_of : List ℕ → ℕ
column_of front = min (suffix_len is_other front + 1) 4294967295

-- the place, in the file of that number, of the byte at `at`, or of the file's end
abbrev pub place_at : ℕ → List ℕ → ℕ → Place
place_at file bytes at = record { file = file; line = line_of (take at bytes); column = column_of (take at bytes) }

-- the first place of a file
abbrev pub first_place : ℕ → Place
first_place file = record { file = file; line = 1; column = 1 }
