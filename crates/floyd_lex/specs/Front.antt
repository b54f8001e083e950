-- What stands at the front of what is left of a file.
use Rattle.std.specs.Prelude.{ℕ, ◌+◌, Bool, ◌&&◌, ◌==◌, nat_lt, if◌then◌else◌, List, [], ◌∷◌, take, drop, slice_index, Option, Some, None, option_map}
use Rattle.std.specs.Char.{is_ascii_digit}
use Rattle.std.specs.List.{suffix_len}
use Rattle.std.specs.Str.{is_utf8}
use Rattle.std.specs.Str.Lossy.{utf8_valid_len}
use Rattle.floyd_lex.specs.declared.kinds.FileKind.{FileKind}
use Rattle.floyd_lex.specs.declared.kinds.FileKind.TheVariants.{Source}
use Rattle.floyd_lex.specs.declared.kinds.Keyword.{Keyword}
use Rattle.floyd_lex.specs.declared.kinds.TokenKind.{TokenKind}
use Rattle.floyd_lex.specs.declared.kinds.TokenKind.TheVariants as k
use Rattle.floyd_lex.specs.declared.classes.Class.TheVariants as class
use Rattle.floyd_lex.specs.declared.lead.Flaw.TheVariants.{BadByte, OpenComment}
use Rattle.floyd_lex.specs.declared.lead.Lead.{Lead}
use Rattle.floyd_lex.specs.declared.lead.Lead.TheVariants.{End, Skip, Piece, Bad}
use Rattle.floyd_lex.specs.Classes.{in_class, is_white, is_letter, run, begins}
use Rattle.floyd_lex.specs.Keywords.{keyword_of}
use Rattle.floyd_lex.specs.Marks.{c_mark, other_mark}
use Rattle.floyd_lex.specs.Numbers.{c_number}
use Rattle.floyd_lex.specs.Quotes.{constant, string}
use Rattle.floyd_lex.specs.Unicode.{char_at, starts_name, name_len, plain_number}

-- a comment of n bytes. Where the file is no source, it is UTF-8 up to its first bad byte
abbrev pub comment_of : FileKind → ℕ → List ℕ → Lead
comment_of Source n bytes = Skip n
comment_of _ n bytes = if is_utf8 (take n bytes) then Skip n else Bad BadByte (utf8_valid_len (take n bytes))

-- the length up to the first `*/`, with it
abbrev pub comment_len : List ℕ → Option ℕ
comment_len [] = None
comment_len (b ∷ bytes) = if b == 42 && slice_index bytes 0 == 47 then Some 2 else option_map (λ n. n + 1) (comment_len bytes)

abbrev pub comment_or_bad : FileKind → Option ℕ → List ℕ → Lead
comment_or_bad kind (Some n) bytes = comment_of kind (n + 2) bytes
comment_or_bad kind None bytes = Bad OpenComment 0

-- a comment from its `/*` on
unfoldable pub comment : FileKind → List ℕ → Lead
comment kind bytes = comment_or_bad kind (comment_len (drop 2 bytes)) bytes

-- a comment from its `//` to the end of the line
unfoldable pub line_comment : FileKind → List ℕ → Lead
line_comment kind bytes = comment_of kind (run class.NoFeed bytes) bytes

-- the line has had nothing but blanks so far
abbrev pub line_is_blank : List ℕ → Bool
line_is_blank before = suffix_len (in_class class.Blank) before == suffix_len (in_class class.NoFeed) before

-- `#`, blanks and a digit
abbrev pub is_marker : List ℕ → Bool
is_marker bytes = let n = run class.Blank (drop 1 bytes) in begins "#" bytes && nat_lt 0 n && is_ascii_digit (slice_index (drop 1 bytes) n)

abbrev pub kind_of_word : Option Keyword → TokenKind
kind_of_word (Some w) = k.Keyword w
kind_of_word None = k.Name

-- a name or a keyword of C
unfoldable pub word : List ℕ → Lead
word bytes = let n = run class.Word bytes in Piece (kind_of_word (keyword_of (take n bytes))) n

-- a token of C, or a line marker
unfoldable pub c_front : List ℕ → ℕ → List ℕ → Lead
c_front before b bytes =
    if is_letter b then word bytes
    else if is_ascii_digit b then c_number bytes
    else if b == 39 then constant bytes
    else if b == 34 then string bytes
    else if is_marker bytes && line_is_blank before then Skip (run class.NoFeed bytes)
    else c_mark bytes

-- a token of a specification or of a script
unfoldable pub other_front : FileKind → ℕ → List ℕ → Lead
other_front kind b bytes =
    if is_ascii_digit b then plain_number bytes
    else if starts_name (char_at bytes) then Piece k.Name (name_len bytes)
    else other_mark kind bytes

abbrev pub token_front : FileKind → List ℕ → ℕ → List ℕ → Lead
token_front Source before b bytes = c_front before b bytes
token_front kind before b bytes = other_front kind b bytes

-- what stands at the front of these bytes, behind those before
unfoldable pub front : FileKind → List ℕ → List ℕ → Lead
front kind before [] = End
front kind before (b ∷ bytes) =
    if is_white b then Skip 1
    else if begins "//" (b ∷ bytes) then line_comment kind (b ∷ bytes)
    else if begins "/*" (b ∷ bytes) then comment kind (b ∷ bytes)
    else token_front kind before b (b ∷ bytes)
