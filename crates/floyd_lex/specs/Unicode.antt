-- Characters of specifications and scripts, which are UTF-8.
use Rattle.std.specs.Prelude.{ℕ, zero, suc, ◌+◌, ◌-◌, ◌^◌, Bool, false, ◌&&◌, ◌||◌, ◌==◌, nat_le, if◌then◌else◌, List, [], ◌∷◌, length, take, drop, slice_index, Option, Some, None}
use Rattle.std.specs.Str.{continuation_len, is_utf8, chars}
use Rattle.unicode_ident.specs.Ident.{is_xid_start, is_xid_continue}
use Rattle.floyd_lex.specs.declared.kinds.LiteralType.TheVariants.{Untyped}
use Rattle.floyd_lex.specs.declared.kinds.TokenKind.TheVariants as k
use Rattle.floyd_lex.specs.declared.classes.Class.TheVariants as class
use Rattle.floyd_lex.specs.declared.lead.Flaw.TheVariants.{BadNumber}
use Rattle.floyd_lex.specs.declared.lead.Lead.{Lead}
use Rattle.floyd_lex.specs.declared.lead.Lead.TheVariants.{Piece, Bad}
use Rattle.floyd_lex.specs.Classes.{run, begins}
use Rattle.floyd_lex.specs.Numbers.{number_in}

-- the character that the first n bytes are
abbrev pub char_of : ℕ → List ℕ → Option (ℕ × ℕ)
char_of n bytes = if nat_le n (length bytes) && is_utf8 (take n bytes) then Some (slice_index (chars (take n bytes)) 0, n) else None

-- the character at the front, with its number of bytes, which its first byte says
unfoldable pub char_at : List ℕ → Option (ℕ × ℕ)
char_at bytes = char_of (continuation_len (slice_index bytes 0) + 1) bytes

abbrev pub starts_name : Option (ℕ × ℕ) → Bool
starts_name (Some c) = is_xid_start c.0 || c.0 == 95
starts_name None = false

abbrev pub continues_name : Option (ℕ × ℕ) → Bool
continues_name (Some c) = is_xid_continue c.0 || c.0 == 39
continues_name None = false

abbrev pub continues_word : Option (ℕ × ℕ) → Bool
continues_word (Some c) = is_xid_continue c.0
continues_word None = false

abbrev pub width : Option (ℕ × ℕ) → ℕ
width (Some c) = c.1
width None = 0

-- how many bytes the character at the front has, where it goes on with a name, and else 0
unfoldable pub name_step : List ℕ → ℕ
name_step bytes = let c = char_at bytes in if continues_name c then width c else 0

-- how many bytes the characters at the front take that go on with a name, where the first bytes belong to one of them
abbrev pub name_len_after : ℕ → List ℕ → ℕ
name_len_after inside [] = 0
name_len_after (suc inside) (b ∷ bytes) = name_len_after inside bytes + 1
name_len_after zero (b ∷ bytes) = let n = name_step (b ∷ bytes) in if n == 0 then 0 else name_len_after (n - 1) bytes + 1

abbrev pub name_len : List ℕ → ℕ
name_len bytes = name_len_after 0 bytes

-- a number, which neither a character that goes on with a word follows, nor a `.`
unfoldable pub plain_number : List ℕ → Lead
plain_number bytes =
    let n = run class.Decimal bytes in
    let value = number_in 10 (take n bytes) in
    if begins "." (drop n bytes) || continues_word (char_at (drop n bytes)) || nat_le (2 ^ 126) value then Bad BadNumber 0
    else Piece (k.Literal Untyped value) n
