-- How tokens stand in memory.
use Rattle.std.specs.Prelude.{◌≡◌, ℕ, ◌<◌, ◌++◌, List, [], ◌∷◌, length, map, slice_index}
use Rattle.floyd_lex.specs.declared.kinds.TokenKind.{TokenKind}
use Rattle.floyd_lex.specs.declared.kinds.TokenKind.TheVariants as k
use Rattle.floyd_lex.specs.declared.list.Form.{Form}
use Rattle.floyd_lex.specs.declared.list.Form.TheVariants.{Name, Keyword, Punctuator, Short, Long, StringLiteral}
use Rattle.floyd_lex.specs.declared.list.Packed.{Packed}
use Rattle.floyd_lex.specs.Token.{Lexeme}

-- what a token is, by its form and its number, where the long values stand in a list
abbrev pub kind_of : List ℕ → Form → ℕ → TokenKind
kind_of long Name value = k.Name
kind_of long (Keyword w) value = k.Keyword w
kind_of long (Punctuator p) value = k.Punctuator p
kind_of long (Short t) value = k.Literal t value
kind_of long (Long t) value = k.Literal t (slice_index long value)
kind_of long StringLiteral value = k.StringLiteral

abbrev pub lexeme_of : ℕ → List ℕ → Packed → Lexeme
lexeme_of file long p = record {
  kind = kind_of long p.form p.value;
  start = p.start;
  end = p.end;
  place = record { file = file; line = p.line; column = p.column };
}

abbrev pub lexemes_of : ℕ → List ℕ → List Packed → List Lexeme
lexemes_of file long packed = map (lexeme_of file long) packed

-- a long literal's number is one of the list
abbrev pub IsWithin : List ℕ → Form → ℕ → Type 0
IsWithin long (Long t) value = value < length long
IsWithin long _ value = Unit {0}

abbrev pub AreWithin : List ℕ → List Packed → Type 0
AreWithin long [] = Unit {0}
AreWithin long (p ∷ ps) = IsWithin long p.form p.value × AreWithin long ps

-- something may have come to the end
abbrev pub Grows : List ℕ → List ℕ → Type 0
Grows old new = (more : List ℕ) × (new ≡ old ++ more)
