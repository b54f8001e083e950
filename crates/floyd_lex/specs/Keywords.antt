-- The words of C that are no names.
use Rattle.std.specs.Prelude.{ℕ, List, [], ◌∷◌, if◌then◌else◌, Option, Some, None, codes}
use Rattle.std.specs.Str.{bytes_eq}
use Prim.Native.String.{String}
use Rattle.floyd_lex.specs.declared.kinds.Keyword.{Keyword}
use Rattle.floyd_lex.specs.declared.kinds.Keyword.TheVariants as p

-- a keyword with its text
abbrev pub KeywordText : Type 0
KeywordText = String × Keyword

-- those that the grammar writes, with `case` and `default`
abbrev pub grammar_words : List KeywordText
grammar_words =
    ("typedef", p.Typedef) ∷ ("extern", p.Extern) ∷ ("const", p.Const) ∷ ("void", p.Void) ∷
    ("struct", p.Struct) ∷ ("if", p.If) ∷ ("else", p.Else) ∷ ("while", p.While) ∷
    ("do", p.Do) ∷ ("for", p.For) ∷ ("break", p.Break) ∷ ("continue", p.Continue) ∷
    ("return", p.Return) ∷ ("sizeof", p.Sizeof) ∷ ("case", p.Case) ∷ ("default", p.Default) ∷ []

-- those of the integer types
abbrev pub integer_words : List KeywordText
integer_words =
    ("char", p.Char) ∷ ("short", p.Short) ∷ ("int", p.Int) ∷ ("long", p.Long) ∷
    ("signed", p.Signed) ∷ ("unsigned", p.Unsigned) ∷ []

-- those of what is left out of C
abbrev pub left_out_words : List KeywordText
left_out_words =
    ("float", p.Float) ∷ ("double", p.Double) ∷ ("union", p.Union) ∷ ("enum", p.Enum) ∷
    ("static", p.Static) ∷ ("volatile", p.Volatile) ∷ ("register", p.Register) ∷ ("inline", p.Inline) ∷
    ("restrict", p.Restrict) ∷ ("goto", p.Goto) ∷ ("switch", p.Switch) ∷ ("asm", p.Asm) ∷
    ("_Bool", p.Bool) ∷ []

-- the keyword of a table that the word is
abbrev pub keyword_in : List KeywordText → List ℕ → Option Keyword
keyword_in [] word = None
keyword_in (w ∷ words) word = if bytes_eq word (codes w.0) then Some w.1 else keyword_in words word

abbrev pub or_else : Option Keyword → Option Keyword → Option Keyword
or_else (Some w) other = Some w
or_else None other = other

-- the keyword that a word of C is, if it is one
unfoldable pub keyword_of : List ℕ → Option Keyword
keyword_of word = or_else (keyword_in grammar_words word) (or_else (keyword_in integer_words word) (keyword_in left_out_words word))
