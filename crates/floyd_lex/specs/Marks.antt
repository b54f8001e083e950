-- Punctuation marks, the longer ones first.
use Rattle.std.specs.Prelude.{ℕ, List, [], ◌∷◌, if◌then◌else◌, Option, Some, None}
use Prim.Native.String.{String}
use Rattle.floyd_lex.specs.declared.kinds.FileKind.{FileKind}
use Rattle.floyd_lex.specs.declared.kinds.FileKind.TheVariants.{Source, Spec, Script}
use Rattle.floyd_lex.specs.declared.kinds.Punctuator.{Punctuator}
use Rattle.floyd_lex.specs.declared.kinds.Punctuator.TheVariants as p
use Rattle.floyd_lex.specs.declared.kinds.TokenKind.TheVariants as k
use Rattle.floyd_lex.specs.declared.lead.Flaw.TheVariants.{BadByte}
use Rattle.floyd_lex.specs.declared.lead.Lead.{Lead}
use Rattle.floyd_lex.specs.declared.lead.Lead.TheVariants.{Piece, Bad}
use Rattle.floyd_lex.specs.Classes.{begins}

-- a mark with its text
abbrev pub Mark : Type 0
Mark = String × Punctuator

-- C's marks of three bytes, of two and of one
abbrev pub c_three : List Mark
c_three =
    ("...", p.Ellipsis) ∷ ("<<=", p.ShiftLeftEqual) ∷ (">>=", p.ShiftRightEqual) ∷ []

abbrev pub c_two : List Mark
c_two =
    ("->", p.Arrow) ∷ ("++", p.PlusPlus) ∷ ("--", p.MinusMinus) ∷ ("<<", p.ShiftLeft) ∷
    (">>", p.ShiftRight) ∷ ("<=", p.LessEqual) ∷ (">=", p.GreaterEqual) ∷ ("==", p.EqualEqual) ∷
    ("!=", p.NotEqual) ∷ ("&&", p.AndAnd) ∷ ("||", p.BarBar) ∷ ("*=", p.StarEqual) ∷
    ("/=", p.SlashEqual) ∷ ("%=", p.PercentEqual) ∷ ("+=", p.PlusEqual) ∷ ("-=", p.MinusEqual) ∷
    ("&=", p.AmpersandEqual) ∷ ("^=", p.CaretEqual) ∷ ("|=", p.BarEqual) ∷ []

abbrev pub c_one : List Mark
c_one =
    ("(", p.OpenParen) ∷ (")", p.CloseParen) ∷ ("[", p.OpenBracket) ∷ ("]", p.CloseBracket) ∷
    ("{", p.OpenBrace) ∷ ("}", p.CloseBrace) ∷ (".", p.Dot) ∷ ("&", p.Ampersand) ∷
    ("*", p.Star) ∷ ("+", p.Plus) ∷ ("-", p.Minus) ∷ ("~", p.Tilde) ∷
    ("!", p.Exclamation) ∷ ("/", p.Slash) ∷ ("%", p.Percent) ∷ ("<", p.Less) ∷
    (">", p.Greater) ∷ ("^", p.Caret) ∷ ("|", p.Bar) ∷ ("?", p.Question) ∷
    (":", p.Colon) ∷ (";", p.Semicolon) ∷ ("=", p.Equal) ∷ (",", p.Comma) ∷ []

-- the marks of two bytes that specifications and scripts have, and that one kind of them alone has
abbrev pub shared_two : List Mark
shared_two =
    ("::", p.ColonColon) ∷ ("++", p.PlusPlus) ∷ ("->", p.Arrow) ∷ ("<=", p.LessEqual) ∷
    (">=", p.GreaterEqual) ∷ ("<>", p.LessGreater) ∷ []

abbrev pub own_two : FileKind → List Mark
own_two Source = []
own_two Spec = ("=>", p.FatArrow) ∷ []
own_two Script = ("<-", p.LeftArrow) ∷ []

-- the same of one byte
abbrev pub shared_one : List Mark
shared_one =
    ("(", p.OpenParen) ∷ (")", p.CloseParen) ∷ ("[", p.OpenBracket) ∷ ("]", p.CloseBracket) ∷
    (";", p.Semicolon) ∷ (",", p.Comma) ∷ (".", p.Dot) ∷ (":", p.Colon) ∷
    ("=", p.Equal) ∷ ("<", p.Less) ∷ (">", p.Greater) ∷ ("+", p.Plus) ∷
    ("-", p.Minus) ∷ ("*", p.Star) ∷ []

abbrev pub own_one : FileKind → List Mark
own_one Source = []
own_one Spec = ("|", p.Bar) ∷ []
own_one Script = []

-- the mark of a table that stands at the front
abbrev pub mark_in : List Mark → List ℕ → Option Punctuator
mark_in [] bytes = None
mark_in (m ∷ marks) bytes = if begins m.0 bytes then Some m.1 else mark_in marks bytes

-- the mark of n bytes, where there is one
abbrev pub mark_or : ℕ → Option Punctuator → Lead → Lead
mark_or n (Some m) other = Piece (k.Punctuator m) n
mark_or n None other = other

-- a byte that begins no token
abbrev pub no_token : Lead
no_token = Bad BadByte 0

unfoldable pub c_mark : List ℕ → Lead
c_mark bytes = mark_or 3 (mark_in c_three bytes) (mark_or 2 (mark_in c_two bytes) (mark_or 1 (mark_in c_one bytes) no_token))

unfoldable pub other_mark : FileKind → List ℕ → Lead
other_mark kind bytes =
    mark_or 2 (mark_in shared_two bytes) (mark_or 2 (mark_in (own_two kind) bytes)
    (mark_or 1 (mark_in shared_one bytes) (mark_or 1 (mark_in (own_one kind) bytes) no_token)))
