-- Which operator may follow what.
use Rattle.std.specs.Prelude.{Bool, true, false, ◌&&◌, ◌||◌, if◌then◌else◌, Option, Some, None}
use Rattle.floyd_text.specs.declared.place.Place.{Place}
use Rattle.floyd_lex.specs.declared.kinds.TokenKind.{TokenKind}
use Rattle.floyd_lex.specs.declared.kinds.TokenKind.TheVariants as k
use Rattle.floyd_lex.specs.declared.kinds.Punctuator.TheVariants as p
use Rattle.floyd_lex.specs.Token.{Token}
use Rattle.floyd_cparse_tokens.specs.Tokens.{is_there}
use Rattle.floyd_termread_trees.specs.declared.words.Word.{Word}
use Rattle.floyd_termread_trees.specs.declared.words.Word.TheVariants as w
use Rattle.floyd_termread_trees.specs.declared.words.FormulaWord.TheVariants as f
use Rattle.floyd_termread_trees.specs.declared.written.Infix.{Infix}
use Rattle.floyd_termread_trees.specs.declared.written.Infix.TheVariants as i
use Rattle.floyd_termread_tokens.specs.Tokens.{is_mark, word_at}
use Rattle.floyd_termread_tables.specs.declared.values.Class.{Class}
use Rattle.floyd_termread_tables.specs.declared.values.Class.TheVariants as class
use Rattle.floyd_termread_tables.specs.declared.values.Kind.{Kind}
use Rattle.floyd_termread_tables.specs.declared.values.Kind.TheVariants as kind
use Rattle.floyd_termread_tables.specs.declared.values.Want.{Want}
use Rattle.floyd_termread_tables.specs.declared.values.Want.TheVariants as want
use Rattle.floyd_termread_tables.specs.declared.values.End.{End}
use Rattle.floyd_termread_tables.specs.declared.values.LinkStart.{LinkStart}

-- The operators between operands.
abbrev pub mark_infix : TokenKind → Option Infix
mark_infix (k.Punctuator p.ColonColon) = Some i.Cons
mark_infix (k.Punctuator p.PlusPlus) = Some i.Append
mark_infix (k.Punctuator p.Plus) = Some i.Add
mark_infix (k.Punctuator p.Minus) = Some i.Sub
mark_infix (k.Punctuator p.Star) = Some i.Mul
mark_infix (k.Punctuator p.Equal) = Some i.Equal
mark_infix (k.Punctuator p.LessGreater) = Some i.Unequal
mark_infix (k.Punctuator p.LessEqual) = Some i.AtMost
mark_infix (k.Punctuator p.Less) = Some i.Less
mark_infix (k.Punctuator p.GreaterEqual) = Some i.AtLeast
mark_infix (k.Punctuator p.Greater) = Some i.Greater
mark_infix (k.Punctuator p.Arrow) = Some i.Implies
mark_infix rest = None

abbrev pub word_infix : Option Word → Option Infix
word_infix (Some (w.Formula f.Or)) = Some i.Or
word_infix (Some (w.Formula f.And)) = Some i.And
word_infix rest = None

abbrev pub or_else : Option Infix → Option Infix → Option Infix
or_else None other = other
or_else (Some op) other = Some op

abbrev pub infix_of : Token → Option Infix
infix_of t = or_else (mark_infix t.kind) (word_infix (word_at t))

abbrev pub is_connective : Infix → Bool
is_connective i.Implies = true
is_connective i.Or = true
is_connective i.And = true
is_connective rest = false

abbrev pub is_relation : Infix → Bool
is_relation i.Equal = true
is_relation i.Unequal = true
is_relation i.AtMost = true
is_relation i.Less = true
is_relation i.AtLeast = true
is_relation i.Greater = true
is_relation rest = false

-- What may follow what.
abbrev pub is_formula : Kind → Bool
is_formula kind.Related = true
is_formula kind.Formula = true
is_formula rest = false

abbrev pub may_relate : Kind → Bool
may_relate kind.Open = true
may_relate kind.Side = true
may_relate rest = false

abbrev pub ends_with_term : Kind → Bool
ends_with_term kind.Formula = false
ends_with_term kind.Other = false
ends_with_term rest = true

abbrev pub must_relate : Kind → Bool
must_relate kind.Side = true
must_relate rest = false

abbrev pub allows : Kind → Infix → Bool
allows so_far op = if is_connective op then is_formula so_far else if is_relation op then may_relate so_far else ends_with_term so_far

abbrev pub allowed : Kind → Option Infix → Option Infix
allowed so_far None = None
allowed so_far (Some op) = if allows so_far op then Some op else None

-- the operator that a token is behind what was read so far
abbrev pub infix_for : Kind → Token → Option Infix
infix_for so_far t = allowed so_far (infix_of t)

abbrev pub want_behind : Infix → Want
want_behind op = if is_connective op then want.Formula else want.Term

abbrev pub kind_behind : Kind → Infix → Kind → Kind
kind_behind so_far op right = if is_connective op then right else if is_relation op then kind.Related else so_far

-- what an operand is where so much is wanted
abbrev pub term_kind : Want → Kind
term_kind want.Term = kind.Term
term_kind want.Formula = kind.Side
term_kind want.Either = kind.Open
term_kind rest = kind.Other

abbrev pub kind_of : Want → Class → Kind
kind_of wanted class.Term = term_kind wanted
kind_of wanted class.Formula = kind.Formula
kind_of wanted class.Other = kind.Other

-- what may go on with what ends so
abbrev pub goes_on : End → Token → Bool
goes_on end t = (end.bare && is_mark p.OpenParen t) || is_there (infix_for end.kind t)

-- an operator at its place
abbrev pub link_at : Place → Option Infix → Option LinkStart
link_at place None = None
link_at place (Some op) = Some record { op = op; place = place }
