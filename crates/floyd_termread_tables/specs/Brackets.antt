-- What may stand in a bracket.
use Rattle.std.specs.Prelude.{ℕ, zero, suc, ◌==◌, Bool, true, false, Option, Some, None}
use Rattle.floyd_lex.specs.declared.kinds.Punctuator.{Punctuator}
use Rattle.floyd_lex.specs.declared.kinds.Punctuator.TheVariants as p
use Rattle.floyd_termread_tables.specs.declared.values.Form.{Form}
use Rattle.floyd_termread_tables.specs.declared.values.Form.TheVariants as form
use Rattle.floyd_termread_tables.specs.declared.values.Kind.{Kind}
use Rattle.floyd_termread_tables.specs.declared.values.Kind.TheVariants as kind
use Rattle.floyd_termread_tables.specs.declared.values.Want.{Want}
use Rattle.floyd_termread_tables.specs.declared.values.Want.TheVariants as want

-- What may stand in a bracket behind so many items, where the last of them is of that kind.
abbrev pub after_parenthesis : ℕ → Kind → Option Want
after_parenthesis (suc zero) kind.Open = Some want.Term
after_parenthesis n last = None

abbrev pub after_term : ℕ → Option Want
after_term zero = Some want.Term
after_term (suc zero) = Some want.Term
after_term n = None

abbrev pub first_only : Want → ℕ → Option Want
first_only wanted zero = Some wanted
first_only wanted n = None

abbrev pub first_then_term : Want → ℕ → Option Want
first_then_term wanted zero = Some wanted
first_then_term wanted (suc zero) = Some want.Term
first_then_term wanted n = None

abbrev pub type_path_term : ℕ → Option Want
type_path_term zero = Some want.Type
type_path_term (suc zero) = Some want.Path
type_path_term (suc (suc zero)) = Some want.Term
type_path_term n = None

abbrev pub next_want : Form → ℕ → Kind → Option Want
next_want form.Terms n last = Some want.Term
next_want form.Parenthesis n last = after_parenthesis n last
next_want form.TermParenthesis n last = after_term n
next_want form.List n last = Some want.Term
next_want form.Subscript n last = first_only want.Term n
next_want form.OneTerm n last = first_only want.Term n
next_want form.OneType n last = first_only want.Type n
next_want form.OneGiven n last = first_only want.Given n
next_want form.TypeTerm n last = first_then_term want.Type n
next_want form.TypePathTerm n last = type_path_term n
next_want form.FreeTerm n last = first_then_term want.Free n
next_want form.Types n last = Some want.Type

abbrev pub first_want : Form → Want
first_want form.Terms = want.Term
first_want form.Parenthesis = want.Either
first_want form.TermParenthesis = want.Term
first_want form.List = want.Term
first_want form.Subscript = want.Term
first_want form.OneTerm = want.Term
first_want form.OneType = want.Type
first_want form.OneGiven = want.Given
first_want form.TypeTerm = want.Type
first_want form.TypePathTerm = want.Type
first_want form.FreeTerm = want.Free
first_want form.Types = want.Type

-- so many items are enough, where there is one
abbrev pub is_enough : Form → ℕ → Bool
is_enough form.TypeTerm n = n == 2
is_enough form.FreeTerm n = n == 2
is_enough form.TypePathTerm n = n == 3
is_enough rest n = true

abbrev pub may_be_empty : Form → Bool
may_be_empty form.Terms = true
may_be_empty rest = false

abbrev pub separator : Form → Punctuator
separator form.Types = p.Semicolon
separator rest = p.Comma

abbrev pub closing_mark : Form → Punctuator
closing_mark form.List = p.CloseBracket
closing_mark form.Subscript = p.CloseBracket
closing_mark rest = p.CloseParen
