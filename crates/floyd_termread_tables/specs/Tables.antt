-- What may stand where, in the grammar of terms, formulas, types and paths.
--
--   formula = weakest first: "->", "or", "and"; then "not" formula, "forall" binders "." formula, "exists" binders "."
--             formula; then a relation of two terms, "True", "False", "isptr" "(" term ")", "defined" "(" term ")",
--             "hasty" "(" type "," term ")", "compatible" "(" type "," path "," term ")", "func_ptr" "(" name "," term ")",
--             "(" formula ")"
--   relation = "=" | "<>" | "<=" | "<" | ">=" | ">"
--   term    = weakest first: "::", "++", "+" and "-", "*"; then "-" term; then a number, a name, name "(" terms ")",
--             word "(" terms ")", "gv" "(" name ")", "lv" "(" name ")", "default" "(" type ")", "(" term ")",
--             "(" term "," term ")", "[" term { "," term } "]"
--   type    = "void" | an integer type's word | "ptr" "(" type ")" | "struct" name | "array" "(" type "," term ")"
--           | "fn" "(" {type ";"} type ")"
--   path    = "[" { "." name | "[" term "]" } "]"
--
-- How strongly an operator binds decides here only which may follow which: an operator of terms or a relation may follow
-- a term, and one relation alone; "->", "or" and "and" may follow a formula. A parenthesis in a formula's place holds a
-- term or a formula, and is the one or the other by what stands in it.
use Rattle.std.specs.Prelude.{ℕ, Bool, true, false, not, ◌&&◌, if◌then◌else◌, Option, Some, None, List}
use Rattle.floyd_text.specs.declared.place.Place.{Place}
use Rattle.floyd_lex.specs.declared.kinds.TokenKind.{TokenKind}
use Rattle.floyd_lex.specs.declared.kinds.TokenKind.TheVariants as k
use Rattle.floyd_lex.specs.declared.kinds.Punctuator.{Punctuator}
use Rattle.floyd_lex.specs.declared.kinds.Punctuator.TheVariants as p
use Rattle.floyd_lex.specs.Token.{Token}
use Rattle.floyd_tree_sorts.specs.declared.operators.Operator.{Operator}
use Rattle.floyd_tree_sorts.specs.declared.operators.Operator.TheVariants as o
use Rattle.floyd_termread_trees.specs.declared.words.Word.{Word}
use Rattle.floyd_termread_trees.specs.declared.words.Word.TheVariants as w
use Rattle.floyd_termread_trees.specs.declared.words.TypeWord.{TypeWord}
use Rattle.floyd_termread_trees.specs.declared.words.TypeWord.TheVariants as y
use Rattle.floyd_termread_trees.specs.declared.words.FormulaWord.{FormulaWord}
use Rattle.floyd_termread_trees.specs.declared.words.FormulaWord.TheVariants as f
use Rattle.floyd_termread_trees.specs.declared.words.TermWord.{TermWord}
use Rattle.floyd_termread_trees.specs.declared.words.TermWord.TheVariants as t
use Rattle.floyd_termread_trees.specs.declared.written.Opening.TheVariants as opening
use Rattle.floyd_termread_trees.specs.declared.written.Written.TheVariants as written
use Rattle.floyd_termread_tokens.specs.Tokens.{is_mark, word_at}
use Rattle.floyd_termread_tokens.specs.Words.{word_of, is_free, is_hypothesis}
use Rattle.floyd_termread_tables.specs.declared.values.Class.{Class}
use Rattle.floyd_termread_tables.specs.declared.values.Class.TheVariants as class
use Rattle.floyd_termread_tables.specs.declared.values.Form.{Form}
use Rattle.floyd_termread_tables.specs.declared.values.Form.TheVariants as form
use Rattle.floyd_termread_tables.specs.declared.values.PrefixStart.{PrefixStart}
use Rattle.floyd_termread_tables.specs.declared.values.PrefixStart.TheVariants as prefix_start
use Rattle.floyd_termread_tables.specs.declared.values.Start.{Start}
use Rattle.floyd_termread_tables.specs.declared.values.Start.TheVariants as start
use Rattle.floyd_termread_tables.specs.declared.values.Want.{Want}
use Rattle.floyd_termread_tables.specs.declared.values.Want.TheVariants as want

-- What is wanted.
abbrev pub takes_terms : Want → Bool
takes_terms want.Term = true
takes_terms want.Formula = true
takes_terms want.Either = true
takes_terms rest = false

abbrev pub takes_formulas : Want → Bool
takes_formulas want.Formula = true
takes_formulas want.Either = true
takes_formulas rest = false

abbrev pub takes_types : Want → Bool
takes_types want.Type = true
takes_types rest = false

-- The operators before an operand.
abbrev pub quantifier_of : Place → Option Word → Option PrefixStart
quantifier_of place (Some (w.Formula f.Not)) = Some (prefix_start.Not place)
quantifier_of place (Some (w.Formula f.Forall)) = Some (prefix_start.Forall place)
quantifier_of place (Some (w.Formula f.Exists)) = Some (prefix_start.Exists place)
quantifier_of place rest = None

abbrev pub prefix_of : Want → Bool → Token → Option PrefixStart
prefix_of wanted minus t =
    if is_mark p.Minus t then (if takes_terms wanted then Some (prefix_start.Minus t.place) else None)
    else if takes_formulas wanted && not minus then quantifier_of t.place (word_at t)
    else None

-- What an operand begins with.
abbrev pub is_constant : Operator → Bool
is_constant o.Vundef = true
is_constant o.Nullval = true
is_constant rest = false

abbrev pub alone : Word → Place → Class → Option Start
alone word place of = Some (start.Alone (written.Word word place) of)

abbrev pub term_start : Place → TermWord → Option Start
term_start place (t.Operator op) = if is_constant op then alone (w.Term (t.Operator op)) place class.Term else Some (start.Word (w.Term (t.Operator op)) form.Terms class.Term place)
term_start place t.Nil = alone (w.Term t.Nil) place class.Term
term_start place t.Leaf = alone (w.Term t.Leaf) place class.Term
term_start place t.Gv = Some (start.Word (w.Term t.Gv) form.OneGiven class.Term place)
term_start place t.Lv = Some (start.Word (w.Term t.Lv) form.OneGiven class.Term place)
term_start place t.Signed = Some (start.Word (w.Term t.Signed) form.Terms class.Term place)
term_start place t.Unsigned = Some (start.Word (w.Term t.Unsigned) form.Terms class.Term place)
term_start place t.Default = Some (start.Word (w.Term t.Default) form.OneType class.Term place)

abbrev pub formula_start : Place → FormulaWord → Option Start
formula_start place f.True = alone (w.Formula f.True) place class.Formula
formula_start place f.False = alone (w.Formula f.False) place class.Formula
formula_start place f.IsPtr = Some (start.Word (w.Formula f.IsPtr) form.OneTerm class.Formula place)
formula_start place f.Defined = Some (start.Word (w.Formula f.Defined) form.OneTerm class.Formula place)
formula_start place f.Hasty = Some (start.Word (w.Formula f.Hasty) form.TypeTerm class.Formula place)
formula_start place f.Compatible = Some (start.Word (w.Formula f.Compatible) form.TypePathTerm class.Formula place)
formula_start place f.FuncPtr = Some (start.Word (w.Formula f.FuncPtr) form.FreeTerm class.Formula place)
formula_start place rest = None

abbrev pub type_start : Place → TypeWord → Option Start
type_start place y.Void = alone (w.Type y.Void) place class.Other
type_start place (y.Int int) = alone (w.Type (y.Int int)) place class.Other
type_start place y.Ptr = Some (start.Word (w.Type y.Ptr) form.OneType class.Other place)
type_start place y.Struct = Some (start.Struct place)
type_start place y.Array = Some (start.Word (w.Type y.Array) form.TypeTerm class.Other place)
type_start place y.Fn = Some (start.Word (w.Type y.Fn) form.Types class.Other place)

abbrev pub word_start : Want → Bool → Place → Word → Option Start
word_start wanted minus place (w.Term word) = if takes_terms wanted then term_start place word else None
word_start wanted minus place (w.Formula word) = if takes_formulas wanted && not minus then formula_start place word else None
word_start wanted minus place (w.Type word) = if takes_types wanted then type_start place word else None
word_start wanted minus place rest = None

abbrev pub lone_name : Place → List ℕ → Option Start
lone_name place text = Some (start.Alone (written.Name record { name = text; place = place }) class.Other)

abbrev pub name_or_word : Want → Bool → Place → List ℕ → Option Word → Option Start
name_or_word wanted minus place text (Some word) = word_start wanted minus place word
name_or_word wanted minus place text None = if takes_terms wanted && not (is_hypothesis text) then Some (start.Name record { name = text; place = place }) else None

abbrev pub name_start : Want → Bool → Place → List ℕ → Option Start
name_start want.Given minus place text = lone_name place text
name_start want.Free minus place text = if is_free text then lone_name place text else None
name_start wanted minus place text = name_or_word wanted minus place text (word_of text)

abbrev pub parenthesis_form : Want → Bool → Form
parenthesis_form wanted minus = if takes_formulas wanted && not minus then form.Parenthesis else form.TermParenthesis

abbrev pub bracket_start : Want → Place → Option Start
bracket_start want.Path place = Some (start.Path place)
bracket_start wanted place = if takes_terms wanted then Some (start.Open opening.List form.List class.Term place) else None

abbrev pub mark_start : Want → Bool → Place → Punctuator → Option Start
mark_start wanted minus place p.OpenParen = if takes_terms wanted then Some (start.Open opening.Parenthesis (parenthesis_form wanted minus) class.Term place) else None
mark_start wanted minus place p.OpenBracket = bracket_start wanted place
mark_start wanted minus place rest = None

abbrev pub start_at : Want → Bool → Place → List ℕ → TokenKind → Option Start
start_at wanted minus place text k.Name = name_start wanted minus place text
start_at wanted minus place text (k.Literal type value) = if takes_terms wanted then Some (start.Alone (written.Literal value place) class.Term) else None
start_at wanted minus place text (k.Punctuator mark) = mark_start wanted minus place mark
start_at wanted minus place text rest = None

abbrev pub start_of : Want → Bool → Token → Option Start
start_of wanted minus t = start_at wanted minus t.place t.text t.kind
