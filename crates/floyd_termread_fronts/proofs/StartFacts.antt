-- What an operand begins with that opens a bracket.
use Rattle.std.proofs.Common.{◌≡◌, ◌||◌, ◌&&◌, not, Bool, true, false, if◌then◌else◌, List, ℕ, refl, sym, ◌∙◌, ap, true≢false}
use Rattle.std.specs.Prelude.{Option, Some, None}
use Rattle.floyd_text.specs.declared.place.Place.{Place}
use Rattle.floyd_lex.specs.declared.kinds.Punctuator.{Punctuator}
use Rattle.floyd_lex.specs.declared.kinds.Punctuator.TheVariants as p
use Rattle.floyd_lex.specs.declared.kinds.TokenKind.{TokenKind}
use Rattle.floyd_lex.specs.declared.kinds.TokenKind.TheVariants as k
use Rattle.floyd_lex.specs.Token.{Token}
use Rattle.floyd_cparse_tokens.specs.Tokens.{is_mark_kind}
use Rattle.floyd_tree_sorts.specs.declared.operators.Operator.{Operator}
use Rattle.floyd_termread_trees.specs.declared.words.Word.{Word}
use Rattle.floyd_termread_trees.specs.declared.words.Word.TheVariants as w
use Rattle.floyd_termread_trees.specs.declared.words.TypeWord.{TypeWord}
use Rattle.floyd_termread_trees.specs.declared.words.TypeWord.TheVariants as y
use Rattle.floyd_termread_trees.specs.declared.words.FormulaWord.{FormulaWord}
use Rattle.floyd_termread_trees.specs.declared.words.FormulaWord.TheVariants as f
use Rattle.floyd_termread_trees.specs.declared.words.TermWord.{TermWord}
use Rattle.floyd_termread_trees.specs.declared.words.TermWord.TheVariants as t
use Rattle.floyd_termread_trees.specs.declared.written.Written.TheVariants as written
use Rattle.floyd_termread_tokens.specs.Tokens.{is_opening}
use Rattle.floyd_termread_tokens.specs.Words.{word_of, is_free, is_hypothesis}
use Rattle.floyd_termread_tables.specs.declared.values.Class.TheVariants as class
use Rattle.floyd_termread_tables.specs.declared.values.Form.TheVariants as form
use Rattle.floyd_termread_tables.specs.declared.values.Start.{Start}
use Rattle.floyd_termread_tables.specs.declared.values.Start.TheVariants as start
use Rattle.floyd_termread_tables.specs.declared.values.Want.{Want}
use Rattle.floyd_termread_tables.specs.declared.values.Want.TheVariants as want
use Rattle.floyd_termread_tables.specs.Tables.{takes_terms, takes_formulas, takes_types, is_constant, alone, term_start, formula_start, type_start, word_start, lone_name, name_or_word, name_start, mark_start, start_at, start_of}

abbrev pub opens : Start → Bool
opens (start.Open opening of is place) = true
opens (start.Path place) = true
opens rest = false

abbrev opened : Option Start → Bool
opened None = false
opened (Some x) = opens x

-- no choice of what opens nothing does
chosen : (b : Bool) (o : Option Start) → opened o ≡ false → opened (if b then o else None) ≡ false
chosen true o e = e
chosen false o e = refl

operator_opens : (b : Bool) (place : Place) (op : Operator) → opened (if b then alone (w.Term (t.Operator op)) place class.Term else Some (start.Word (w.Term (t.Operator op)) form.Terms class.Term place)) ≡ false
operator_opens true place op = refl
operator_opens false place op = refl

term_opens : (place : Place) (word : TermWord) → opened (term_start place word) ≡ false
term_opens place (t.Operator op) = operator_opens (is_constant op) place op
term_opens place t.Nil = refl
term_opens place t.Leaf = refl
term_opens place t.Gv = refl
term_opens place t.Lv = refl
term_opens place t.Signed = refl
term_opens place t.Unsigned = refl
term_opens place t.Default = refl

formula_opens : (place : Place) (word : FormulaWord) → opened (formula_start place word) ≡ false
formula_opens place f.True = refl
formula_opens place f.False = refl
formula_opens place f.IsPtr = refl
formula_opens place f.Defined = refl
formula_opens place f.Hasty = refl
formula_opens place f.Compatible = refl
formula_opens place f.FuncPtr = refl
formula_opens place rest = refl

type_opens : (place : Place) (word : TypeWord) → opened (type_start place word) ≡ false
type_opens place y.Void = refl
type_opens place (y.Int int) = refl
type_opens place y.Ptr = refl
type_opens place y.Struct = refl
type_opens place y.Array = refl
type_opens place y.Fn = refl

word_opens : (wanted : Want) (minus : Bool) (place : Place) (word : Word) → opened (word_start wanted minus place word) ≡ false
word_opens wanted minus place (w.Term word) = chosen (takes_terms wanted) (term_start place word) (term_opens place word)
word_opens wanted minus place (w.Formula word) = chosen (takes_formulas wanted && not minus) (formula_start place word) (formula_opens place word)
word_opens wanted minus place (w.Type word) = chosen (takes_types wanted) (type_start place word) (type_opens place word)
word_opens wanted minus place (w.Sort word) = refl
word_opens wanted minus place w.Item = refl

other_opens : (wanted : Want) (minus : Bool) (place : Place) (text : List ℕ) (o : Option Word) → opened (name_or_word wanted minus place text o) ≡ false
other_opens wanted minus place text (Some word) = word_opens wanted minus place word
other_opens wanted minus place text None = chosen (takes_terms wanted && not (is_hypothesis text)) (Some (start.Name record { name = text; place = place })) refl

name_opens : (wanted : Want) (minus : Bool) (place : Place) (text : List ℕ) → opened (name_start wanted minus place text) ≡ false
name_opens want.Given minus place text = refl
name_opens want.Free minus place text = chosen (is_free text) (lone_name place text) refl
name_opens want.Term minus place text = other_opens want.Term minus place text (word_of text)
name_opens want.Formula minus place text = other_opens want.Formula minus place text (word_of text)
name_opens want.Either minus place text = other_opens want.Either minus place text (word_of text)
name_opens want.Type minus place text = other_opens want.Type minus place text (word_of text)
name_opens want.Path minus place text = other_opens want.Path minus place text (word_of text)
name_opens (want.Steps at) minus place text = other_opens (want.Steps at) minus place text (word_of text)

mark_opens : (wanted : Want) (minus : Bool) (place : Place) (mark : Punctuator) → opened (mark_start wanted minus place mark) ≡ true → (is_mark_kind p.OpenParen (k.Punctuator mark) || is_mark_kind p.OpenBracket (k.Punctuator mark)) ≡ true
mark_opens wanted minus place p.OpenParen e = refl
mark_opens wanted minus place p.OpenBracket e = refl
mark_opens wanted minus place rest e = absurd (true≢false (sym e))

kind_opens : (wanted : Want) (minus : Bool) (place : Place) (text : List ℕ) (kind : TokenKind) → opened (start_at wanted minus place text kind) ≡ true → (is_mark_kind p.OpenParen kind || is_mark_kind p.OpenBracket kind) ≡ true
kind_opens wanted minus place text k.Name e = absurd (true≢false (sym e ∙ name_opens wanted minus place text))
kind_opens wanted minus place text (k.Literal type value) e = absurd (true≢false (sym e ∙ chosen (takes_terms wanted) (Some (start.Alone (written.Literal value place) class.Term)) refl))
kind_opens wanted minus place text (k.Punctuator mark) e = mark_opens wanted minus place mark e
kind_opens wanted minus place text (k.Keyword word) e = absurd (true≢false (sym e))
kind_opens wanted minus place text k.StringLiteral e = absurd (true≢false (sym e))

pub start_opens : (wanted : Want) (minus : Bool) (s : Token) (x : Start) → start_of wanted minus s ≡ Some x → opens x ≡ true → is_opening s ≡ true
start_opens wanted minus s x e o = kind_opens wanted minus s.place s.text s.kind (ap opened e ∙ o)
