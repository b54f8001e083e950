-- The words of the grammar of specifications. No name that a specification or a script gives may be one.
use Rattle.std.specs.Prelude.{ℕ, List, [], ◌∷◌, Bool, true, false, not, ◌&&◌, ◌==◌, nat_le, if◌then◌else◌, Option, Some, None, codes, length}
use Rattle.std.specs.List.{list_all}
use Rattle.std.specs.Str.{bytes_eq}
use Prim.Native.String.{String}
use Rattle.floyd_int.specs.declared.kinds.IntKind.TheVariants.{I8, U8, I16, U16, I32, U32, I64, U64}
use Rattle.floyd_tree_sorts.specs.declared.operators.Operator.TheVariants as o
use Rattle.floyd_termread_trees.specs.declared.words.Word.{Word}
use Rattle.floyd_termread_trees.specs.declared.words.Word.TheVariants as w
use Rattle.floyd_termread_trees.specs.declared.words.SortWord.TheVariants as s
use Rattle.floyd_termread_trees.specs.declared.words.TypeWord.TheVariants as y
use Rattle.floyd_termread_trees.specs.declared.words.FormulaWord.TheVariants as f
use Rattle.floyd_termread_trees.specs.declared.words.TermWord.TheVariants as t

-- a word with its text
abbrev pub WordText : Type 0
WordText = String × Word

-- those of sorts
abbrev pub sort_words : List WordText
sort_words =
    ("Z", w.Sort s.Z) ∷ ("val", w.Sort s.Val) ∷ ("list", w.Sort s.List) ∷ ("tree", w.Sort s.Tree) ∷
    ("prod", w.Sort s.Prod) ∷ []

-- those of types
abbrev pub type_words : List WordText
type_words =
    ("void", w.Type y.Void) ∷ ("char", w.Type (y.Int I8)) ∷ ("uchar", w.Type (y.Int U8)) ∷
    ("short", w.Type (y.Int I16)) ∷ ("ushort", w.Type (y.Int U16)) ∷ ("int", w.Type (y.Int I32)) ∷
    ("uint", w.Type (y.Int U32)) ∷ ("long", w.Type (y.Int I64)) ∷ ("ulong", w.Type (y.Int U64)) ∷
    ("ptr", w.Type y.Ptr) ∷ ("struct", w.Type y.Struct) ∷ ("array", w.Type y.Array) ∷ ("fn", w.Type y.Fn) ∷ []

-- those of formulas
abbrev pub formula_words : List WordText
formula_words =
    ("or", w.Formula f.Or) ∷ ("and", w.Formula f.And) ∷ ("not", w.Formula f.Not) ∷
    ("forall", w.Formula f.Forall) ∷ ("exists", w.Formula f.Exists) ∷ ("True", w.Formula f.True) ∷
    ("False", w.Formula f.False) ∷ ("isptr", w.Formula f.IsPtr) ∷ ("defined", w.Formula f.Defined) ∷
    ("hasty", w.Formula f.Hasty) ∷ ("compatible", w.Formula f.Compatible) ∷ ("func_ptr", w.Formula f.FuncPtr) ∷ []

-- those of the built-in operators on values, lists and trees
abbrev pub value_words : List WordText
value_words =
    ("Vundef", w.Term (t.Operator o.Vundef)) ∷ ("Vint", w.Term (t.Operator o.Vint)) ∷
    ("Vlong", w.Term (t.Operator o.Vlong)) ∷ ("nullval", w.Term (t.Operator o.Nullval)) ∷
    ("ptr_add", w.Term (t.Operator o.PtrAdd)) ∷ ("vints", w.Term (t.Operator o.Vints)) ∷
    ("vlongs", w.Term (t.Operator o.Vlongs)) ∷ ("fst", w.Term (t.Operator o.Fst)) ∷
    ("snd", w.Term (t.Operator o.Snd)) ∷ ("len", w.Term (t.Operator o.Len)) ∷
    ("nth", w.Term (t.Operator o.Nth)) ∷ ("upd", w.Term (t.Operator o.Upd)) ∷
    ("rev", w.Term (t.Operator o.Rev)) ∷ ("sum", w.Term (t.Operator o.Sum)) ∷
    ("sublist", w.Term (t.Operator o.Sublist)) ∷ ("repeat", w.Term (t.Operator o.Repeat)) ∷
    ("Node", w.Term (t.Operator o.Node)) ∷ []

-- those of those on numbers
abbrev pub number_words : List WordText
number_words =
    ("quot", w.Term (t.Operator o.Quot)) ∷ ("rem", w.Term (t.Operator o.Rem)) ∷
    ("band", w.Term (t.Operator o.Band)) ∷ ("bor", w.Term (t.Operator o.Bor)) ∷
    ("bxor", w.Term (t.Operator o.Bxor)) ∷ ("bnot", w.Term (t.Operator o.Bnot)) ∷
    ("shl", w.Term (t.Operator o.Shl)) ∷ ("shr", w.Term (t.Operator o.Shr)) ∷
    ("eqz", w.Term (t.Operator o.Eqz)) ∷ ("ltz", w.Term (t.Operator o.Ltz)) ∷
    ("lez", w.Term (t.Operator o.Lez)) ∷ ("eqv", w.Term (t.Operator o.Eqv)) ∷ []

-- those of terms besides
abbrev pub other_term_words : List WordText
other_term_words =
    ("nil", w.Term t.Nil) ∷ ("Leaf", w.Term t.Leaf) ∷ ("gv", w.Term t.Gv) ∷ ("lv", w.Term t.Lv) ∷
    ("signed", w.Term t.Signed) ∷ ("unsigned", w.Term t.Unsigned) ∷ ("default", w.Term t.Default) ∷ []

-- those of items and specifications
abbrev pub item_words : List WordText
item_words =
    ("IMPORT", w.Item) ∷ ("FUN", w.Item) ∷ ("PRED", w.Item) ∷ ("LEMMA", w.Item) ∷ ("WITH", w.Item) ∷
    ("GIVES", w.Item) ∷ ("SPEC", w.Item) ∷ ("DECLARE", w.Item) ∷ ("EXTERN", w.Item) ∷ ("PRE", w.Item) ∷
    ("POST", w.Item) ∷ ("MAIN_PRE", w.Item) ∷ []

-- those of assertions and parts
abbrev pub assertion_words : List WordText
assertion_words =
    ("EX", w.Item) ∷ ("PROP", w.Item) ∷ ("LOCAL", w.Item) ∷ ("SEP", w.Item) ∷ ("PARAMS", w.Item) ∷
    ("GLOBALS", w.Item) ∷ ("RETURN", w.Item) ∷ ("temp", w.Item) ∷ ("data_at", w.Item) ∷ ("data_at_", w.Item) ∷
    ("field_at", w.Item) ∷ ("padding", w.Item) ∷ ("valid", w.Item) ∷ ("TT", w.Item) ∷ []

-- the word of a table that the text is
abbrev pub word_in : List WordText → List ℕ → Option Word
word_in [] text = None
word_in (x ∷ xs) text = if bytes_eq text (codes x.0) then Some x.1 else word_in xs text

abbrev pub or_else : Option Word → Option Word → Option Word
or_else (Some word) other = Some word
or_else None other = other

-- the word that a text is, if it is one
unfoldable pub word_of : List ℕ → Option Word
word_of text = or_else (word_in sort_words text) (or_else (word_in type_words text) (or_else (word_in formula_words text) (or_else (word_in value_words text) (or_else (word_in number_words text) (or_else (word_in other_term_words text) (or_else (word_in item_words text) (word_in assertion_words text)))))))

abbrev pub is_digit : ℕ → Bool
is_digit b = nat_le 48 b && nat_le b 57

-- `H` and digits alone, as the hypotheses of a goal are called
abbrev pub is_hypothesis : List ℕ → Bool
is_hypothesis [] = false
is_hypothesis (b ∷ bs) = b == 72 && nat_le 1 (length bs) && list_all is_digit bs

-- it is no word, and not what a hypothesis is called
abbrev pub is_free_word : Option Word → Bool
is_free_word None = true
is_free_word (Some word) = false

abbrev pub is_free : List ℕ → Bool
is_free text = is_free_word (word_of text) && not (is_hypothesis text)
