-- Whether the cases of a FUN or PRED differ from one for each constructor of its first argument, from the token behind its name
-- on. The item is read by the grammar alone, up to its `;`; where it does not read so, nothing is said of its cases.
use Rattle.std.specs.Prelude.{◌≡◌, ℕ, Bool, false, not, List, [], ◌∷◌, Ok, Err}
use Rattle.floyd_lex.specs.declared.kinds.Punctuator.TheVariants as p
use Rattle.floyd_lex.specs.Token.{TokenList}
use Rattle.floyd_assert_trees.specs.declared.binder.Binder.{Binder}
use Rattle.floyd_assert_trees.specs.declared.pattern.Pattern.{Pattern}
use Rattle.floyd_predicates.specs.WellFormed.{of_first}
use Rattle.floyd_termread_tables.specs.declared.values.Want.TheVariants as want
use Rattle.floyd_termread_tokens.specs.Tokens.{is_mark}
use Rattle.floyd_termread_phrases.specs.Reads.{Answer, Reads, pure, ◌>>=◌, ◌>>◌}
use Rattle.floyd_termread_marks.specs.declared.words.AssertionWord.{AssertionWord}
use Rattle.floyd_termread_marks.specs.declared.words.AssertionWord.TheVariants as a
use Rattle.floyd_termread_marks.specs.Marks.{chosen, mark, word}
use Rattle.floyd_termread_assertions.specs.Existentials.{existentials}
use Rattle.floyd_specread_words.specs.Many.{Many}
use Rattle.floyd_specread_skims.specs.declared.lists.Skimmed.{Skimmed}
use Rattle.floyd_specread_skims.specs.declared.lists.Skimmed.TheVariants as s
use Rattle.floyd_specread_skims.specs.Skims.{Skims, list_of, phrase}
use Rattle.floyd_specread_patterns.specs.Patterns.{pattern, is_pattern}
use Rattle.floyd_specread_items.specs.Heads.{fun_head, pred_head}
use Rattle.floyd_specread_cases.specs.declared.forms.CaseForm.{CaseForm}
use Rattle.floyd_specread_cases.specs.declared.forms.CaseForm.TheVariants.{OfTerms, OfAssertions}

-- what the reading tells; nothing where there is none
abbrev pub told : Answer Bool → Bool
told (Ok read) = read.0
told (Err refusal) = false

-- what is told of the item from that token on
abbrev pub Tells : Reads Bool → ℕ → Bool → Type 0
Tells form at differ = (answer : Answer Bool) × form at answer × (differ ≡ told answer)

module _ (bytes : List ℕ) (list : TokenList) where
  -- a word with a list behind it
  abbrev pub worded_list : AssertionWord → Skimmed → Skims
  worded_list which what = word bytes list 0 which >> list_of bytes list 0 p.Semicolon what

  -- ["EX" binders "."] "PROP" fs "SEP" parts
  abbrev pub assertion_form : Skims
  assertion_form = existentials bytes list 0 >> (worded_list a.Prop s.Formula >> worded_list a.Sep s.Part)

  abbrev pub body_form : CaseForm → Skims
  body_form OfTerms = phrase bytes list 0 want.Term
  body_form OfAssertions = assertion_form

  -- pat "=>" body
  abbrev pub case_form : CaseForm → Reads Pattern
  case_form form = do
    which ← pattern bytes list
    _ ← mark bytes list 0 p.FatArrow
    _ ← body_form form
    pure which

  -- a case behind others
  abbrev pub next_form : CaseForm → List Pattern → Reads Pattern
  next_form form patterns = mark bytes list 0 p.Bar >> case_form form

  abbrev pub more_forms : CaseForm → Pattern → Reads (List Pattern)
  more_forms form first = Many bytes list (is_mark p.Bar) (next_form form) (first ∷ [])

  abbrev pub cases_form : CaseForm → Reads (List Pattern)
  cases_form form = case_form form >>= more_forms form

  abbrev pub cases_differ : List Binder → CaseForm → Reads Bool
  cases_differ xs form = cases_form form >>= λ patterns. pure (not (of_first xs patterns))

  -- without cases none differ
  abbrev pub whole_form : CaseForm → Reads Bool
  whole_form form = body_form form >> pure false

  abbrev pub body_differs : List Binder → CaseForm → Reads Bool
  body_differs xs form at = chosen (is_pattern bytes list at) (cases_differ xs form) (whole_form form) at

  abbrev pub item_differs : List Binder → CaseForm → Reads Bool
  item_differs xs form = do
    differ ← body_differs xs form
    _ ← mark bytes list 0 p.Semicolon
    pure differ

  abbrev pub fun_form : Reads Bool
  fun_form = fun_head bytes list >>= λ head. item_differs head.arguments OfTerms

  abbrev pub pred_form : Reads Bool
  pred_form = pred_head bytes list >>= λ xs. item_differs xs OfAssertions

  abbrev pub FunCasesDiffer : ℕ → Bool → Type 0
  FunCasesDiffer = Tells fun_form

  abbrev pub PredCasesDiffer : ℕ → Bool → Type 0
  PredCasesDiffer = Tells pred_form
