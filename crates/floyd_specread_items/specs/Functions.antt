-- The body of a FUN, from the token of a number on, where no bracket is open before it.
--
--   body  = term | cases
--   cases = pat "=>" term { "|" pat "=>" term }
--
-- Each term has the sort of the result. It is read among the arguments, and in a case among the pattern's variables besides,
-- which hide arguments. What has the form of a pattern up to "=>" begins cases. A FUN calls itself on parts of its first
-- argument alone; without cases there are none.
use Rattle.std.specs.Prelude.{ℕ, List, [], ◌∷◌, Some}
use Rattle.floyd_lex.specs.declared.kinds.Punctuator.TheVariants as p
use Rattle.floyd_lex.specs.Token.{TokenList}
use Rattle.floyd_cparse_trees.specs.declared.types.Identifier.{Identifier}
use Rattle.floyd_tree.specs.Plain.{Plain}
use Rattle.floyd_assert_trees.specs.declared.binder.Binder.{Binder}
use Rattle.floyd_assert_trees.specs.declared.items.FunBody.{FunBody}
use Rattle.floyd_assert_trees.specs.declared.items.FunBody.TheVariants.{Whole, Cases}
use Rattle.floyd_assert_trees.specs.declared.items.FunCase.{FunCase}
use Rattle.floyd_assert_trees.specs.declared.pattern.Pattern.{Pattern}
use Rattle.floyd_predicates.specs.Calls.{parts_of}
use Rattle.floyd_termread_tokens.specs.Tokens.{is_mark}
use Rattle.floyd_termread_scope.specs.Scopes.{Env}
use Rattle.floyd_termread_phrases.specs.Reads.{Reads, pure, ◌>>=◌, ◌>>◌}
use Rattle.floyd_termread_phrases.specs.Phrases as phrase
use Rattle.floyd_termread_marks.specs.Marks.{chosen, mark}
use Rattle.floyd_termread_assertions.specs.Assertions.{under}
use Rattle.floyd_specread_words.specs.Many.{Many}
use Rattle.floyd_specread_patterns.specs.Binders.{pattern_binders}
use Rattle.floyd_specread_patterns.specs.Patterns.{pattern, is_pattern}
use Rattle.floyd_specread_recursion.specs.Structural.{structural}
use Rattle.floyd_specread_items.specs.declared.heads.FunHead.{FunHead}

abbrev pub case_of : Pattern → Plain → FunCase
case_of which t = record { pattern = which; term = t }

module _ (bytes : List ℕ) (list : TokenList) (own : Identifier) (head : FunHead) (env : Env) where
  -- the result, among these variables, where these names are the parts
  abbrev pub result_among : List Binder → List (List ℕ) → Reads Plain
  result_among xs parts = structural bytes list own parts (phrase.term bytes list 0 (under xs (under head.arguments env)) (Some head.result))

  abbrev pub whole_result : Reads Plain
  whole_result = result_among [] []

  abbrev pub case_result : Pattern → Reads Plain
  case_result which = result_among (pattern_binders head.arguments which) (parts_of which)

  abbrev pub fun_case : Reads FunCase
  fun_case = do
    which ← pattern bytes list
    _ ← mark bytes list 0 p.FatArrow
    t ← case_result which
    pure (case_of which t)

  -- a case behind others
  abbrev pub next_case : List FunCase → Reads FunCase
  next_case cases = mark bytes list 0 p.Bar >> fun_case

  abbrev pub more_cases : FunCase → Reads (List FunCase)
  more_cases first = Many bytes list (is_mark p.Bar) next_case (first ∷ [])

  abbrev pub fun_cases : Reads FunBody
  fun_cases = do
    first ← fun_case
    cases ← more_cases first
    pure (Cases cases)

  abbrev pub whole : Reads FunBody
  whole = whole_result >>= λ t. pure (Whole t)

  abbrev pub fun_body : Reads FunBody
  fun_body at = chosen (is_pattern bytes list at) fun_cases whole at
