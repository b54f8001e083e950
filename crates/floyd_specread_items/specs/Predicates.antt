-- The body of a PRED, from the token of a number on, where no bracket is open before it.
--
--   body  = assertion | cases
--   cases = pat "=>" assertion { "|" pat "=>" assertion }
--
-- Each assertion has no temporaries. It is read among the arguments, and in a case among the pattern's variables besides, which
-- hide arguments. What has the form of a pattern up to "=>" begins cases. A PRED calls itself on parts of its first argument
-- alone; without cases there are none.
use Rattle.std.specs.Prelude.{ℕ, List, [], ◌∷◌}
use Rattle.floyd_lex.specs.declared.kinds.Punctuator.TheVariants as p
use Rattle.floyd_lex.specs.Token.{TokenList}
use Rattle.floyd_cparse_trees.specs.declared.types.Identifier.{Identifier}
use Rattle.floyd_assert_trees.specs.declared.assertion.Assertion.{Assertion}
use Rattle.floyd_assert_trees.specs.declared.binder.Binder.{Binder}
use Rattle.floyd_assert_trees.specs.declared.items.PredBody.{PredBody}
use Rattle.floyd_assert_trees.specs.declared.items.PredBody.TheVariants.{Whole, Cases}
use Rattle.floyd_assert_trees.specs.declared.items.PredCase.{PredCase}
use Rattle.floyd_assert_trees.specs.declared.pattern.Pattern.{Pattern}
use Rattle.floyd_predicates.specs.Calls.{parts_of}
use Rattle.floyd_termread_tokens.specs.Tokens.{is_mark}
use Rattle.floyd_termread_scope.specs.Scopes.{Env}
use Rattle.floyd_termread_phrases.specs.Reads.{Reads, pure, ◌>>=◌, ◌>>◌}
use Rattle.floyd_termread_marks.specs.Marks.{chosen, mark}
use Rattle.floyd_termread_assertions.specs.Assertions.{under}
use Rattle.floyd_specread_words.specs.Many.{Many}
use Rattle.floyd_specread_patterns.specs.Binders.{pattern_binders}
use Rattle.floyd_specread_patterns.specs.Patterns.{pattern, is_pattern}
use Rattle.floyd_specread_items.specs.Bodies.{judged_body}

abbrev pub case_of : Pattern → Assertion → PredCase
case_of which a = record { pattern = which; body = a }

module _ (bytes : List ℕ) (list : TokenList) (own : Identifier) (arguments : List Binder) (env : Env) where
  abbrev pub whole_body : Reads Assertion
  whole_body = judged_body bytes list own [] (under arguments env)

  abbrev pub case_body : Pattern → Reads Assertion
  case_body which = judged_body bytes list own (parts_of which) (under (pattern_binders arguments which) (under arguments env))

  abbrev pub pred_case : Reads PredCase
  pred_case = do
    which ← pattern bytes list
    _ ← mark bytes list 0 p.FatArrow
    a ← case_body which
    pure (case_of which a)

  -- a case behind others
  abbrev pub next_case : List PredCase → Reads PredCase
  next_case cases = mark bytes list 0 p.Bar >> pred_case

  abbrev pub more_cases : PredCase → Reads (List PredCase)
  more_cases first = Many bytes list (is_mark p.Bar) next_case (first ∷ [])

  abbrev pub pred_cases : Reads PredBody
  pred_cases = do
    first ← pred_case
    cases ← more_cases first
    pure (Cases cases)

  abbrev pub whole : Reads PredBody
  whole = whole_body >>= λ a. pure (Whole a)

  abbrev pub pred_body : Reads PredBody
  pred_body at = chosen (is_pattern bytes list at) pred_cases whole at
