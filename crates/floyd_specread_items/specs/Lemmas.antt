-- What stands behind the name of a LEMMA, from the token of a number on, where no bracket is open before it.
--
--   lemma = ["WITH" binders] "PROP" fs "SEP" parts "GIVES" body
--   body  = ["EX" binders "."] "PROP" fs "SEP" parts
--
-- Both sides are read among the variables of WITH.
use Rattle.std.specs.Prelude.{ℕ, List, []}
use Rattle.floyd_lex.specs.Token.{TokenList}
use Rattle.floyd_assert_trees.specs.declared.assertion.Assertion.{Assertion}
use Rattle.floyd_assert_trees.specs.declared.binder.Binder.{Binder}
use Rattle.floyd_termread_scope.specs.Scopes.{Env}
use Rattle.floyd_termread_phrases.specs.Reads.{Reads, pure, ◌>>=◌}
use Rattle.floyd_termread_assertions.specs.Assertions.{under}
use Rattle.floyd_specread_words.specs.declared.words.SpecWord.TheVariants as w
use Rattle.floyd_specread_words.specs.Words.{word}
use Rattle.floyd_specread_specs.specs.Specifications.{with_binders}
use Rattle.floyd_specread_items.specs.Bodies.{plain_rest, plain_body}
use Rattle.floyd_specread_items.specs.declared.lemmas.LemmaText.{LemmaText}

abbrev pub lemma_of : List Binder → Assertion → Assertion → LemmaText
lemma_of xs left right = record { with = xs; left = left; right = right }

module _ (bytes : List ℕ) (list : TokenList) where
  -- behind the variables of WITH
  abbrev pub sides : List Binder → Env → Reads LemmaText
  sides xs env = do
    left ← plain_rest bytes list [] env
    _ ← word bytes list 0 w.Gives
    right ← plain_body bytes list env
    pure (lemma_of xs left right)

  abbrev pub lemma : Env → Reads LemmaText
  lemma env = with_binders bytes list >>= λ xs. sides xs (under xs env)
