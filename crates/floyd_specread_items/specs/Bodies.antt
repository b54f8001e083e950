-- Assertions without temporaries, as PREDs, lemmas and locks have them, from the token of a number on, where no bracket is open
-- before it.
--
--   body = ["EX" binders "."] "PROP" fs "SEP" parts
use Rattle.std.specs.Prelude.{ℕ, List, []}
use Rattle.floyd_lex.specs.Token.{TokenList}
use Rattle.floyd_cparse_trees.specs.declared.types.Identifier.{Identifier}
use Rattle.floyd_tree.specs.Formulas.{PlainFormula}
use Rattle.floyd_assert_trees.specs.declared.assertion.Assertion.{Assertion}
use Rattle.floyd_assert_trees.specs.declared.binder.Binder.{Binder}
use Rattle.floyd_assert_trees.specs.declared.sep.Sep.{Sep}
use Rattle.floyd_predicates.specs.Calls.{unhidden}
use Rattle.floyd_termread_scope.specs.Scopes.{Env}
use Rattle.floyd_termread_phrases.specs.Reads.{Reads, pure, ◌>>=◌}
use Rattle.floyd_termread_assertions.specs.Assertions.{under, props, seps}
use Rattle.floyd_termread_assertions.specs.Existentials.{existentials}
use Rattle.floyd_specread_recursion.specs.Structural.{structural}

abbrev pub assertion_of : List Binder → List PlainFormula → List Sep → Assertion
assertion_of xs fs ps = record { existentials = xs; props = fs; locals = []; parts = ps }

module _ (bytes : List ℕ) (list : TokenList) where
  -- behind the existentials
  abbrev pub plain_rest : List Binder → Env → Reads Assertion
  plain_rest xs env = do
    fs ← props bytes list 0 env
    ps ← seps bytes list 0 env
    pure (assertion_of xs fs ps)

  abbrev pub plain_body : Env → Reads Assertion
  plain_body env = existentials bytes list 0 >>= λ xs. plain_rest xs (under xs env)

  -- with the calls of a PRED in it, which are to be on these parts; an existential of a part's name hides it
  abbrev pub judged_rest : Identifier → List (List ℕ) → List Binder → Env → Reads Assertion
  judged_rest own parts xs env = structural bytes list own (unhidden xs parts) (plain_rest xs env)

  abbrev pub judged_body : Identifier → List (List ℕ) → Env → Reads Assertion
  judged_body own parts env = existentials bytes list 0 >>= λ xs. judged_rest own parts xs (under xs env)
