-- Assertions in the arguments of a command, from the token of a number on.
--
--   loop = "(" assertion ")" ["continue" "(" assertion ")"] "break" "(" assertion ")"
use Rattle.std.specs.Prelude.{ℕ, Bool, ◌&&◌, List, [], ◌∷◌, codes, bytes_eq, Option, Some, None}
use Rattle.floyd_text.specs.declared.place.Place.{Place}
use Rattle.floyd_lex.specs.declared.kinds.Punctuator.TheVariants as p
use Rattle.floyd_lex.specs.Token.{Token, TokenList}
use Rattle.floyd_assert_trees.specs.declared.assertion.Assertion.{Assertion}
use Rattle.floyd_goal_trees.specs.declared.args.Args.{Args}
use Rattle.floyd_termread_tokens.specs.Tokens.{is_mark, is_name, place_if}
use Rattle.floyd_termread_scope.specs.Scopes.{Env}
use Rattle.floyd_termread_phrases.specs.Reads.{Reads, pure, ◌>>=◌}
use Rattle.floyd_termread_marks.specs.Marks.{if_next, mark, one}
use Rattle.floyd_termread_assertions.specs.Assertions.{assertion}
use Rattle.floyd_play_arguments.specs.Arguments as plain

abbrev pub with_assertions : List Assertion → Args
with_assertions all = record plain.no_args { assertions = all }

abbrev pub is_text : List ℕ → Token → Bool
is_text text t = is_name t && bytes_eq t.text text

-- those between the invariant and what follows a loop
abbrev pub around : Assertion → Option Assertion → Assertion → List Assertion
around a None q = a ∷ q ∷ []
around a (Some c) q = a ∷ c ∷ q ∷ []

module _ (bytes : List ℕ) (list : TokenList) where
  abbrev pub word : List ℕ → Reads Place
  word text = one bytes list 0 (λ t. place_if (is_text text t) t)

  module _ (env : Env) where
    -- "(" assertion ")"
    abbrev pub one_assertion : Reads Assertion
    one_assertion = do
      _ ← mark bytes list 0 p.OpenParen
      a ← assertion bytes list 1 env
      _ ← mark bytes list 1 p.CloseParen
      pure a

    -- "continue" "(" assertion ")"
    abbrev pub between : Reads (Option Assertion)
    between = do
      _ ← word (codes "continue")
      c ← one_assertion
      pure (Some c)

    abbrev pub maybe_between : Reads (Option Assertion)
    maybe_between = if_next bytes list (is_text (codes "continue")) between (pure None)

    abbrev pub loop_assertions : Reads Args
    loop_assertions = do
      a ← one_assertion
      c ← maybe_between
      _ ← word (codes "break")
      q ← one_assertion
      pure (with_assertions (around a c q))

    abbrev pub enclosed_assertion : Reads Args
    enclosed_assertion = one_assertion >>= λ a. pure (with_assertions (a ∷ []))

    abbrev pub maybe_assertion : Reads Args
    maybe_assertion = if_next bytes list (is_mark p.OpenParen) enclosed_assertion (pure plain.no_args)
