-- Assertions have one answer.
use Rattle.std.proofs.Common.{ℕ, ◌+◌, List, [], Some}
use Rattle.floyd_lex.specs.declared.kinds.Punctuator.TheVariants as p
use Rattle.floyd_lex.specs.Token.{TokenList}
use Rattle.floyd_tree_sorts.specs.declared.sorts.Sort.{Val}
use Rattle.floyd_assert_trees.specs.declared.binder.Binder.{Binder}
use Rattle.floyd_assert_trees.specs.declared.assertion.Local.{Local}
use Rattle.floyd_termread_scope.specs.Scopes.{Env}
use Rattle.floyd_termread_phrases.specs.Reads.{pure, ◌>>◌}
use Rattle.floyd_termread_phrases.specs.Phrases as phrase
use Rattle.floyd_termread_phrases.specs.Laws.{OneAnswer}
use Rattle.floyd_termread_marks.specs.declared.words.AssertionWord.TheVariants as a
use Rattle.floyd_termread_marks.specs.Marks.{is_word, mark, word, one}
use Rattle.floyd_termread_assertions.specs.Assertions.{new_name, local_of, local_name, formula_behind, local_behind, part_behind, formulas, local_list, part_list, props, locals, seps, body, assertion, under}
use Rattle.floyd_termread_assertions.specs.Existentials.{existentials}
use Rattle.floyd_termread_laws.proofs.Chains.{pure_once, in_turn, then, if_next_once, one_once, mark_once, word_once, term_once, formula_once}
use Rattle.floyd_termread_laws.proofs.Lists.{listed_once}
use Rattle.floyd_termread_laws.proofs.Binders.{existentials_once}
use Rattle.floyd_termread_laws.proofs.Parts.{part_once}

module _ (bytes : List ℕ) (list : TokenList) (depth : ℕ) where
  local_name_once : (ls : List Local) → OneAnswer (local_name bytes list depth ls)
  local_name_once ls =
      in_turn (word bytes list depth a.Temp) _ (λ x. in_turn (one bytes list depth (new_name ls)) _ (λ i. in_turn (mark bytes list depth p.Equal) _ (λ y. pure_once i) (mark_once bytes list depth p.Equal)) (one_once bytes list depth (new_name ls))) (word_once bytes list depth a.Temp)

  local_once : (env : Env) (ls : List Local) → OneAnswer (local_behind bytes list depth env ls)
  local_once env ls =
      in_turn (local_name bytes list depth ls) _ (λ i. in_turn (phrase.term bytes list depth env (Some Val)) _ (λ t. pure_once (local_of i t)) (term_once bytes list depth env (Some Val))) (local_name_once ls)

module _ (bytes : List ℕ) (list : TokenList) (depth : ℕ) where
  props_once : (env : Env) → OneAnswer (props bytes list depth env)
  props_once env =
      then (word bytes list depth a.Prop) (formulas bytes list depth env) (word_once bytes list depth a.Prop)
      (listed_once bytes list depth p.Semicolon (formula_behind bytes list (depth + 1) env) (λ fs. formula_once bytes list (depth + 1) env))

  local_list_once : (env : Env) → OneAnswer (local_list bytes list depth env)
  local_list_once env = listed_once bytes list depth p.Semicolon (local_behind bytes list (depth + 1) env) (local_once bytes list (depth + 1) env)

  locals_once : (env : Env) → OneAnswer (locals bytes list depth env)
  locals_once env =
      if_next_once bytes list (is_word a.Local) (word bytes list depth a.Local >> local_list bytes list depth env) (pure [])
      (then (word bytes list depth a.Local) (local_list bytes list depth env) (word_once bytes list depth a.Local) (local_list_once env)) (pure_once [])

  seps_once : (env : Env) → OneAnswer (seps bytes list depth env)
  seps_once env =
      then (word bytes list depth a.Sep) (part_list bytes list depth env) (word_once bytes list depth a.Sep)
      (listed_once bytes list depth p.Semicolon (part_behind bytes list (depth + 1) env) (λ ps. part_once bytes list (depth + 1) env))

  body_once : (xs : List Binder) (env : Env) → OneAnswer (body bytes list depth xs env)
  body_once xs env =
      in_turn (props bytes list depth env) _
      (λ fs. in_turn (locals bytes list depth env) _
      (λ ls. in_turn (seps bytes list depth env) _ (λ ps. pure_once (record { existentials = xs; props = fs; locals = ls; parts = ps })) (seps_once env)) (locals_once env)) (props_once env)

  pub assertion_once : (env : Env) → OneAnswer (assertion bytes list depth env)
  assertion_once env = in_turn (existentials bytes list depth) (λ xs. body bytes list depth xs (under xs env)) (λ xs. body_once xs (under xs env)) (existentials_once bytes list depth)
