-- Parts of memory have one answer.
use Rattle.std.proofs.Common.{ℕ, ◌+◌, List, [], length, Option, Some, None, sym, ◌∙◌}
use Rattle.std.specs.Prelude.{option_map, bytes_eq}
use Rattle.std.specs.Map.{lookup}
use Rattle.floyd_text.specs.declared.place.Place.{Place}
use Rattle.floyd_lex.specs.declared.kinds.Punctuator.TheVariants as p
use Rattle.floyd_lex.specs.Token.{TokenList}
use Rattle.floyd_tree_sorts.specs.declared.sorts.Sort.{Sort, Z, Val}
use Rattle.floyd_tree.specs.Plain.{Plain}
use Rattle.floyd_tree.specs.Types.{SizedType}
use Rattle.floyd_tree_values.specs.Defaults.{value_sort}
use Rattle.floyd_fieldpath.specs.Nested.{type_at}
use Rattle.floyd_assert_trees.specs.declared.items.Pred.{Pred}
use Rattle.floyd_assert_trees.specs.declared.sep.Sep.TheVariants as sep
use Rattle.floyd_termread_tokens.specs.Tokens.{free_name}
use Rattle.floyd_termread_scope.specs.Scopes.{Env}
use Rattle.floyd_termread_wants.specs.Refusals.{unknown, ill_sorted}
use Rattle.floyd_termread_phrases.specs.Reads.{pure}
use Rattle.floyd_termread_phrases.specs.Phrases as phrase
use Rattle.floyd_termread_phrases.specs.Laws.{OneAnswer}
use Rattle.floyd_termread_marks.specs.declared.words.AssertionWord.{AssertionWord}
use Rattle.floyd_termread_marks.specs.declared.words.AssertionWord.TheVariants as word
use Rattle.floyd_termread_marks.specs.Marks.{begins_type, place_at, found_in, part_word, tokens_at}
use Rattle.floyd_termread_marks.specs.Marks as marks
use Rattle.floyd_termread_parts.specs.Objects.{given, sixteen, object_of, sort_at, path_if, is_struct_type}
use Rattle.floyd_termread_parts.specs.Objects as objects
use Rattle.floyd_termread_parts.specs.Parts as parts
use Rattle.floyd_termread_laws.proofs.Chains.{pure_once, in_turn, then, given_once, checked_once, if_next_once, one_once, mark_once, word_once, term_once, type_once, path_once}
use Rattle.floyd_termread_laws.proofs.Lists.{listed_once}

module _ (bytes : List ℕ) (list : TokenList) (depth : ℕ) (env : Env) where
  -- of what a part speaks
  share_once : OneAnswer (objects.share bytes list depth env)
  share_once =
      if_next_once bytes list begins_type (pure sixteen) _ (pure_once sixteen)
      (in_turn (phrase.term bytes list depth env (Some Z)) _ (λ t. then (marks.mark bytes list depth p.Comma) (pure t) (mark_once bytes list depth p.Comma) (pure_once t)) (term_once bytes list depth env (Some Z)))

  object_once : (sh : Plain) → OneAnswer (objects.object bytes list depth env sh)
  object_once sh at =
      in_turn (phrase.type_name bytes list depth env) (λ t. given (ill_sorted (place_at bytes list at)) (option_map (object_of sh t) (value_sort env.defs.structs t.shape)))
      (λ t. given_once (ill_sorted (place_at bytes list at)) (option_map (object_of sh t) (value_sort env.defs.structs t.shape))) (type_once bytes list depth env) at

  value_path_once : (t : SizedType) → OneAnswer (objects.value_path bytes list depth env t)
  value_path_once t at =
      in_turn (phrase.path bytes list depth env) (λ path. given (ill_sorted (place_at bytes list at)) (option_map (λ (s : Sort). (path, s)) (sort_at env.defs.structs t path)))
      (λ path. given_once (ill_sorted (place_at bytes list at)) (option_map (λ (s : Sort). (path, s)) (sort_at env.defs.structs t path))) (path_once bytes list depth env) at

  struct_path_once : (t : SizedType) → OneAnswer (objects.struct_path bytes list depth env t)
  struct_path_once t at =
      in_turn (phrase.path bytes list depth env) (λ path. given (ill_sorted (place_at bytes list at)) (path_if (is_struct_type (type_at env.defs.structs t path)) path))
      (λ path. given_once (ill_sorted (place_at bytes list at)) (path_if (is_struct_type (type_at env.defs.structs t path)) path)) (path_once bytes list depth env) at

module _ (bytes : List ℕ) (list : TokenList) (depth : ℕ) (env : Env) where
  opened_once : OneAnswer (parts.opened bytes list depth env)
  opened_once =
      then (marks.mark bytes list depth p.OpenParen) _ (mark_once bytes list depth p.OpenParen)
      (in_turn (objects.share bytes list (depth + 1) env) (objects.object bytes list (depth + 1) env) (object_once bytes list (depth + 1) env) (share_once bytes list (depth + 1) env))

  argument_once : (expected : Option Sort) → OneAnswer (parts.argument bytes list depth env expected)
  argument_once expected = then (marks.mark bytes list (depth + 1) p.Comma) (phrase.term bytes list (depth + 1) env expected) (mark_once bytes list (depth + 1) p.Comma) (term_once bytes list (depth + 1) env expected)

  value_path_behind : (t : SizedType) → OneAnswer (parts.value_path bytes list depth env t)
  value_path_behind t = then (marks.mark bytes list (depth + 1) p.Comma) (objects.value_path bytes list (depth + 1) env t) (mark_once bytes list (depth + 1) p.Comma) (value_path_once bytes list (depth + 1) env t)

  struct_path_behind : (t : SizedType) → OneAnswer (parts.struct_path bytes list depth env t)
  struct_path_behind t = then (marks.mark bytes list (depth + 1) p.Comma) (objects.struct_path bytes list (depth + 1) env t) (mark_once bytes list (depth + 1) p.Comma) (struct_path_once bytes list (depth + 1) env t)

  last_once : OneAnswer (parts.last bytes list depth env)
  last_once =
      in_turn (parts.argument bytes list depth env (Some Val)) _ (λ root. then (marks.mark bytes list (depth + 1) p.CloseParen) (pure root) (mark_once bytes list (depth + 1) p.CloseParen) (pure_once root)) (argument_once (Some Val))

  data_at_once : OneAnswer (parts.data_at bytes list depth env)
  data_at_once =
      in_turn (parts.opened bytes list depth env) _ (λ o. in_turn (parts.argument bytes list depth env (Some o.sort)) _ (λ v. in_turn (parts.last bytes list depth env) _ (λ root. pure_once (sep.FieldAt (parts.region o [] root) v)) last_once) (argument_once (Some o.sort))) opened_once

  data_at_default_once : (place : Place) → OneAnswer (parts.data_at_default bytes list depth env place)
  data_at_default_once place =
      in_turn (parts.opened bytes list depth env) _
      (λ o. in_turn (parts.last bytes list depth env) _ (λ root. in_turn (parts.checked (parts.default_value place o)) _ (λ v. pure_once (sep.FieldAt (parts.region o [] root) v)) (checked_once (parts.default_value place o))) last_once) opened_once

  field_at_once : OneAnswer (parts.field_at bytes list depth env)
  field_at_once =
      in_turn (parts.opened bytes list depth env) _
      (λ o. in_turn (parts.value_path bytes list depth env o.ty) _
      (λ n. in_turn (parts.argument bytes list depth env (Some n.1)) _ (λ v. in_turn (parts.last bytes list depth env) _ (λ root. pure_once (sep.FieldAt (parts.region o n.0 root) v)) last_once) (argument_once (Some n.1))) (value_path_behind o.ty)) opened_once

  padding_once : OneAnswer (parts.padding bytes list depth env)
  padding_once =
      in_turn (parts.opened bytes list depth env) _
      (λ o. in_turn (parts.struct_path bytes list depth env o.ty) _ (λ path. in_turn (parts.last bytes list depth env) _ (λ root. pure_once (sep.Padding (parts.region o path root))) last_once) (struct_path_behind o.ty)) opened_once

  valid_once : OneAnswer (parts.valid bytes list depth env)
  valid_once =
      in_turn (marks.mark bytes list depth p.OpenParen) _
      (λ x. in_turn (parts.term bytes list depth env (Some Val)) _ (λ v. in_turn (marks.mark bytes list (depth + 1) p.CloseParen) _ (λ y. pure_once (sep.Valid v)) (mark_once bytes list (depth + 1) p.CloseParen)) (term_once bytes list (depth + 1) env (Some Val)))
      (mark_once bytes list depth p.OpenParen)

  arguments_once : (of : Pred) → OneAnswer (parts.arguments bytes list depth env of)
  arguments_once of = listed_once bytes list depth p.Comma (parts.argument_behind bytes list (depth + 1) env of) (λ xs. term_once bytes list (depth + 1) env (parts.argument_sort of (length xs)))

  counted_once : (of : Pred) → OneAnswer (parts.counted_arguments bytes list depth env of)
  counted_once of = in_turn (parts.arguments bytes list depth env of) (parts.so_many bytes list depth env (length of.arguments)) (λ xs at a b p q. p ∙ sym q) (arguments_once of)

  predicate_once : OneAnswer (parts.predicate bytes list depth env)
  predicate_once =
      in_turn (marks.one bytes list depth free_name) _
      (λ name. in_turn (given (unknown name) (lookup (bytes_eq name.name) env.defs.preds)) _
      (λ of. in_turn (parts.counted_arguments bytes list depth env of) _ (λ xs. pure_once (sep.Predicate name.name xs)) (counted_once of)) (given_once (unknown name) (lookup (bytes_eq name.name) env.defs.preds))) (one_once bytes list depth free_name)

  behind_once : (which : AssertionWord) (place : Place) → OneAnswer (parts.behind bytes list depth env which place)
  behind_once word.DataAt place = data_at_once
  behind_once word.DataAtDefault place = data_at_default_once place
  behind_once word.FieldAt place = field_at_once
  behind_once word.Padding place = padding_once
  behind_once word.Valid place = valid_once
  behind_once word.Anything place = pure_once sep.Anything
  behind_once word.Exists place = pure_once sep.Anything
  behind_once word.Prop place = pure_once sep.Anything
  behind_once word.Local place = pure_once sep.Anything
  behind_once word.Sep place = pure_once sep.Anything
  behind_once word.Temp place = pure_once sep.Anything

  part_by_once : (found : Option AssertionWord) → OneAnswer (parts.part_by bytes list depth env found)
  part_by_once None = predicate_once
  part_by_once (Some which) = in_turn (marks.word bytes list depth which) (parts.behind bytes list depth env which) (behind_once which) (word_once bytes list depth which)

  pub part_once : OneAnswer (parts.part bytes list depth env)
  part_once at = part_by_once (found_in part_word (tokens_at bytes list at)) at
