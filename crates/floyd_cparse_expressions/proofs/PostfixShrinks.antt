-- Readers of postfix operators put no tokens back.
use Rattle.std.proofs.Common.{ℕ, ◌+◌, pred}
use Rattle.floyd_lex.specs.declared.kinds.Punctuator.TheVariants as p
use Rattle.floyd_grammar.specs.ParseClauses.{Parser, one, ◌>>◌}
use Rattle.floyd_cparse_expressions.specs.declared.values.Arguments.{Arguments}
use Rattle.floyd_cparse_expressions.specs.declared.values.Comma.TheVariants as comma
use Rattle.floyd_cparse_expressions.specs.declared.values.Operand.{Operand}
use Rattle.floyd_cparse_expressions.specs.declared.values.PostfixStart.{PostfixStart}
use Rattle.floyd_cparse_expressions.specs.declared.values.PostfixStart.TheVariants as postfix_start
use Rattle.floyd_cparse_tokens.specs.Tokens.{Sight, Types, is_mark}
use Rattle.floyd_cparse_types.specs.Types.{latest}
use Rattle.floyd_cparse_expressions.specs.Expressions.{Whole, goes_on_unary, postfix_token, argument_comma, arguments_end, no_arguments_end, index_end, field_token, plus_argument, first_argument}
use Rattle.floyd_cparse_expressions.specs.ExpressionClauses.{nested, postfixes, one_postfix, after_postfix_start, arguments, no_arguments, some_arguments, argument_list}
use Rattle.floyd_cparse_tokens.proofs.Shrinks.{Shrinks, Eats, shrinks, one_eats, pure_shrinks, then_shrinks, then_eats, either_shrinks, folded_shrinks}
use Rattle.floyd_cparse_expressions.proofs.PrefixShrinks.{nested_shrinks}

module _ (types : Types) (room : ℕ) where
  abbrev pub next_argument : Arguments → Parser Sight Operand
  next_argument all = one (argument_comma (pred room) all) >> nested types room Whole comma.Separates all.end.count

  pub next_argument_eats : (all : Arguments) → Eats (next_argument all)
  next_argument_eats all = then_eats (one_eats (argument_comma (pred room) all)) (λ _. nested_shrinks types room Whole comma.Separates all.end.count)

  arguments_shrinks : (count : ℕ) → Shrinks (arguments types room (nested types room) count)
  unfolding arguments no_arguments some_arguments argument_list
  arguments_shrinks count =
      either_shrinks (is_mark p.CloseParen)
      (then_shrinks (shrinks (one_eats no_arguments_end)) (λ _. pure_shrinks _))
      (then_shrinks
      (then_shrinks (nested_shrinks types room Whole comma.Separates count) (λ first. folded_shrinks (λ _. is_mark p.Comma) plus_argument next_argument (λ all. shrinks (next_argument_eats all)) (first_argument first)))
      (λ all. then_shrinks (shrinks (one_eats (arguments_end types (pred room) all))) (λ _. pure_shrinks all)))

  after_postfix_start_shrinks : (x : Operand) (z : PostfixStart) → Shrinks (after_postfix_start types room (nested types room) x z)
  unfolding after_postfix_start
  after_postfix_start_shrinks x (postfix_start.Index place) =
      then_shrinks (nested_shrinks types room Whole comma.Plain (x.end.count + 1)) (λ index. then_shrinks (shrinks (one_eats (index_end types (pred room) index))) (λ _. pure_shrinks _))
  after_postfix_start_shrinks x (postfix_start.Call place) = then_shrinks (arguments_shrinks (x.end.count + 1)) (λ all. pure_shrinks _)
  after_postfix_start_shrinks x (postfix_start.Member op place) = then_shrinks (shrinks (one_eats (field_token types room (x.end.count + 1)))) (λ field. pure_shrinks _)
  after_postfix_start_shrinks x (postfix_start.Step op place) = pure_shrinks _

  pub one_postfix_eats : (x : Operand) → Eats (one_postfix types room (nested types room) x)
  unfolding one_postfix
  one_postfix_eats x = then_eats (one_eats (postfix_token room x.end)) (after_postfix_start_shrinks x)

  pub postfixes_shrinks : (x : Operand) → Shrinks (postfixes types room (nested types room) x)
  unfolding postfixes
  postfixes_shrinks x = folded_shrinks (λ (x : Operand). goes_on_unary x.end) latest (one_postfix types room (nested types room)) (λ x. shrinks (one_postfix_eats x)) x
