use Rattle.std.proofs.Common.{◌+◌, ◌*◌, ◌-◌, length}
use Rattle.floyd_lex.specs.declared.kinds.Punctuator.TheVariants as p
use Rattle.floyd_grammar.proofs.Turns.{Turning}
use Rattle.floyd_cparse_tokens.specs.Tokens.{is_mark}
use Rattle.floyd_cparse_types.specs.Types.{latest}
use Rattle.floyd_cparse_expressions.specs.Expressions.{goes_on_unary, plus_argument, plus_target}
use Rattle.floyd_cparse_expressions.specs.ExpressionClauses.{nested, begins_assignment, assignment, chain, is_infix, join, operators, one_postfix, postfixes, argument_list}
use Rattle.floyd_cparse_expressions.specs.declared.values.Operand.{Operand}
use Rattle.floyd_cparse_expressions.proofs.OperatorShrinks.{next_operand}
use Rattle.floyd_cparse_expressions.proofs.PostfixShrinks.{next_argument}
use Rattle.floyd_cparse_expressions.proofs.read_expressions.+expressions.Given as goal

abbrev pub decreases-read_expr : goal.decreases-read_expr
decreases-read_expr l = 40 * l.room

abbrev pub decreases-read_inner_conditional : goal.decreases-read_inner_conditional
decreases-read_inner_conditional l = 40 * l.room

abbrev pub decreases-read_chain : goal.decreases-read_chain
decreases-read_chain l = 40 * l.room + 30

abbrev pub decreases-read_conditional : goal.decreases-read_conditional
decreases-read_conditional l = 40 * l.room + 29

abbrev pub decreases-read_unary : goal.decreases-read_unary
decreases-read_unary l = 40 * l.room + 11

abbrev pub decreases-read_operand : goal.decreases-read_operand
decreases-read_operand l = 40 * l.room + 10

abbrev pub decreases-read_postfixes : goal.decreases-read_postfixes
decreases-read_postfixes l = 40 * l.room + 8

abbrev pub decreases-read_postfix : goal.decreases-read_postfix
decreases-read_postfix l = 40 * l.room + 7

abbrev pub decreases-read_arguments : goal.decreases-read_arguments
decreases-read_arguments l = 40 * l.room + 5

abbrev pub decreases-read_argument_list : goal.decreases-read_argument_list
decreases-read_argument_list l = 40 * l.room + 4

abbrev pub decreases-read_operators : goal.decreases-read_operators
decreases-read_operators l = 40 * l.room + 12 + l.level

abbrev pub invariant-read_chain-each : goal.invariant-read_chain-each
invariant-read_chain-each l = Turning begins_assignment plus_target (assignment l.types l.room (nested l.types l.room) l.comma) l.chain l.reader (chain l.types l.room (nested l.types l.room) l.comma l.count l.fn.reader)

abbrev pub decreases-read_chain-each : goal.decreases-read_chain-each
decreases-read_chain-each l = length l.reader

abbrev pub invariant-read_operators-each : goal.invariant-read_operators-each
invariant-read_operators-each l = Turning (λ _. is_infix l.level) join (next_operand l.types l.room l.level (l.level - 1)) l.left l.reader (operators l.types l.room (nested l.types l.room) l.level l.count l.fn.reader)

abbrev pub decreases-read_operators-each : goal.decreases-read_operators-each
decreases-read_operators-each l = length l.reader

abbrev pub invariant-read_postfixes-each : goal.invariant-read_postfixes-each
invariant-read_postfixes-each l = Turning (λ (x : Operand). goes_on_unary x.end) latest (one_postfix l.types l.room (nested l.types l.room)) l.operand l.reader (postfixes l.types l.room (nested l.types l.room) l.fn.first l.fn.reader)

abbrev pub decreases-read_postfixes-each : goal.decreases-read_postfixes-each
decreases-read_postfixes-each l = length l.reader

abbrev pub invariant-read_argument_list-each : goal.invariant-read_argument_list-each
invariant-read_argument_list-each l = Turning (λ _. is_mark p.Comma) plus_argument (next_argument l.types l.room) l.all l.reader (argument_list l.types l.room (nested l.types l.room) l.count l.fn.reader)

abbrev pub decreases-read_argument_list-each : goal.decreases-read_argument_list-each
decreases-read_argument_list-each l = length l.reader

abbrev pub decreases-read_index : goal.decreases-read_index
decreases-read_index l = 40 * l.room + 5

abbrev pub decreases-read_call : goal.decreases-read_call
decreases-read_call l = 40 * l.room + 6

abbrev pub decreases-read_parenthesised : goal.decreases-read_parenthesised
decreases-read_parenthesised l = 40 * l.room + 9
