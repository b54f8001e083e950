use Rattle.std.proofs.Common.{◌+◌, ◌-◌, pred, Ok, Err, refl, sym, ◌∙◌}
use Rattle.floyd_lex.specs.declared.kinds.Punctuator.TheVariants as p
use Rattle.floyd_grammar.specs.ParseClauses.{one, pure, folded, ◌>>=◌}
use Rattle.floyd_cparse_expressions.specs.declared.values.Assigning.{Assigning}
use Rattle.floyd_cparse_expressions.specs.declared.values.Comma.TheVariants as comma
use Rattle.floyd_cparse_expressions.specs.declared.values.Infix.{Infix}
use Rattle.floyd_cparse_expressions.specs.declared.values.Operand.{Operand}
use Rattle.floyd_cparse_tokens.specs.Tokens.{is_mark}
use Rattle.floyd_cparse_expressions.specs.Expressions.{Whole, Conditional, infix_token, assign_token, argument_comma, plus_argument, first_argument, chain_operand, goes_on_unary}
use Rattle.floyd_cparse_expressions.specs.ExpressionClauses.{nested, chain, conditional, assignment, operators, one_postfix, postfixes, argument_list, is_infix, join}
use Rattle.floyd_grammar.proofs.Turns.{turning}
use Rattle.floyd_cparse_types.specs.Types.{latest}
use Rattle.floyd_cparse_tokens.proofs.ReadLemmas.{gives_next, gives_fault, gives_then, gives_not, gives_from, gives_init}
use Rattle.floyd_cparse_expressions.proofs.PostfixShrinks.{next_argument, next_argument_eats, one_postfix_eats}
use Rattle.floyd_cparse_expressions.proofs.OperatorShrinks.{next_operand, next_operand_eats, assignment_eats, operators_none, operators_some}
use Rattle.floyd_cparse_expressions.proofs.NestedReading.{nested_none, nested_whole, nested_conditional}
use Rattle.floyd_cparse_expressions.proofs.read_expressions.+expressions.Goals as goal

pub read_expr-returns-then-room-eq0 : goal.read_expr-returns-then-room-eq0
read_expr-returns-then-room-eq0 t c = rw (nested_none c.args.types.now c.args.room Whole c.args.comma c.args.count c.if-room-eq0.true) c.refuse_without_room.ensures

pub read_expr-returns-in_err-chain : goal.read_expr-returns-in_err-chain
read_expr-returns-in_err-chain t c =
    rw (nested_whole c.args.types.now c.args.room c.args.comma c.args.count c.if-room-eq0.false)
    (gives_from c.from_residual.result c.in_err-chain.field-0.0 c.read_chain.new.reader _ c.from_residual.ensures.1
    (gives_not (chain c.args.types.now (c.args.room - 1) (nested c.args.types.now (c.args.room - 1)) c.args.comma c.args.count) (λ all. pure (chain_operand all)) c.args.reader.now c.read_chain.new.reader c.in_err-chain.field-0.0 c.in_err-chain.ensures))

pub read_inner_conditional-returns-then-room-eq0 : goal.read_inner_conditional-returns-then-room-eq0
read_inner_conditional-returns-then-room-eq0 t c = rw (nested_none c.args.types.now c.args.room Conditional c.args.comma c.args.count c.if-room-eq0.true) c.refuse_without_room.ensures

pub read_inner_conditional-returns : goal.read_inner_conditional-returns
read_inner_conditional-returns t c = rw (nested_conditional c.args.types.now c.args.room c.args.comma c.args.count c.if-room-eq0.false) c.read_conditional.ensures

pub read_operators-returns-then-level-eq0 : goal.read_operators-returns-then-level-eq0
read_operators-returns-then-level-eq0 t c = rw (operators_none c.args.types.now c.args.room c.args.level c.args.count c.if-level-eq0.true) c.read_unary.ensures

pub read_operators-returns-in_err-left : goal.read_operators-returns-in_err-left
read_operators-returns-in_err-left t c =
    rw (operators_some c.args.types.now c.args.room c.args.level c.args.count c.if-level-eq0.false)
    (gives_from c.from_residual.result c.in_err-left.field-0.0 c.read_operators.new.reader _ c.from_residual.ensures.1
    (gives_not (operators c.args.types.now c.args.room (nested c.args.types.now c.args.room) (c.args.level - 1) c.args.count) (folded (λ _. is_infix c.args.level) join (next_operand c.args.types.now c.args.room c.args.level (c.args.level - 1))) c.args.reader.now c.read_operators.new.reader c.in_err-left.field-0.0 c.in_err-left.ensures))

pub read_operators-each-init : goal.read_operators-each-init
read_operators-each-init t c =
    rw (operators_some c.args.types.now c.args.room c.args.level c.args.count c.if-level-eq0.false)
    (gives_init (λ _. is_infix c.args.level) join (next_operand c.args.types.now c.args.room c.args.level (c.args.level - 1)) (λ (x : Operand). x) (operators c.args.types.now c.args.room (nested c.args.types.now c.args.room) (c.args.level - 1) c.args.count) c.in_ok-left.left c.args.reader.now c.read_operators.new.reader c.in_ok-left.ensures)

pub read_operators-each-smaller : goal.read_operators-each-smaller
read_operators-each-smaller t c =
    (next_operand_eats c.args.types.now c.args.room c.args.level (c.args.level - 1) c.each.left).law c.each.reader (c.in_ok-op.op, c.in_ok-right.right) c.read_operators-in-each.new.reader
    (gives_then (one (infix_token c.args.room c.args.level c.each.left)) (λ (op : Infix). operators c.args.types.now c.args.room (nested c.args.types.now c.args.room) (c.args.level - 1) (c.each.left.end.count + 1) >>= λ (right : Operand). pure (op, right)) c.in_ok-op.op c.each.reader c.take_infix.new.reader c.read_operators-in-each.new.reader (Ok (c.in_ok-op.op, c.in_ok-right.right)) c.in_ok-op.ensures.value
    (gives_then (operators c.args.types.now c.args.room (nested c.args.types.now c.args.room) (c.args.level - 1) (c.each.left.end.count + 1)) (λ (right : Operand). pure (c.in_ok-op.op, right)) c.in_ok-right.right c.take_infix.new.reader c.read_operators-in-each.new.reader c.read_operators-in-each.new.reader (Ok (c.in_ok-op.op, c.in_ok-right.right)) c.in_ok-right.ensures refl))

pub read_operators-each-preserved : goal.read_operators-each-preserved
read_operators-each-preserved t c =
    rw c.in_ok-left-2.ensures
    (gives_next c.each.invariant (next_operand_eats c.args.types.now c.args.room c.args.level (c.args.level - 1) c.each.left) (sym c.leads_infix.ensures ∙ c.each-test.true) (c.in_ok-op.op, c.in_ok-right.right) c.read_operators-in-each.new.reader
    (gives_then (one (infix_token c.args.room c.args.level c.each.left)) (λ (op : Infix). operators c.args.types.now c.args.room (nested c.args.types.now c.args.room) (c.args.level - 1) (c.each.left.end.count + 1) >>= λ (right : Operand). pure (op, right)) c.in_ok-op.op c.each.reader c.take_infix.new.reader c.read_operators-in-each.new.reader (Ok (c.in_ok-op.op, c.in_ok-right.right)) c.in_ok-op.ensures.value
    (gives_then (operators c.args.types.now c.args.room (nested c.args.types.now c.args.room) (c.args.level - 1) (c.each.left.end.count + 1)) (λ (right : Operand). pure (c.in_ok-op.op, right)) c.in_ok-right.right c.take_infix.new.reader c.read_operators-in-each.new.reader c.read_operators-in-each.new.reader (Ok (c.in_ok-op.op, c.in_ok-right.right)) c.in_ok-right.ensures refl)))

pub read_chain-each-smaller : goal.read_chain-each-smaller
unfolding assignment
read_chain-each-smaller t c =
    (assignment_eats c.args.types.now c.args.room c.args.comma c.each.chain).law c.each.reader (c.in_ok-by.by, c.in_ok-value.value) c.read_conditional-in-each.new.reader
    (gives_then (one (assign_token c.args.room c.each.chain)) (λ (by : Assigning). conditional c.args.types.now c.args.room (nested c.args.types.now c.args.room) c.args.comma (c.each.chain.last.end.count + 1) >>= λ (value : Operand). pure (by, value)) c.in_ok-by.by c.each.reader c.take_assign.new.reader c.read_conditional-in-each.new.reader (Ok (c.in_ok-by.by, c.in_ok-value.value)) c.in_ok-by.ensures.value
    (gives_then (conditional c.args.types.now c.args.room (nested c.args.types.now c.args.room) c.args.comma (c.each.chain.last.end.count + 1)) (λ (value : Operand). pure (c.in_ok-by.by, value)) c.in_ok-value.value c.take_assign.new.reader c.read_conditional-in-each.new.reader c.read_conditional-in-each.new.reader (Ok (c.in_ok-by.by, c.in_ok-value.value)) c.in_ok-value.ensures refl))

pub read_chain-each-preserved : goal.read_chain-each-preserved
unfolding assignment
read_chain-each-preserved t c =
    rw c.in_ok-chain.ensures
    (gives_next c.each.invariant (assignment_eats c.args.types.now c.args.room c.args.comma c.each.chain) (sym c.leads_assignment.ensures ∙ c.each-test.true) (c.in_ok-by.by, c.in_ok-value.value) c.read_conditional-in-each.new.reader
    (gives_then (one (assign_token c.args.room c.each.chain)) (λ (by : Assigning). conditional c.args.types.now c.args.room (nested c.args.types.now c.args.room) c.args.comma (c.each.chain.last.end.count + 1) >>= λ (value : Operand). pure (by, value)) c.in_ok-by.by c.each.reader c.take_assign.new.reader c.read_conditional-in-each.new.reader (Ok (c.in_ok-by.by, c.in_ok-value.value)) c.in_ok-by.ensures.value
    (gives_then (conditional c.args.types.now c.args.room (nested c.args.types.now c.args.room) c.args.comma (c.each.chain.last.end.count + 1)) (λ (value : Operand). pure (c.in_ok-by.by, value)) c.in_ok-value.value c.take_assign.new.reader c.read_conditional-in-each.new.reader c.read_conditional-in-each.new.reader (Ok (c.in_ok-by.by, c.in_ok-value.value)) c.in_ok-value.ensures refl)))

pub read_postfixes-each-smaller : goal.read_postfixes-each-smaller
read_postfixes-each-smaller t c = (one_postfix_eats c.args.types.now c.args.room c.each.operand).law c.each.reader c.in_ok-operand.operand c.read_postfix.new.reader c.in_ok-operand.ensures

pub read_postfixes-each-preserved : goal.read_postfixes-each-preserved
read_postfixes-each-preserved t c =
    gives_next c.each.invariant (one_postfix_eats c.args.types.now c.args.room c.each.operand) (sym c.leads_postfix.ensures ∙ c.each-test.true) c.in_ok-operand.operand c.read_postfix.new.reader c.in_ok-operand.ensures

pub read_argument_list-each-init : goal.read_argument_list-each-init
unfolding argument_list
read_argument_list-each-init t c =
    rw c.in_ok-all.ensures
    (gives_init (λ _. is_mark p.Comma) plus_argument (next_argument c.args.types.now c.args.room) first_argument (nested c.args.types.now c.args.room Whole comma.Separates c.args.count) c.in_ok-first.first c.args.reader.now c.read_expr.new.reader c.in_ok-first.ensures)

pub read_argument_list-each-smaller : goal.read_argument_list-each-smaller
read_argument_list-each-smaller t c =
    (next_argument_eats c.args.types.now c.args.room c.each.all).law c.each.reader c.in_ok-next.next c.read_expr-in-each.new.reader
    (gives_then (one (argument_comma (pred c.args.room) c.each.all)) (λ _. nested c.args.types.now c.args.room Whole comma.Separates c.each.all.end.count) c.in_ok-take_argument_comma.field-0 c.each.reader c.take_argument_comma.new.reader c.read_expr-in-each.new.reader (Ok c.in_ok-next.next) (rw (← c.inside.ensures) c.in_ok-take_argument_comma.ensures) c.in_ok-next.ensures)

pub read_argument_list-each-preserved : goal.read_argument_list-each-preserved
read_argument_list-each-preserved t c =
    rw c.in_ok-all-2.ensures
    (gives_next c.each.invariant (next_argument_eats c.args.types.now c.args.room c.each.all) (sym c.leads_mark.ensures ∙ c.each-test.true) c.in_ok-next.next c.read_expr-in-each.new.reader
    (gives_then (one (argument_comma (pred c.args.room) c.each.all)) (λ _. nested c.args.types.now c.args.room Whole comma.Separates c.each.all.end.count) c.in_ok-take_argument_comma.field-0 c.each.reader c.take_argument_comma.new.reader c.read_expr-in-each.new.reader (Ok c.in_ok-next.next) (rw (← c.inside.ensures) c.in_ok-take_argument_comma.ensures) c.in_ok-next.ensures))

pub read_chain-returns-in_err-by : goal.read_chain-returns-in_err-by
unfolding assignment
read_chain-returns-in_err-by t c =
    gives_from c.from_residual-in_err-by.result c.in_err-by.field-0.0 c.take_assign.new.reader _ c.from_residual-in_err-by.ensures.1
    (gives_fault c.each.invariant (sym c.leads_assignment.ensures ∙ c.each-test.true) c.in_err-by.field-0.0 c.take_assign.new.reader
    (gives_not (one (assign_token c.args.room c.each.chain)) (λ (by : Assigning). conditional c.args.types.now c.args.room (nested c.args.types.now c.args.room) c.args.comma (c.each.chain.last.end.count + 1) >>= λ (value : Operand). pure (by, value)) c.each.reader c.take_assign.new.reader c.in_err-by.field-0.0 c.in_err-by.ensures.value))

pub read_chain-returns-in_err-value : goal.read_chain-returns-in_err-value
unfolding assignment
read_chain-returns-in_err-value t c =
    gives_from c.from_residual-in_err-value.result c.in_err-value.field-0.0 c.read_conditional-in-each.new.reader _ c.from_residual-in_err-value.ensures.1
    (gives_fault c.each.invariant (sym c.leads_assignment.ensures ∙ c.each-test.true) c.in_err-value.field-0.0 c.read_conditional-in-each.new.reader
    (gives_then (one (assign_token c.args.room c.each.chain)) (λ (by : Assigning). conditional c.args.types.now c.args.room (nested c.args.types.now c.args.room) c.args.comma (c.each.chain.last.end.count + 1) >>= λ (value : Operand). pure (by, value)) c.in_ok-by.by c.each.reader c.take_assign.new.reader c.read_conditional-in-each.new.reader (Err c.in_err-value.field-0.0) c.in_ok-by.ensures.value
    (gives_not (conditional c.args.types.now c.args.room (nested c.args.types.now c.args.room) c.args.comma (c.each.chain.last.end.count + 1)) (λ (value : Operand). pure (c.in_ok-by.by, value)) c.take_assign.new.reader c.read_conditional-in-each.new.reader c.in_err-value.field-0.0 c.in_err-value.ensures)))

pub read_postfixes-each-init : goal.read_postfixes-each-init
unfolding postfixes
read_postfixes-each-init t c = turning (λ (x : Operand). goes_on_unary x.end) latest (one_postfix c.args.types.now c.args.room (nested c.args.types.now c.args.room)) c.args.first c.args.reader.now
