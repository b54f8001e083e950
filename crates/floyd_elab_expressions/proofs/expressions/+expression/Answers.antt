use Rattle.std.proofs.Common.{length, refl, ap}
use Rattle.floyd_cparse_trees.specs.declared.expressions.BinaryOp.TheVariants as binary
use Rattle.floyd_elab_names.specs.Refusing.{◌>>=◌}
use Rattle.floyd_ctyping.specs.Expressions as judged
use Rattle.floyd_elab_expressions.specs.Behind.{onto}
use Rattle.floyd_elab_expressions.specs.Expressions.{expression as expression_lem, rvalue as rvalue_lem, with_prefixes as with_prefixes_lem, read, before_operator, prefix_operator, cast_to, before_member, member, nested_refusal, binary_operator, subscript}
use Rattle.floyd_elab_expressions.proofs.Naturals.{natural_read, natural_before_operator, natural_before_member, natural_prefix, natural_cast, natural_member, natural_refused, placed_binary, placed_indexed}
use Rattle.floyd_elab_expressions.proofs.Answering.{answers_as, answers_stopped, one_answers, one_halts, two_answer, first_halts, second_halts, natural_two}
use Rattle.floyd_elab_expressions.proofs.ExpressionLemmas.{as_parenthesised, as_prefixed, as_step, as_index, as_call, as_member, as_binary, as_conditional, as_assign, at_binary, at_index}
use Rattle.floyd_elab_expressions.proofs.PrefixLemmas.{as_bare, as_operator, as_step_before, as_cast, cast_stops}
use Rattle.floyd_elab_expressions.proofs.Branching.{logical_first, logical_pulling, logical_second, logical_ends, conditional_first, conditional_drawing, conditional_one, conditional_other, conditional_ends}
use Rattle.floyd_elab_expressions.proofs.Weights.{falls_parenthesised, falls_prefixed, falls_step, falls_index, falls_call, falls_member, falls_binary, falls_conditional, falls_assign}
use Rattle.floyd_elab_expressions.proofs.expressions.+expression.Goals as goal

pub rvalue-returns-in_err-a : goal.rvalue-returns-in_err-a
rvalue-returns-in_err-a t c =
    record { exact = one_halts _ (expression_lem c.args.names.now c.args.e.now) read natural_read c.args.out.now c.args.progress.now _ _ _ _ refl c.from_residual.ensures.1 c.in_err-a.ensures.exact }

pub rvalue-returns : goal.rvalue-returns
rvalue-returns t c =
    record { exact = one_answers _ (expression_lem c.args.names.now c.args.e.now) read natural_read c.args.out.now c.args.progress.now _ _ _ _ _ refl c.in_ok-a.ensures.exact c.read.ensures.exact }

pub expression-expression-requires : goal.expression-expression-requires
expression-expression-requires t c =
    (falls_parenthesised t c.args.e.now c.in-Parenthesised.inner c.get.result.now c.decreases c.in-Parenthesised.is c.get.ensures, tt)

pub expression-returns-in-Parenthesised : goal.expression-returns-in-Parenthesised
expression-returns-in-Parenthesised t c =
    record { exact = answers_as _ _ _ _ _ (ap (onto c.args.out.now) (as_parenthesised c.args.names.now c.args.e.now c.in-Parenthesised.inner c.get.result.now c.in-Parenthesised.is c.get.ensures c.args.progress.now)) c.expression.ensures.exact }

pub expression-with_prefixes-requires : goal.expression-with_prefixes-requires
expression-with_prefixes-requires t c =
    (falls_prefixed t c.args.e.now c.in-Prefixed.prefixes c.as_slice.result.now c.in-Prefixed.operand c.get-in-Prefixed.result.now c.decreases c.in-Prefixed.is c.as_slice.ensures c.get-in-Prefixed.ensures, tt)

pub expression-returns-in-Prefixed : goal.expression-returns-in-Prefixed
expression-returns-in-Prefixed t c =
    record { exact = answers_as _ _ _ _ _ (ap (onto c.args.out.now) (as_prefixed c.args.names.now c.args.e.now c.in-Prefixed.prefixes c.as_slice.result.now c.in-Prefixed.operand c.get-in-Prefixed.result.now c.in-Prefixed.is c.as_slice.ensures c.get-in-Prefixed.ensures c.args.progress.now)) c.with_prefixes.ensures.exact }

pub expression-expression-requires-in-PostfixStep : goal.expression-expression-requires-in-PostfixStep
expression-expression-requires-in-PostfixStep t c =
    (falls_step t c.args.e.now c.in-PostfixStep.operand c.get-in-PostfixStep.result.now _ c.in-PostfixStep.place c.decreases c.in-PostfixStep.is c.get-in-PostfixStep.ensures, tt)

pub expression-returns-in_err-a-in-PostfixStep : goal.expression-returns-in_err-a-in-PostfixStep
expression-returns-in_err-a-in-PostfixStep t c =
    record { exact = one_halts _ (expression_lem c.args.names.now c.get-in-PostfixStep.result.now) (λ a. nested_refusal (judged.nested_step c.in-PostfixStep.place a.operand) a) (natural_refused (judged.nested_step c.in-PostfixStep.place)) c.args.out.now c.args.progress.now _ _ _ _ (as_step c.args.names.now c.args.e.now c.in-PostfixStep.operand c.get-in-PostfixStep.result.now _ c.in-PostfixStep.place c.in-PostfixStep.is c.get-in-PostfixStep.ensures c.args.progress.now) c.from_residual.ensures.1 c.in_err-a-in-PostfixStep.ensures.exact }

pub expression-returns-in_ok-a-in-PostfixStep : goal.expression-returns-in_ok-a-in-PostfixStep
expression-returns-in_ok-a-in-PostfixStep t c =
    record { exact = one_answers _ (expression_lem c.args.names.now c.get-in-PostfixStep.result.now) (λ a. nested_refusal (judged.nested_step c.in-PostfixStep.place a.operand) a) (natural_refused (judged.nested_step c.in-PostfixStep.place)) c.args.out.now c.args.progress.now _ _ _ _ _ (as_step c.args.names.now c.args.e.now c.in-PostfixStep.operand c.get-in-PostfixStep.result.now _ c.in-PostfixStep.place c.in-PostfixStep.is c.get-in-PostfixStep.ensures c.args.progress.now) c.in_ok-a-in-PostfixStep.ensures.exact (c.refuse_step.ensures.exact _) }

pub expression-expression-requires-in-Call : goal.expression-expression-requires-in-Call
expression-expression-requires-in-Call t c =
    (falls_call t c.args.e.now c.in-Call.function c.get-in-Call.result.now c.in-Call.place c.in-Call.arguments c.decreases c.in-Call.is c.get-in-Call.ensures, tt)

pub expression-returns-in_err-a-in-Call : goal.expression-returns-in_err-a-in-Call
expression-returns-in_err-a-in-Call t c =
    record { exact = one_halts _ (expression_lem c.args.names.now c.get-in-Call.result.now) (λ a. nested_refusal (judged.nested_call c.in-Call.place (length c.in-Call.arguments) a.operand) a) (natural_refused (judged.nested_call c.in-Call.place (length c.in-Call.arguments))) c.args.out.now c.args.progress.now _ _ _ _ (as_call c.args.names.now c.args.e.now c.in-Call.function c.get-in-Call.result.now c.in-Call.place c.in-Call.arguments (length c.in-Call.arguments) c.in-Call.is c.get-in-Call.ensures refl c.args.progress.now) c.from_residual-in_err-a-in-Call.ensures.1 c.in_err-a-in-Call.ensures.exact }

pub expression-returns-in_ok-a-in-Call : goal.expression-returns-in_ok-a-in-Call
expression-returns-in_ok-a-in-Call t c =
    record { exact = one_answers _ (expression_lem c.args.names.now c.get-in-Call.result.now) (λ a. nested_refusal (judged.nested_call c.in-Call.place c.len.result a.operand) a) (natural_refused (judged.nested_call c.in-Call.place c.len.result)) c.args.out.now c.args.progress.now _ _ _ _ _ (as_call c.args.names.now c.args.e.now c.in-Call.function c.get-in-Call.result.now c.in-Call.place c.in-Call.arguments c.len.result c.in-Call.is c.get-in-Call.ensures c.len.ensures c.args.progress.now) c.in_ok-a-in-Call.ensures.exact (c.refuse_call.ensures.exact _ _) }

pub expression-expression-requires-in-Member : goal.expression-expression-requires-in-Member
expression-expression-requires-in-Member t c =
    (falls_member t c.args.e.now c.in-Member.operand c.get-in-Member.result.now c.in-Member.op c.in-Member.place c.in-Member.field c.decreases c.in-Member.is c.get-in-Member.ensures, tt)

pub expression-returns-in_err-a-in-Member : goal.expression-returns-in_err-a-in-Member
expression-returns-in_err-a-in-Member t c =
    record { exact = one_halts _ (expression_lem c.args.names.now c.get-in-Member.result.now) (λ a. before_member c.in-Member.op a >>= member c.in-Member.op c.in-Member.place c.in-Member.field) (natural_two (before_member c.in-Member.op) (member c.in-Member.op c.in-Member.place c.in-Member.field) (natural_before_member c.in-Member.op) (natural_member c.in-Member.op c.in-Member.place c.in-Member.field)) c.args.out.now c.args.progress.now _ _ _ _ (as_member c.args.names.now c.args.e.now c.in-Member.operand c.get-in-Member.result.now c.in-Member.op c.in-Member.place c.in-Member.field c.in-Member.is c.get-in-Member.ensures c.args.progress.now) c.from_residual-in_err-a-in-Member.ensures.1 c.in_err-a-in-Member.ensures.exact }

pub expression-returns-in_ok-a-in-Member : goal.expression-returns-in_ok-a-in-Member
expression-returns-in_ok-a-in-Member t c =
    record { exact = one_answers _ (expression_lem c.args.names.now c.get-in-Member.result.now) (λ a. before_member c.in-Member.op a >>= member c.in-Member.op c.in-Member.place c.in-Member.field) (natural_two (before_member c.in-Member.op) (member c.in-Member.op c.in-Member.place c.in-Member.field) (natural_before_member c.in-Member.op) (natural_member c.in-Member.op c.in-Member.place c.in-Member.field)) c.args.out.now c.args.progress.now _ _ _ _ _ (as_member c.args.names.now c.args.e.now c.in-Member.operand c.get-in-Member.result.now c.in-Member.op c.in-Member.place c.in-Member.field c.in-Member.is c.get-in-Member.ensures c.args.progress.now) c.in_ok-a-in-Member.ensures.exact (c.field_of_operand.ensures.exact) }

pub expression-expression-requires-in-Assign : goal.expression-expression-requires-in-Assign
expression-expression-requires-in-Assign t c =
    (falls_assign t c.args.e.now c.in-Assign.target c.get-in-Assign.result.now _ c.in-Assign.place _ c.decreases c.in-Assign.is c.get-in-Assign.ensures, tt)

pub expression-returns-in_err-a-in-Assign : goal.expression-returns-in_err-a-in-Assign
expression-returns-in_err-a-in-Assign t c =
    record { exact = one_halts _ (expression_lem c.args.names.now c.get-in-Assign.result.now) (λ a. nested_refusal (judged.nested_assignment c.in-Assign.place a.operand) a) (natural_refused (judged.nested_assignment c.in-Assign.place)) c.args.out.now c.args.progress.now _ _ _ _ (as_assign c.args.names.now c.args.e.now c.in-Assign.target c.get-in-Assign.result.now _ c.in-Assign.place _ c.in-Assign.is c.get-in-Assign.ensures c.args.progress.now) c.from_residual-in_err-a-in-Assign.ensures.1 c.in_err-a-in-Assign.ensures.exact }

pub expression-returns-in_ok-a-in-Assign : goal.expression-returns-in_ok-a-in-Assign
expression-returns-in_ok-a-in-Assign t c =
    record { exact = one_answers _ (expression_lem c.args.names.now c.get-in-Assign.result.now) (λ a. nested_refusal (judged.nested_assignment c.in-Assign.place a.operand) a) (natural_refused (judged.nested_assignment c.in-Assign.place)) c.args.out.now c.args.progress.now _ _ _ _ _ (as_assign c.args.names.now c.args.e.now c.in-Assign.target c.get-in-Assign.result.now _ c.in-Assign.place _ c.in-Assign.is c.get-in-Assign.ensures c.args.progress.now) c.in_ok-a-in-Assign.ensures.exact (c.refuse_assignment.ensures.exact _ _) }

pub expression-element-requires : goal.expression-element-requires
expression-element-requires t c =
    (falls_index t c.args.e.now c.in-Index.array c.get-in-Index.result.now c.in-Index.index c.get-in-Index-2.result.now c.in-Index.place c.decreases c.in-Index.is c.get-in-Index.ensures c.get-in-Index-2.ensures, tt)

pub expression-returns-in-Index : goal.expression-returns-in-Index
expression-returns-in-Index t c =
    record { exact = answers_as _ _ _ _ _ (ap (onto c.args.out.now) (as_index c.args.names.now c.args.e.now c.in-Index.array c.get-in-Index.result.now c.in-Index.place c.in-Index.index c.get-in-Index-2.result.now c.in-Index.is c.get-in-Index.ensures c.get-in-Index-2.ensures c.args.progress.now)) c.element.ensures.exact }

pub expression-operation-requires : goal.expression-operation-requires
expression-operation-requires t c =
    (falls_binary t c.args.e.now c.in-Binary.left c.get-in-Binary.result.now c.in-Binary.right c.get-in-Binary-2.result.now c.in-Binary.op c.in-Binary.place c.decreases c.in-Binary.is c.get-in-Binary.ensures c.get-in-Binary-2.ensures, tt)

pub expression-returns-in-Int : goal.expression-returns-in-Int
expression-returns-in-Int t c =
    record { exact = answers_as _ _ _ _ _ (ap (onto c.args.out.now) (as_binary c.args.names.now c.args.e.now c.in-Binary.left c.get-in-Binary.result.now c.in-Binary.op c.in-Binary.place c.in-Binary.right c.get-in-Binary-2.result.now (binary.Int c.in-Int.op) c.in-Binary.is c.get-in-Binary.ensures c.get-in-Binary-2.ensures c.in-Int.is c.args.progress.now)) c.operation.ensures.exact }

pub expression-logical-requires : goal.expression-logical-requires
expression-logical-requires t c =
    (falls_binary t c.args.e.now c.in-Binary.left c.get-in-Binary.result.now c.in-Binary.right c.get-in-Binary-2.result.now c.in-Binary.op c.in-Binary.place c.decreases c.in-Binary.is c.get-in-Binary.ensures c.get-in-Binary-2.ensures, tt)

pub expression-returns-in-And : goal.expression-returns-in-And
expression-returns-in-And t c =
    record { exact = answers_as _ _ _ _ _ (ap (onto c.args.out.now) (as_binary c.args.names.now c.args.e.now c.in-Binary.left c.get-in-Binary.result.now c.in-Binary.op c.in-Binary.place c.in-Binary.right c.get-in-Binary-2.result.now binary.And c.in-Binary.is c.get-in-Binary.ensures c.get-in-Binary-2.ensures c.in-And.is c.args.progress.now)) c.logical.ensures.exact }

pub expression-logical-requires-in-Or : goal.expression-logical-requires-in-Or
expression-logical-requires-in-Or t c =
    (falls_binary t c.args.e.now c.in-Binary.left c.get-in-Binary.result.now c.in-Binary.right c.get-in-Binary-2.result.now c.in-Binary.op c.in-Binary.place c.decreases c.in-Binary.is c.get-in-Binary.ensures c.get-in-Binary-2.ensures, tt)

pub expression-returns-in-Or : goal.expression-returns-in-Or
expression-returns-in-Or t c =
    record { exact = answers_as _ _ _ _ _ (ap (onto c.args.out.now) (as_binary c.args.names.now c.args.e.now c.in-Binary.left c.get-in-Binary.result.now c.in-Binary.op c.in-Binary.place c.in-Binary.right c.get-in-Binary-2.result.now binary.Or c.in-Binary.is c.get-in-Binary.ensures c.get-in-Binary-2.ensures c.in-Or.is c.args.progress.now)) c.logical-in-Or.ensures.exact }

pub expression-conditional-requires : goal.expression-conditional-requires
expression-conditional-requires t c =
    (falls_conditional t c.args.e.now c.in-Conditional.condition c.get-in-Conditional.result.now c.in-Conditional.then c.get-in-Conditional-2.result.now c.in-Conditional.otherwise c.get-in-Conditional-3.result.now c.in-Conditional.place c.decreases c.in-Conditional.is c.get-in-Conditional.ensures c.get-in-Conditional-2.ensures c.get-in-Conditional-3.ensures, tt)

pub expression-returns-in-Conditional : goal.expression-returns-in-Conditional
expression-returns-in-Conditional t c =
    record { exact = answers_as _ _ _ _ _ (ap (onto c.args.out.now) (as_conditional c.args.names.now c.args.e.now c.in-Conditional.condition c.get-in-Conditional.result.now c.in-Conditional.place c.in-Conditional.then c.get-in-Conditional-2.result.now c.in-Conditional.otherwise c.get-in-Conditional-3.result.now c.in-Conditional.is c.get-in-Conditional.ensures c.get-in-Conditional-2.ensures c.get-in-Conditional-3.ensures c.args.progress.now)) c.conditional.ensures.exact }

pub operation-returns-in_err-a : goal.operation-returns-in_err-a
operation-returns-in_err-a t c =
    record { exact = first_halts _ (rvalue_lem c.args.names.now c.args.parts.left.now) (rvalue_lem c.args.names.now c.args.parts.right.now) (binary_operator c.args.op c.args.parts.place) (placed_binary c.args.op c.args.parts.place) c.args.out.now c.args.progress.now _ _ _ _ (at_binary c.args.names.now c.args.parts.left.now c.args.op c.args.parts.place c.args.parts.right.now c.args.progress.now) c.from_residual.ensures.1 c.in_err-a.ensures.exact }

pub operation-returns-in_err-b : goal.operation-returns-in_err-b
operation-returns-in_err-b t c =
    record { exact = second_halts _ (rvalue_lem c.args.names.now c.args.parts.left.now) (rvalue_lem c.args.names.now c.args.parts.right.now) (binary_operator c.args.op c.args.parts.place) (placed_binary c.args.op c.args.parts.place) c.args.out.now c.args.progress.now _ _ _ _ _ _ (at_binary c.args.names.now c.args.parts.left.now c.args.op c.args.parts.place c.args.parts.right.now c.args.progress.now) c.in_ok-a.ensures.exact c.from_residual-in_err-b.ensures.1 c.in_err-b.ensures.exact }

pub operation-returns : goal.operation-returns
operation-returns t c =
    record { exact = two_answer _ (rvalue_lem c.args.names.now c.args.parts.left.now) (rvalue_lem c.args.names.now c.args.parts.right.now) (binary_operator c.args.op c.args.parts.place) (placed_binary c.args.op c.args.parts.place) c.args.out.now c.args.progress.now _ _ _ _ _ _ _ (at_binary c.args.names.now c.args.parts.left.now c.args.op c.args.parts.place c.args.parts.right.now c.args.progress.now) c.in_ok-a.ensures.exact c.in_ok-b.ensures.exact (c.binary_operator.ensures.exact _) }

pub element-returns-in_err-a : goal.element-returns-in_err-a
element-returns-in_err-a t c =
    record { exact = first_halts _ (rvalue_lem c.args.names.now c.args.parts.left.now) (rvalue_lem c.args.names.now c.args.parts.right.now) (subscript c.args.parts.place) (placed_indexed c.args.parts.place) c.args.out.now c.args.progress.now _ _ _ _ (at_index c.args.names.now c.args.parts.left.now c.args.parts.place c.args.parts.right.now c.args.progress.now) c.from_residual.ensures.1 c.in_err-a.ensures.exact }

pub element-returns-in_err-i : goal.element-returns-in_err-i
element-returns-in_err-i t c =
    record { exact = second_halts _ (rvalue_lem c.args.names.now c.args.parts.left.now) (rvalue_lem c.args.names.now c.args.parts.right.now) (subscript c.args.parts.place) (placed_indexed c.args.parts.place) c.args.out.now c.args.progress.now _ _ _ _ _ _ (at_index c.args.names.now c.args.parts.left.now c.args.parts.place c.args.parts.right.now c.args.progress.now) c.in_ok-a.ensures.exact c.from_residual-in_err-i.ensures.1 c.in_err-i.ensures.exact }

pub element-returns : goal.element-returns
element-returns t c =
    record { exact = two_answer _ (rvalue_lem c.args.names.now c.args.parts.left.now) (rvalue_lem c.args.names.now c.args.parts.right.now) (subscript c.args.parts.place) (placed_indexed c.args.parts.place) c.args.out.now c.args.progress.now _ _ _ _ _ _ _ (at_index c.args.names.now c.args.parts.left.now c.args.parts.place c.args.parts.right.now c.args.progress.now) c.in_ok-a.ensures.exact c.in_ok-i.ensures.exact (c.subscript.ensures.exact _) }

pub with_prefixes-returns-in_default : goal.with_prefixes-returns-in_default
with_prefixes-returns-in_default t c =
    record { exact = answers_as _ _ _ _ _ (ap (onto c.args.out.now) (as_bare c.args.names.now (expression_lem c.args.names.now c.args.operand.now) c.args.prefixes.now c.in_default.ensures.cases c.args.progress.now)) c.expression.ensures.exact }

pub with_prefixes-returns-in_err-a-in-Op : goal.with_prefixes-returns-in_err-a-in-Op
with_prefixes-returns-in_err-a-in-Op t c =
    record { exact = one_halts _ (with_prefixes_lem c.args.names.now c.in-Some.rest.now (expression_lem c.args.names.now c.args.operand.now)) (λ a. before_operator c.in-Op.op a >>= prefix_operator c.in-Op.op c.in-Op.place) (natural_two (before_operator c.in-Op.op) (prefix_operator c.in-Op.op c.in-Op.place) (natural_before_operator c.in-Op.op) (natural_prefix c.in-Op.op c.in-Op.place)) c.args.out.now c.args.progress.now _ _ _ _ (as_operator c.args.names.now (expression_lem c.args.names.now c.args.operand.now) c.args.prefixes.now c.in-Some.first.now c.in-Some.rest.now c.in-Op.op c.in-Op.place c.in-Some.ensures.cases.0 c.in-Op.is c.args.progress.now) c.from_residual.ensures.1 c.in_err-a-in-Op.ensures.exact }

pub with_prefixes-returns-in_ok-a-in-Op : goal.with_prefixes-returns-in_ok-a-in-Op
with_prefixes-returns-in_ok-a-in-Op t c =
    record { exact = one_answers _ (with_prefixes_lem c.args.names.now c.in-Some.rest.now (expression_lem c.args.names.now c.args.operand.now)) (λ a. before_operator c.in-Op.op a >>= prefix_operator c.in-Op.op c.in-Op.place) (natural_two (before_operator c.in-Op.op) (prefix_operator c.in-Op.op c.in-Op.place) (natural_before_operator c.in-Op.op) (natural_prefix c.in-Op.op c.in-Op.place)) c.args.out.now c.args.progress.now _ _ _ _ _ (as_operator c.args.names.now (expression_lem c.args.names.now c.args.operand.now) c.args.prefixes.now c.in-Some.first.now c.in-Some.rest.now c.in-Op.op c.in-Op.place c.in-Some.ensures.cases.0 c.in-Op.is c.args.progress.now) c.in_ok-a-in-Op.ensures.exact c.operator_of_operand.ensures.exact }

pub with_prefixes-returns-in_err-a-in-Step : goal.with_prefixes-returns-in_err-a-in-Step
with_prefixes-returns-in_err-a-in-Step t c =
    record { exact = one_halts _ (with_prefixes_lem c.args.names.now c.in-Some.rest.now (expression_lem c.args.names.now c.args.operand.now)) (λ a. nested_refusal (judged.nested_step c.in-Step.place a.operand) a) (natural_refused (judged.nested_step c.in-Step.place)) c.args.out.now c.args.progress.now _ _ _ _ (as_step_before c.args.names.now (expression_lem c.args.names.now c.args.operand.now) c.args.prefixes.now c.in-Some.first.now c.in-Some.rest.now _ c.in-Step.place c.in-Some.ensures.cases.0 c.in-Step.is c.args.progress.now) c.from_residual-in_err-a-in-Step.ensures.1 c.in_err-a-in-Step.ensures.exact }

pub with_prefixes-returns-in_ok-a-in-Step : goal.with_prefixes-returns-in_ok-a-in-Step
with_prefixes-returns-in_ok-a-in-Step t c =
    record { exact = one_answers _ (with_prefixes_lem c.args.names.now c.in-Some.rest.now (expression_lem c.args.names.now c.args.operand.now)) (λ a. nested_refusal (judged.nested_step c.in-Step.place a.operand) a) (natural_refused (judged.nested_step c.in-Step.place)) c.args.out.now c.args.progress.now _ _ _ _ _ (as_step_before c.args.names.now (expression_lem c.args.names.now c.args.operand.now) c.args.prefixes.now c.in-Some.first.now c.in-Some.rest.now _ c.in-Step.place c.in-Some.ensures.cases.0 c.in-Step.is c.args.progress.now) c.in_ok-a-in-Step.ensures.exact (c.refuse_step.ensures.exact _) }

pub with_prefixes-returns-in_err-t-in-Cast : goal.with_prefixes-returns-in_err-t-in-Cast
with_prefixes-returns-in_err-t-in-Cast t c =
    record { exact = answers_stopped _ _ _ _ _ c.from_residual-in_err-t-in-Cast.ensures.1 (cast_stops c.args.names.now (expression_lem c.args.names.now c.args.operand.now) c.args.out.now c.args.prefixes.now c.in-Some.first.now c.in-Some.rest.now c.in-Cast.n c.in-Cast.place c.in-Some.ensures.cases.0 c.in-Cast.is c.args.progress.now _ c.in_err-t-in-Cast.ensures.exact) }

pub with_prefixes-returns-in_err-a-in-Cast : goal.with_prefixes-returns-in_err-a-in-Cast
with_prefixes-returns-in_err-a-in-Cast t c =
    record { exact = one_halts _ (with_prefixes_lem c.args.names.now c.in-Some.rest.now (expression_lem c.args.names.now c.args.operand.now)) (λ a. read a >>= cast_to c.in-Cast.place c.in_ok-t-in-Cast.t) (natural_two read (cast_to c.in-Cast.place c.in_ok-t-in-Cast.t) natural_read (natural_cast c.in-Cast.place c.in_ok-t-in-Cast.t)) c.args.out.now c.cast_type.new.progress _ _ _ _ (as_cast c.args.names.now (expression_lem c.args.names.now c.args.operand.now) c.args.prefixes.now c.in-Some.first.now c.in-Some.rest.now c.in-Cast.n c.in-Cast.place c.in-Some.ensures.cases.0 c.in-Cast.is c.args.progress.now c.cast_type.new.progress c.in_ok-t-in-Cast.t c.in_ok-t-in-Cast.ensures.exact) c.from_residual-in_err-a-in-Cast.ensures.1 c.in_err-a-in-Cast.ensures.exact }

pub with_prefixes-returns-in_ok-a-in-Cast : goal.with_prefixes-returns-in_ok-a-in-Cast
with_prefixes-returns-in_ok-a-in-Cast t c =
    record { exact = one_answers _ (with_prefixes_lem c.args.names.now c.in-Some.rest.now (expression_lem c.args.names.now c.args.operand.now)) (λ a. read a >>= cast_to c.in-Cast.place c.in_ok-t-in-Cast.t) (natural_two read (cast_to c.in-Cast.place c.in_ok-t-in-Cast.t) natural_read (natural_cast c.in-Cast.place c.in_ok-t-in-Cast.t)) c.args.out.now c.cast_type.new.progress _ _ _ _ _ (as_cast c.args.names.now (expression_lem c.args.names.now c.args.operand.now) c.args.prefixes.now c.in-Some.first.now c.in-Some.rest.now c.in-Cast.n c.in-Cast.place c.in-Some.ensures.cases.0 c.in-Cast.is c.args.progress.now c.cast_type.new.progress c.in_ok-t-in-Cast.t c.in_ok-t-in-Cast.ensures.exact) c.in_ok-a-in-Cast.ensures.exact c.cast_of_operand.ensures.exact }

pub logical-returns-in_err-a : goal.logical-returns-in_err-a
logical-returns-in_err-a t c =
    record { exact = logical_first c.args.names.now c.args.op c.args.parts.left.now c.args.parts.place c.args.parts.right.now c.args.out.now c.args.progress.now _ _ _ _ c.from_residual.ensures.1 c.in_err-a.ensures.exact }

pub logical-returns-in_err-first : goal.logical-returns-in_err-first
logical-returns-in_err-first t c =
    record { exact = logical_pulling c.args.names.now c.args.op c.args.parts.left.now c.args.parts.place c.args.parts.right.now c.args.out.now c.args.progress.now _ _ _ _ _ _ c.in_ok-a.ensures.exact c.from_residual-in_err-first.ensures.1 c.in_err-first.ensures.exact }

pub logical-returns-in_err-value : goal.logical-returns-in_err-value
logical-returns-in_err-value t c =
    record { exact = logical_second c.args.names.now c.args.op c.args.parts.left.now c.args.parts.place c.args.parts.right.now c.args.out.now _ c.args.progress.now _ _ _ _ _ _ _ _ c.in_ok-a.ensures.exact c.in_ok-first.ensures.exact c.new-before.ensures c.from_residual-in_err-value.ensures.1 c.in_err-value.ensures.exact }

pub logical-returns : goal.logical-returns
logical-returns t c =
    record { exact = logical_ends c.args.names.now c.args.op c.args.parts.left.now c.args.parts.place c.args.parts.right.now c.args.out.now _ c.args.progress.now _ _ _ _ _ _ _ _ _ c.in_ok-first.first.test c.in_ok-a.ensures.exact c.in_ok-first.ensures.exact c.new-before.ensures c.in_ok-value.ensures.exact c.in_ok-first.ensures.test (c.end_logical.ensures.exact _) }

pub conditional-returns-in_err-c : goal.conditional-returns-in_err-c
conditional-returns-in_err-c t c =
    record { exact = conditional_first c.args.names.now c.args.parts.condition.now c.args.parts.place c.args.parts.then.now c.args.parts.otherwise.now c.args.out.now c.args.progress.now _ _ _ _ c.from_residual.ensures.1 c.in_err-c.ensures.exact }

pub conditional-returns-in_err-choice : goal.conditional-returns-in_err-choice
conditional-returns-in_err-choice t c =
    record { exact = conditional_drawing c.args.names.now c.args.parts.condition.now c.args.parts.place c.args.parts.then.now c.args.parts.otherwise.now c.args.out.now c.args.progress.now _ _ _ _ _ _ c.in_ok-c.ensures.exact c.from_residual-in_err-choice.ensures.1 c.in_err-choice.ensures.exact }

pub conditional-returns-in_err-value : goal.conditional-returns-in_err-value
conditional-returns-in_err-value t c =
    record { exact = conditional_one c.args.names.now c.args.parts.condition.now c.args.parts.place c.args.parts.then.now c.args.parts.otherwise.now c.args.out.now _ c.args.progress.now _ _ _ _ _ _ _ _ c.in_ok-c.ensures.exact c.in_ok-choice.ensures.exact c.new-before.ensures c.from_residual-in_err-value.ensures.1 c.in_err-value.ensures.exact }

pub conditional-returns-in_err-value-2 : goal.conditional-returns-in_err-value-2
conditional-returns-in_err-value-2 t c =
    record { exact = conditional_other c.args.names.now c.args.parts.condition.now c.args.parts.place c.args.parts.then.now c.args.parts.otherwise.now c.args.out.now _ _ c.args.progress.now _ _ _ _ _ _ _ _ _ _ c.in_ok-c.ensures.exact c.in_ok-choice.ensures.exact c.new-before.ensures c.in_ok-value.ensures.exact c.new-before-2.ensures c.from_residual-in_err-value-2.ensures.1 c.in_err-value-2.ensures.exact }

pub conditional-returns : goal.conditional-returns
conditional-returns t c =
    record { exact = conditional_ends c.args.names.now c.args.parts.condition.now c.args.parts.place c.args.parts.then.now c.args.parts.otherwise.now c.args.out.now _ _ c.args.progress.now _ _ _ _ _ _ _ _ _ _ _ c.in_ok-choice.choice.test c.in_ok-c.ensures.exact c.in_ok-choice.ensures.exact c.new-before.ensures c.in_ok-value.ensures.exact c.new-before-2.ensures c.in_ok-value-2.ensures.exact c.in_ok-choice.ensures.test c.conditional_result.ensures.exact }
