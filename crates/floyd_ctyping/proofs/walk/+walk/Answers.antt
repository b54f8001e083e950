use Rattle.std.proofs.Common.{length, refl}
use Rattle.floyd_ctyping.specs.Expressions.{operand_of as typed_lem, nested_step as nested_step_lem, nested_call as nested_call_lem, member as member_lem, nested_assignment as nested_assignment_lem}
use Rattle.floyd_ctyping.proofs.Chains.{gives_as, one_stops, one_goes}
use Rattle.floyd_ctyping.proofs.ExpressionLemmas.{as_parenthesised, as_prefixed, as_step, as_index, as_call, as_member, as_binary, as_conditional, as_assign}
use Rattle.floyd_ctyping.proofs.Weights.{falls_parenthesised, falls_prefixed, falls_step, falls_index, falls_call, falls_member, falls_binary, falls_conditional, falls_assign}
use Rattle.floyd_ctyping.proofs.walk.+walk.Goals as goal

pub operand_of-operand_of-requires : goal.operand_of-operand_of-requires
operand_of-operand_of-requires t c = (falls_parenthesised t c.args.e.now c.in-Parenthesised.inner c.get.result.now c.decreases c.in-Parenthesised.is c.get.ensures, tt)

pub operand_of-returns-in-Parenthesised : goal.operand_of-returns-in-Parenthesised
operand_of-returns-in-Parenthesised t c =
    record { exact = gives_as _ _ _ _ _ (as_parenthesised c.args.names.now c.args.e.now c.in-Parenthesised.inner c.get.result.now c.in-Parenthesised.is c.get.ensures) c.operand_of.ensures.exact }

pub operand_of-prefixed_operand-requires : goal.operand_of-prefixed_operand-requires
operand_of-prefixed_operand-requires t c = (falls_prefixed t c.args.e.now c.in-Prefixed.prefixes c.as_slice.result.now c.in-Prefixed.operand c.get-in-Prefixed.result.now c.decreases c.in-Prefixed.is c.as_slice.ensures c.get-in-Prefixed.ensures, tt)

pub operand_of-returns-in-Prefixed : goal.operand_of-returns-in-Prefixed
operand_of-returns-in-Prefixed t c =
    record { exact = gives_as _ _ _ _ _ (as_prefixed c.args.names.now c.args.e.now c.in-Prefixed.prefixes c.as_slice.result.now c.in-Prefixed.operand c.get-in-Prefixed.result.now c.in-Prefixed.is c.as_slice.ensures c.get-in-Prefixed.ensures) c.prefixed_operand.ensures.exact }

pub operand_of-operand_of-requires-in-PostfixStep : goal.operand_of-operand_of-requires-in-PostfixStep
operand_of-operand_of-requires-in-PostfixStep t c = (falls_step t c.args.e.now c.in-PostfixStep.operand c.get-in-PostfixStep.result.now _ c.in-PostfixStep.place c.decreases c.in-PostfixStep.is c.get-in-PostfixStep.ensures, tt)

pub operand_of-returns-in_err-a-in-PostfixStep : goal.operand_of-returns-in_err-a-in-PostfixStep
operand_of-returns-in_err-a-in-PostfixStep t c =
    record {
      exact = one_stops _ (typed_lem c.args.names.now c.get-in-PostfixStep.result.now) (nested_step_lem c.in-PostfixStep.place) _ _ _ _ (as_step c.args.names.now c.args.e.now c.in-PostfixStep.operand c.get-in-PostfixStep.result.now _ c.in-PostfixStep.place c.in-PostfixStep.is c.get-in-PostfixStep.ensures)
          c.from_residual-in_err-a-in-PostfixStep.ensures.1 c.in_err-a-in-PostfixStep.ensures.exact;
    }

pub operand_of-returns-in_ok-a-in-PostfixStep : goal.operand_of-returns-in_ok-a-in-PostfixStep
operand_of-returns-in_ok-a-in-PostfixStep t c =
    record {
      exact = one_goes _ (typed_lem c.args.names.now c.get-in-PostfixStep.result.now) (nested_step_lem c.in-PostfixStep.place) _ _ _ _ (as_step c.args.names.now c.args.e.now c.in-PostfixStep.operand c.get-in-PostfixStep.result.now _ c.in-PostfixStep.place c.in-PostfixStep.is c.get-in-PostfixStep.ensures)
          c.in_ok-a-in-PostfixStep.ensures.exact (c.nested_step.ensures.exact);
    }

pub operand_of-element-requires : goal.operand_of-element-requires
operand_of-element-requires t c = (falls_index t c.args.e.now c.in-Index.array c.get-in-Index.result.now c.in-Index.index c.get-in-Index-2.result.now c.in-Index.place c.decreases c.in-Index.is c.get-in-Index.ensures c.get-in-Index-2.ensures, tt)

pub operand_of-returns-in-Index : goal.operand_of-returns-in-Index
operand_of-returns-in-Index t c =
    record { exact = gives_as _ _ _ _ _ (as_index c.args.names.now c.args.e.now c.in-Index.array c.get-in-Index.result.now c.in-Index.index c.get-in-Index-2.result.now c.in-Index.place c.in-Index.is c.get-in-Index.ensures c.get-in-Index-2.ensures) c.element.ensures.exact }

pub operand_of-operand_of-requires-in-Call : goal.operand_of-operand_of-requires-in-Call
operand_of-operand_of-requires-in-Call t c = (falls_call t c.args.e.now c.in-Call.function c.get-in-Call.result.now c.in-Call.place c.in-Call.arguments c.decreases c.in-Call.is c.get-in-Call.ensures, tt)

pub operand_of-returns-in_err-a-in-Call : goal.operand_of-returns-in_err-a-in-Call
operand_of-returns-in_err-a-in-Call t c =
    record {
      exact = one_stops _ (typed_lem c.args.names.now c.get-in-Call.result.now) (nested_call_lem c.in-Call.place (length c.in-Call.arguments)) _ _ _ _ (as_call c.args.names.now c.args.e.now c.in-Call.function c.get-in-Call.result.now c.in-Call.place c.in-Call.arguments _ c.in-Call.is c.get-in-Call.ensures refl)
          c.from_residual-in_err-a-in-Call.ensures.1 c.in_err-a-in-Call.ensures.exact;
    }

pub operand_of-returns-in_ok-a-in-Call : goal.operand_of-returns-in_ok-a-in-Call
operand_of-returns-in_ok-a-in-Call t c =
    record {
      exact = one_goes _ (typed_lem c.args.names.now c.get-in-Call.result.now) (nested_call_lem c.in-Call.place c.len.result) _ _ _ _ (as_call c.args.names.now c.args.e.now c.in-Call.function c.get-in-Call.result.now c.in-Call.place c.in-Call.arguments c.len.result c.in-Call.is c.get-in-Call.ensures c.len.ensures)
          c.in_ok-a-in-Call.ensures.exact (c.nested_call.ensures.exact _);
    }

pub operand_of-operand_of-requires-in-Member : goal.operand_of-operand_of-requires-in-Member
operand_of-operand_of-requires-in-Member t c = (falls_member t c.args.e.now c.in-Member.operand c.get-in-Member.result.now c.in-Member.op c.in-Member.place c.in-Member.field c.decreases c.in-Member.is c.get-in-Member.ensures, tt)

pub operand_of-returns-in_err-a-in-Member : goal.operand_of-returns-in_err-a-in-Member
operand_of-returns-in_err-a-in-Member t c =
    record {
      exact = one_stops _ (typed_lem c.args.names.now c.get-in-Member.result.now) (member_lem c.in-Member.op c.in-Member.place c.in-Member.field) _ _ _ _ (as_member c.args.names.now c.args.e.now c.in-Member.operand c.get-in-Member.result.now c.in-Member.op c.in-Member.place c.in-Member.field c.in-Member.is c.get-in-Member.ensures)
          c.from_residual-in_err-a-in-Member.ensures.1 c.in_err-a-in-Member.ensures.exact;
    }

pub operand_of-returns-in_ok-a-in-Member : goal.operand_of-returns-in_ok-a-in-Member
operand_of-returns-in_ok-a-in-Member t c =
    record {
      exact = one_goes _ (typed_lem c.args.names.now c.get-in-Member.result.now) (member_lem c.in-Member.op c.in-Member.place c.in-Member.field) _ _ _ _ (as_member c.args.names.now c.args.e.now c.in-Member.operand c.get-in-Member.result.now c.in-Member.op c.in-Member.place c.in-Member.field c.in-Member.is c.get-in-Member.ensures)
          c.in_ok-a-in-Member.ensures.exact (c.member.ensures.exact);
    }

pub operand_of-binary_operand-requires : goal.operand_of-binary_operand-requires
operand_of-binary_operand-requires t c = (falls_binary t c.args.e.now c.in-Binary.left c.get-in-Binary.result.now c.in-Binary.right c.get-in-Binary-2.result.now c.in-Binary.op c.in-Binary.place c.decreases c.in-Binary.is c.get-in-Binary.ensures c.get-in-Binary-2.ensures, tt)

pub operand_of-returns-in-Binary : goal.operand_of-returns-in-Binary
operand_of-returns-in-Binary t c =
    record { exact = gives_as _ _ _ _ _ (as_binary c.args.names.now c.args.e.now c.in-Binary.left c.get-in-Binary.result.now c.in-Binary.right c.get-in-Binary-2.result.now c.in-Binary.op c.in-Binary.place c.in-Binary.is c.get-in-Binary.ensures c.get-in-Binary-2.ensures) c.binary_operand.ensures.exact }

pub operand_of-conditional-requires : goal.operand_of-conditional-requires
operand_of-conditional-requires t c = (falls_conditional t c.args.e.now c.in-Conditional.condition c.get-in-Conditional.result.now c.in-Conditional.then c.get-in-Conditional-2.result.now c.in-Conditional.otherwise c.get-in-Conditional-3.result.now c.in-Conditional.place c.decreases c.in-Conditional.is c.get-in-Conditional.ensures c.get-in-Conditional-2.ensures c.get-in-Conditional-3.ensures, tt)

pub operand_of-returns-in-Conditional : goal.operand_of-returns-in-Conditional
operand_of-returns-in-Conditional t c =
    record { exact = gives_as _ _ _ _ _ (as_conditional c.args.names.now c.args.e.now c.in-Conditional.condition c.get-in-Conditional.result.now c.in-Conditional.then c.get-in-Conditional-2.result.now c.in-Conditional.otherwise c.get-in-Conditional-3.result.now c.in-Conditional.place c.in-Conditional.is c.get-in-Conditional.ensures c.get-in-Conditional-2.ensures c.get-in-Conditional-3.ensures) c.conditional.ensures.exact }

pub operand_of-operand_of-requires-in-Assign : goal.operand_of-operand_of-requires-in-Assign
operand_of-operand_of-requires-in-Assign t c = (falls_assign t c.args.e.now c.in-Assign.target c.get-in-Assign.result.now _ c.in-Assign.place _ c.decreases c.in-Assign.is c.get-in-Assign.ensures, tt)

pub operand_of-returns-in_err-a-in-Assign : goal.operand_of-returns-in_err-a-in-Assign
operand_of-returns-in_err-a-in-Assign t c =
    record {
      exact = one_stops _ (typed_lem c.args.names.now c.get-in-Assign.result.now) (nested_assignment_lem c.in-Assign.place) _ _ _ _ (as_assign c.args.names.now c.args.e.now c.in-Assign.target c.get-in-Assign.result.now _ c.in-Assign.place _ c.in-Assign.is c.get-in-Assign.ensures)
          c.from_residual-in_err-a-in-Assign.ensures.1 c.in_err-a-in-Assign.ensures.exact;
    }

pub operand_of-returns-in_ok-a-in-Assign : goal.operand_of-returns-in_ok-a-in-Assign
operand_of-returns-in_ok-a-in-Assign t c =
    record {
      exact = one_goes _ (typed_lem c.args.names.now c.get-in-Assign.result.now) (nested_assignment_lem c.in-Assign.place) _ _ _ _ (as_assign c.args.names.now c.args.e.now c.in-Assign.target c.get-in-Assign.result.now _ c.in-Assign.place _ c.in-Assign.is c.get-in-Assign.ensures)
          c.in_ok-a-in-Assign.ensures.exact (c.nested_assignment.ensures.exact _);
    }
