use Rattle.floyd_specread_recursion.proofs.JudgedLemmas.{wrong_call, right_calls}
use Rattle.floyd_specread_recursion.proofs.judging.structural.Goals as goal

pub returns-in_err-judge_read-clause-exact : goal.returns-in_err-judge_read-clause-exact
returns-in_err-judge_read-clause-exact g c =
    wrong_call c.args.text.bytes.now c.args.text.tokens.now c.args.own.now c.args.parts.now c.args.start c.args.read c.from_residual.result c.in_err-judge_read.field-0.0 c.from_residual.ensures.1 c.in_err-judge_read.ensures.exact

pub returns-clause-exact : goal.returns-clause-exact
returns-clause-exact g c =
    right_calls c.args.text.bytes.now c.args.text.tokens.now c.args.own.now c.args.parts.now c.args.start c.args.read c.in_ok-judge_read.ensures.exact
