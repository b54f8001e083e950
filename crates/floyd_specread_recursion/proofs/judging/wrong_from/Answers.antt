use Rattle.std.proofs.Common.{sym, ◌∙◌, arith}
use Rattle.floyd_specread_recursion.proofs.RunLemmas.{wrong_goes_on, wrong_here, none_wrong}
use Rattle.floyd_specread_recursion.proofs.judging.wrong_from.Goals as goal

pub tokens-preserved : goal.tokens-preserved
tokens-preserved c =
    wrong_goes_on c.args.text.bytes.now c.args.text.tokens.now c.args.own.now c.args.parts.now c.args.to c.tokens.i (omega arith) (sym c.is_wrong.ensures ∙ c.if-is_wrong.false) ∙ c.tokens.invariant

pub returns-then-is_wrong-clause-value : goal.returns-then-is_wrong-clause-value
returns-then-is_wrong-clause-value c =
    sym (wrong_here c.args.text.bytes.now c.args.text.tokens.now c.args.own.now c.args.parts.now c.args.to c.tokens.i (omega arith) (sym c.is_wrong.ensures ∙ c.if-is_wrong.true)) ∙ c.tokens.invariant

pub returns-clause-value : goal.returns-clause-value
returns-clause-value c = sym (none_wrong c.args.text.bytes.now c.args.text.tokens.now c.args.own.now c.args.parts.now c.args.to c.tokens.i (omega arith)) ∙ c.tokens.invariant
