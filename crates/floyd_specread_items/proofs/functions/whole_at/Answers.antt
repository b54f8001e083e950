use Rattle.std.proofs.Common.{ℕ, Err, refl}
use Rattle.floyd_assert_trees.specs.declared.items.FunBody.{FunBody}
use Rattle.floyd_termread.specs.Brackets.{outermost}
use Rattle.floyd_specread_items.specs.Functions as specs
use Rattle.floyd_termread_parts.proofs.Chains.{stopped}
use Rattle.floyd_specread_items.proofs.functions.whole_at.Goals as goal

pub returns-in_err-term-clause-exact : goal.returns-in_err-term-clause-exact
returns-in_err-term-clause-exact c =
    stopped (λ (x : FunBody × ℕ). x) (specs.whole c.args.text.bytes.now c.args.text.tokens.now c.args.item.own.now c.args.item.head.now (outermost c.args.scope.now) c.args.at) c.from_residual.result c.in_err-term.field-0.0 c.from_residual.ensures.1
    (λ refusal e. (Err refusal, rw e at c.in_err-term.ensures.exact, refl))
