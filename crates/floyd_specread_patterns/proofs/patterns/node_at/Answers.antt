use Rattle.std.proofs.Common.{ℕ, Ok, Err, refl}
use Rattle.floyd_assert_trees.specs.declared.pattern.Pattern.{Pattern}
use Rattle.floyd_specread_patterns.specs.Patterns as specs
use Rattle.floyd_termread_parts.proofs.Chains.{stopped}
use Rattle.floyd_specread_patterns.proofs.patterns.node_at.Goals as goal

pub returns-in_err-item-clause-exact : goal.returns-in_err-item-clause-exact
returns-in_err-item-clause-exact c =
    stopped (λ (x : Pattern × ℕ). x) (specs.node c.args.text.bytes.now c.args.text.tokens.now c.args.at) c.from_residual-in_err-item.result c.in_err-item.field-0.0 c.from_residual-in_err-item.ensures.1
    (λ refusal e. (Ok (c.in_ok-left.left, c.in_ok-left.first), c.in_ok-left.ensures.exact, (Err refusal, rw e at c.in_err-item.ensures.exact, refl)))

pub returns-in_err-right-clause-exact : goal.returns-in_err-right-clause-exact
returns-in_err-right-clause-exact c =
    stopped (λ (x : Pattern × ℕ). x) (specs.node c.args.text.bytes.now c.args.text.tokens.now c.args.at) c.from_residual-in_err-right.result c.in_err-right.field-0.0 c.from_residual-in_err-right.ensures.1
    (λ refusal e. (Ok (c.in_ok-left.left, c.in_ok-left.first), c.in_ok-left.ensures.exact, (Ok (c.in_ok-item.item, c.in_ok-item.second), c.in_ok-item.ensures.exact, (Err refusal, rw e at c.in_err-right.ensures.exact, refl))))

pub returns-in_err-_close-clause-exact : goal.returns-in_err-_close-clause-exact
returns-in_err-_close-clause-exact c =
    stopped (λ (x : Pattern × ℕ). x) (specs.node c.args.text.bytes.now c.args.text.tokens.now c.args.at) c.from_residual-in_err-_close.result c.in_err-_close.field-0.0 c.from_residual-in_err-_close.ensures.1
    (λ refusal e. (Ok (c.in_ok-left.left, c.in_ok-left.first), c.in_ok-left.ensures.exact, (Ok (c.in_ok-item.item, c.in_ok-item.second), c.in_ok-item.ensures.exact, (Ok (c.in_ok-right.right, c.in_ok-right.third), c.in_ok-right.ensures.exact, (Err refusal, rw e at c.in_err-_close.ensures.exact, refl)))))

pub returns-clause-exact : goal.returns-clause-exact
returns-clause-exact c =
    (Ok (c.in_ok-left.left, c.in_ok-left.first), c.in_ok-left.ensures.exact, (Ok (c.in_ok-item.item, c.in_ok-item.second), c.in_ok-item.ensures.exact, (Ok (c.in_ok-right.right, c.in_ok-right.third), c.in_ok-right.ensures.exact, (Ok (c.in_ok-_close._close, c.in_ok-_close.behind), c.in_ok-_close.ensures.exact, refl))))
