use Rattle.std.proofs.Common.{ℕ, Ok, Err, refl}
use Rattle.floyd_assert_trees.specs.declared.pattern.Pattern.{Pattern}
use Rattle.floyd_specread_patterns.specs.Patterns as specs
use Rattle.floyd_termread_parts.proofs.Chains.{stopped}
use Rattle.floyd_specread_patterns.proofs.patterns.cons_at.Goals as goal

pub returns-in_err-_mark-clause-exact : goal.returns-in_err-_mark-clause-exact
returns-in_err-_mark-clause-exact c =
    stopped (λ (x : Pattern × ℕ). x) (specs.cons c.args.text.bytes.now c.args.text.tokens.now c.args.at) c.from_residual-in_err-_mark.result c.in_err-_mark.field-0.0 c.from_residual-in_err-_mark.ensures.1
    (λ refusal e. (Ok (c.in_ok-item.item, c.in_ok-item.first), c.in_ok-item.ensures.exact, (Err refusal, rw e at c.in_err-_mark.ensures.exact, refl)))

pub returns-in_err-rest-clause-exact : goal.returns-in_err-rest-clause-exact
returns-in_err-rest-clause-exact c =
    stopped (λ (x : Pattern × ℕ). x) (specs.cons c.args.text.bytes.now c.args.text.tokens.now c.args.at) c.from_residual-in_err-rest.result c.in_err-rest.field-0.0 c.from_residual-in_err-rest.ensures.1
    (λ refusal e. (Ok (c.in_ok-item.item, c.in_ok-item.first), c.in_ok-item.ensures.exact, (Ok (c.in_ok-_mark._mark, c.in_ok-_mark.second), c.in_ok-_mark.ensures.exact, (Err refusal, rw e at c.in_err-rest.ensures.exact, refl))))

pub returns-clause-exact : goal.returns-clause-exact
returns-clause-exact c =
    (Ok (c.in_ok-item.item, c.in_ok-item.first), c.in_ok-item.ensures.exact, (Ok (c.in_ok-_mark._mark, c.in_ok-_mark.second), c.in_ok-_mark.ensures.exact, (Ok (c.in_ok-rest.rest, c.in_ok-rest.behind), c.in_ok-rest.ensures.exact, refl)))
