use Rattle.std.proofs.Common.{ℕ, List, Ok, Err, refl}
use Rattle.floyd_specread_patterns.specs.Patterns as specs
use Rattle.floyd_termread_parts.proofs.Chains.{stopped}
use Rattle.floyd_specread_patterns.proofs.patterns.node_front_at.Goals as goal

pub returns-in_err-_open-clause-exact : goal.returns-in_err-_open-clause-exact
returns-in_err-_open-clause-exact c =
    stopped (λ (x : List ℕ × ℕ). x) (specs.node_front c.args.text.bytes.now c.args.text.tokens.now c.args.at) c.from_residual-in_err-_open.result c.in_err-_open.field-0.0 c.from_residual-in_err-_open.ensures.1
    (λ refusal e. (Ok (c.in_ok-_word._word, c.in_ok-_word.first), c.in_ok-_word.ensures.exact, (Err refusal, rw e at c.in_err-_open.ensures.exact, refl)))

pub returns-in_err-left-clause-exact : goal.returns-in_err-left-clause-exact
returns-in_err-left-clause-exact c =
    stopped (λ (x : List ℕ × ℕ). x) (specs.node_front c.args.text.bytes.now c.args.text.tokens.now c.args.at) c.from_residual-in_err-left.result c.in_err-left.field-0.0 c.from_residual-in_err-left.ensures.1
    (λ refusal e. (Ok (c.in_ok-_word._word, c.in_ok-_word.first), c.in_ok-_word.ensures.exact, (Ok (c.in_ok-_open._open, c.in_ok-_open.second), c.in_ok-_open.ensures.exact, (Err refusal, rw e at c.in_err-left.ensures.exact, refl))))

pub returns-clause-exact : goal.returns-clause-exact
returns-clause-exact c =
    (Ok (c.in_ok-_word._word, c.in_ok-_word.first), c.in_ok-_word.ensures.exact, (Ok (c.in_ok-_open._open, c.in_ok-_open.second), c.in_ok-_open.ensures.exact, (Ok (c.in_ok-left.left, c.in_ok-left.behind), c.in_ok-left.ensures.exact, refl)))
