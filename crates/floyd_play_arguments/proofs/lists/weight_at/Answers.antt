use Rattle.std.proofs.Common.{ℕ, Ok, Err, refl, ap}
use Rattle.floyd_tree.specs.declared.weights.Weight.{Weight}
use Rattle.floyd_play_arguments.specs.Arguments as specs
use Rattle.floyd_play_arguments.proofs.Chains.{stopped}
use Rattle.floyd_play_arguments.proofs.lists.weight_at.Goals as goal

pub returns-in_err-value-clause-exact : goal.returns-in_err-value-clause-exact
returns-in_err-value-clause-exact c =
    stopped (λ (x : Weight × ℕ). x) (specs.weight c.args.text.bytes.now c.args.text.tokens.now c.args.weights.now c.args.at) c.from_residual-in_err-value.result c.in_err-value.field-0.0 c.from_residual-in_err-value.ensures.1
    (λ refusal e. (Ok (c.in_ok-hypothesis.hypothesis, c.in_ok-hypothesis.first), c.in_ok-hypothesis.ensures.exact, (Ok (c.in_ok-_colon._colon, c.in_ok-_colon.second), c.in_ok-_colon.ensures.exact, (Ok (c.in_ok-minus.minus, c.in_ok-minus.third), c.in_ok-minus.ensures.exact, (Err refusal, rw e at c.in_err-value.ensures.exact, refl)))))

pub returns-clause-exact : goal.returns-clause-exact
returns-clause-exact c =
    (Ok (c.in_ok-hypothesis.hypothesis, c.in_ok-hypothesis.first), c.in_ok-hypothesis.ensures.exact, (Ok (c.in_ok-_colon._colon, c.in_ok-_colon.second), c.in_ok-_colon.ensures.exact, (Ok (c.in_ok-minus.minus, c.in_ok-minus.third), c.in_ok-minus.ensures.exact, (Ok (c.in_ok-value.value, c.in_ok-value.behind), c.in_ok-value.ensures.exact, ap (λ (w : Weight). Ok (w, c.in_ok-value.behind)) c.weight_of-weight.ensures))))
