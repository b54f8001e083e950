use Rattle.std.proofs.Common.{ℕ, Ok, Err, refl}
use Rattle.floyd_termread_scope.specs.Scopes.{env}
use Rattle.floyd_assert_trees.specs.declared.sep.Sep.{Sep}
use Rattle.floyd_termread_parts.specs.Parts as parts
use Rattle.floyd_termread_parts.proofs.Chains.{stopped}
use Rattle.floyd_termread_parts.proofs.parts.data_at.Goals as goal

pub returns-in_err-root-clause-exact : goal.returns-in_err-root-clause-exact
returns-in_err-root-clause-exact c =
    stopped (λ (x : Sep × ℕ). x) (parts.data_at c.args.text.bytes.now c.args.text.tokens.now c.args.spot.depth (env c.args.scope.now c.args.bound.now) c.args.spot.at) c.from_residual-in_err-root.result c.in_err-root.field-0.0 c.from_residual-in_err-root.ensures.1 (λ refusal e. (Ok (c.in_ok-object.object, c.in_ok-object.first), c.in_ok-object.ensures.exact, (Ok (c.in_ok-value.value, c.in_ok-value.second), c.in_ok-value.ensures.exact, (Err refusal, rw e at c.in_err-root.ensures.exact, refl))))

pub returns-clause-exact : goal.returns-clause-exact
returns-clause-exact c =
    (Ok (c.in_ok-object.object, c.in_ok-object.first), c.in_ok-object.ensures.exact, (Ok (c.in_ok-value.value, c.in_ok-value.second), c.in_ok-value.ensures.exact, (Ok (c.in_ok-root.root, c.in_ok-root.behind), c.in_ok-root.ensures.exact, cc)))
