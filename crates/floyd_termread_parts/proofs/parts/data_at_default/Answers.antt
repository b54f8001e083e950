use Rattle.std.proofs.Common.{ℕ, Ok, Err, refl}
use Rattle.floyd_termread_scope.specs.Scopes.{env}
use Rattle.floyd_assert_trees.specs.declared.sep.Sep.{Sep}
use Rattle.floyd_termread_parts.specs.Parts as parts
use Rattle.floyd_termread_parts.proofs.Chains.{stopped, checked_ok, checked_err}
use Rattle.floyd_termread_parts.proofs.parts.data_at_default.Goals as goal

pub returns-in_err-value-clause-exact : goal.returns-in_err-value-clause-exact
returns-in_err-value-clause-exact c =
    stopped (λ (x : Sep × ℕ). x) (parts.data_at_default c.args.text.bytes.now c.args.text.tokens.now c.args.spot.depth (env c.args.scope.now c.args.bound.now) c.args.place c.args.spot.at) c.from_residual-in_err-value.result c.in_err-value.field-0.0 c.from_residual-in_err-value.ensures.1 (λ refusal e. (Ok (c.in_ok-object.object, c.in_ok-object.first), c.in_ok-object.ensures.exact, (Ok (c.in_ok-root.root, c.in_ok-root.behind), c.in_ok-root.ensures.exact, (Err refusal, checked_err _ refusal c.in_ok-root.behind (rw e at c.in_err-value.ensures.exact), refl))))

pub returns-clause-exact : goal.returns-clause-exact
returns-clause-exact c =
    (Ok (c.in_ok-object.object, c.in_ok-object.first), c.in_ok-object.ensures.exact, (Ok (c.in_ok-root.root, c.in_ok-root.behind), c.in_ok-root.ensures.exact, (Ok (c.in_ok-value.value, c.in_ok-root.behind), checked_ok _ c.in_ok-value.value c.in_ok-root.behind c.in_ok-value.ensures.exact, cc)))
