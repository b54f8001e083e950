use Rattle.std.proofs.Common.{ℕ, List, Option, Ok, Err, refl}
use Rattle.floyd_tree.specs.Plain.{Plain}
use Rattle.floyd_assert_trees.specs.declared.sep.Sep.{Sep}
use Rattle.floyd_termread_scope.specs.Scopes.{env}
use Rattle.floyd_specread_specs.specs.Specifications as specs
use Rattle.floyd_termread_parts.proofs.Chains.{stopped}
use Rattle.floyd_specread_specs.proofs.reading.ending_at.Goals as goal

pub returns-in_err-parts-clause-exact : goal.returns-in_err-parts-clause-exact
returns-in_err-parts-clause-exact c =
    stopped (λ (x : (Option Plain × List Sep) × ℕ). x) (specs.ending c.args.text.bytes.now c.args.text.tokens.now (env c.args.scope.now c.args.bound.now) c.args.ty.now c.args.at) c.from_residual-in_err-parts.result c.in_err-parts.field-0.0 c.from_residual-in_err-parts.ensures.1
    (λ refusal e. (Ok (c.in_ok-values.values, c.in_ok-values.first), c.in_ok-values.ensures.exact, (Err refusal, rw e at c.in_err-parts.ensures.exact, refl)))

pub returns-clause-exact : goal.returns-clause-exact
returns-clause-exact c =
    (Ok (c.in_ok-values.values, c.in_ok-values.first), c.in_ok-values.ensures.exact, (Ok (c.in_ok-parts.parts, c.in_ok-parts.behind), c.in_ok-parts.ensures.exact, rw (c.in_ok-value.ensures, c.as_slice.ensures) refl))
