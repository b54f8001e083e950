use Rattle.std.proofs.Common.{ℕ, Ok, Err, bytes_eq, refl, ap, sym, ◌∙◌}
use Rattle.std.specs.Map.{lookup}
use Rattle.std.specs.Option.{option_copied}
use Rattle.floyd_termread_scope.specs.Scopes.{env}
use Rattle.floyd_assert_trees.specs.declared.sep.Sep.{Sep}
use Rattle.floyd_termread_wants.specs.Refusals.{unknown}
use Rattle.floyd_termread_parts.specs.Parts as parts
use Rattle.floyd_termread_parts.proofs.Chains.{stopped, given_some, given_none}
use Rattle.floyd_termread_parts.proofs.predicates.predicate_at.Goals as goal

pub returns-in_default-clause-exact : goal.returns-in_default-clause-exact
returns-in_default-clause-exact c =
    (Ok (c.in_ok-name.name, c.in_ok-name.open), c.in_ok-name.ensures.exact, (Err c.in_ok-unknown.field-0, given_none (unknown c.in_ok-name.name) c.in_ok-unknown.field-0 (lookup (bytes_eq (c.in_ok-name.name).name) c.args.scope.now.defs.now.preds) c.in_ok-name.open (sym c.pred.ensures ∙ ap option_copied c.in_default.is) c.in_ok-unknown.ensures, refl))

pub returns-in_err-terms-clause-exact : goal.returns-in_err-terms-clause-exact
returns-in_err-terms-clause-exact c =
    stopped (λ (x : Sep × ℕ). x) (parts.predicate c.args.text.bytes.now c.args.text.tokens.now c.args.spot.depth (env c.args.scope.now c.args.bound.now) c.args.spot.at) c.from_residual-in_err-terms.result c.in_err-terms.field-0.0 c.from_residual-in_err-terms.ensures.1 (λ refusal e. (Ok (c.in_ok-name.name, c.in_ok-name.open), c.in_ok-name.ensures.exact, (Ok (c.in-Some.pred.now, c.in_ok-name.open), given_some (unknown c.in_ok-name.name) (lookup (bytes_eq (c.in_ok-name.name).name) c.args.scope.now.defs.now.preds) c.in-Some.pred.now c.in_ok-name.open (sym c.in-Some.ensures), (Err refusal, rw e at c.in_err-terms.ensures.exact, refl))))

pub returns-clause-exact : goal.returns-clause-exact
returns-clause-exact c =
    (Ok (c.in_ok-name.name, c.in_ok-name.open), c.in_ok-name.ensures.exact, (Ok (c.in-Some.pred.now, c.in_ok-name.open), given_some (unknown c.in_ok-name.name) (lookup (bytes_eq (c.in_ok-name.name).name) c.args.scope.now.defs.now.preds) c.in-Some.pred.now c.in_ok-name.open (sym c.in-Some.ensures), (Ok (c.in_ok-terms.terms, c.in_ok-terms.behind), c.in_ok-terms.ensures.exact, rw c.in_ok-called.ensures refl)))
