use Rattle.std.proofs.Common.{ℕ, List, Ok, Err, refl, ap, ◌∙◌}
use Rattle.floyd_assert_trees.specs.declared.binder.Binder.{Binder}
use Rattle.floyd_termread.specs.Brackets.{outermost}
use Rattle.floyd_termread_scope.specs.Scopes.{sort_of}
use Rattle.floyd_termread_assertions.specs.BoundClauses.{bound_by_all}
use Rattle.floyd_termread_assertions.proofs.BoundLemmas.{same_env}
use Rattle.floyd_specread_specs.proofs.OutermostLemmas.{under_outermost}
use Rattle.floyd_specread_specs.specs.declared.text.SpecText.{SpecText}
use Rattle.floyd_specread_specs.specs.Specifications as specs
use Rattle.floyd_termread_parts.proofs.Chains.{stopped}
use Rattle.floyd_specread_specs.proofs.reading.spec_at.Goals as goal

pub returns-in_err-with-clause-exact : goal.returns-in_err-with-clause-exact
returns-in_err-with-clause-exact c =
    stopped (λ (x : SpecText × ℕ). x) (specs.spec c.args.text.bytes.now c.args.text.tokens.now c.args.takes_main (outermost c.args.scope.now) c.args.at) c.from_residual.result c.in_err-with.field-0.0 c.from_residual.ensures.1
    (λ refusal e. (Err refusal, rw e at c.in_err-with.ensures.exact, refl))

pub returns-in_err-params-clause-exact : goal.returns-in_err-params-clause-exact
returns-in_err-params-clause-exact c =
    stopped (λ (x : SpecText × ℕ). x) (specs.spec c.args.text.bytes.now c.args.text.tokens.now c.args.takes_main (outermost c.args.scope.now) c.args.at) c.from_residual-in_err-params.result c.in_err-params.field-0.0 c.from_residual-in_err-params.ensures.1
    (λ refusal e. (Ok (c.in_ok-with.with, c.in_ok-with.first), c.in_ok-with.ensures.exact, (Err refusal, rw (e, under_outermost c.args.scope.now c.in_ok-with.with c.new-bound.result c.bind_all.new.bound c.new-bound.ensures (c.in_ok-bind_all.ensures ∙ ap (λ (bs : List Binder). bound_by_all bs (sort_of c.new-bound.result)) c.as_slice.ensures)) at c.in_err-params.ensures.exact, refl)))

pub returns-in_err-ty-clause-exact : goal.returns-in_err-ty-clause-exact
returns-in_err-ty-clause-exact c =
    stopped (λ (x : SpecText × ℕ). x) (specs.spec c.args.text.bytes.now c.args.text.tokens.now c.args.takes_main (outermost c.args.scope.now) c.args.at) c.from_residual-in_err-ty.result c.in_err-ty.field-0.0 c.from_residual-in_err-ty.ensures.1
    (λ refusal e. (Ok (c.in_ok-with.with, c.in_ok-with.first), c.in_ok-with.ensures.exact, (Ok ((c.in_ok-params.params, c.in_ok-params.pre), c.in_ok-params.second), rw (under_outermost c.args.scope.now c.in_ok-with.with c.new-bound.result c.bind_all.new.bound c.new-bound.ensures (c.in_ok-bind_all.ensures ∙ ap (λ (bs : List Binder). bound_by_all bs (sort_of c.new-bound.result)) c.as_slice.ensures)) at c.in_ok-params.ensures.exact, (Err refusal, rw (e, same_env c.args.scope.now c.asked_at.new.bound c.bind_all.new.bound c.in_ok-params.ensures.kept, under_outermost c.args.scope.now c.in_ok-with.with c.new-bound.result c.bind_all.new.bound c.new-bound.ensures (c.in_ok-bind_all.ensures ∙ ap (λ (bs : List Binder). bound_by_all bs (sort_of c.new-bound.result)) c.as_slice.ensures)) at c.in_err-ty.ensures.exact, refl))))

pub returns-clause-exact : goal.returns-clause-exact
returns-clause-exact c =
    (Ok (c.in_ok-with.with, c.in_ok-with.first), c.in_ok-with.ensures.exact, (Ok ((c.in_ok-params.params, c.in_ok-params.pre), c.in_ok-params.second), rw (under_outermost c.args.scope.now c.in_ok-with.with c.new-bound.result c.bind_all.new.bound c.new-bound.ensures (c.in_ok-bind_all.ensures ∙ ap (λ (bs : List Binder). bound_by_all bs (sort_of c.new-bound.result)) c.as_slice.ensures)) at c.in_ok-params.ensures.exact, (Ok ((c.in_ok-ty.ty, c.in_ok-ty.post), c.in_ok-ty.behind), rw (same_env c.args.scope.now c.asked_at.new.bound c.bind_all.new.bound c.in_ok-params.ensures.kept, under_outermost c.args.scope.now c.in_ok-with.with c.new-bound.result c.bind_all.new.bound c.new-bound.ensures (c.in_ok-bind_all.ensures ∙ ap (λ (bs : List Binder). bound_by_all bs (sort_of c.new-bound.result)) c.as_slice.ensures)) at c.in_ok-ty.ensures.exact, refl)))
