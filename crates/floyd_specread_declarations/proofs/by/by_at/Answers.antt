use Rattle.std.proofs.Common.{ℕ, List, Ok, Err, refl, ap, ◌∙◌}
use Rattle.floyd_assert_trees.specs.declared.binder.Binder.{Binder}
use Rattle.floyd_termread.specs.Brackets.{outermost}
use Rattle.floyd_termread_scope.specs.Scopes.{sort_of}
use Rattle.floyd_termread_assertions.specs.Assertions.{under}
use Rattle.floyd_termread_assertions.specs.BoundClauses.{bound_by_all}
use Rattle.floyd_specread_specs.proofs.OutermostLemmas.{under_outermost}
use Rattle.floyd_specread_trees.specs.declared.declarations.By.{By}
use Rattle.floyd_specread_declarations.specs.Declarations as specs
use Rattle.floyd_termread_parts.proofs.Chains.{stopped, carried}
use Rattle.floyd_specread_declarations.proofs.by.by_at.Goals as goal

pub returns-in_err-variables-clause-exact : goal.returns-in_err-variables-clause-exact
returns-in_err-variables-clause-exact c =
    stopped (λ (x : By × ℕ). x) (specs.by c.args.text.bytes.now c.args.text.tokens.now (outermost c.args.scope.now) c.args.items.now c.args.at) c.from_residual.result c.in_err-variables.field-0.0 c.from_residual.ensures.1
    (λ refusal e. (Err refusal, rw e at c.in_err-variables.ensures.exact, refl))

pub returns-clause-exact : goal.returns-clause-exact
returns-clause-exact c =
    carried (λ (x : By × ℕ). x) (specs.by c.args.text.bytes.now c.args.text.tokens.now (outermost c.args.scope.now) c.args.items.now c.args.at) c.judged_by_at.result (specs.judged_by c.args.text.bytes.now c.args.text.tokens.now (under c.in_ok-variables.variables (outermost c.args.scope.now)) c.args.at) (rw (under_outermost c.args.scope.now c.in_ok-variables.variables c.new-bound.result c.bind_all.new.bound c.new-bound.ensures (c.in_ok-bind_all.ensures ∙ ap (λ (bs : List Binder). bound_by_all bs (sort_of c.new-bound.result)) c.as_slice.ensures)) at c.judged_by_at.ensures.exact)
    (λ a d. (Ok (c.in_ok-variables.variables, c.in_ok-variables._behind), c.in_ok-variables.ensures.exact, d))
