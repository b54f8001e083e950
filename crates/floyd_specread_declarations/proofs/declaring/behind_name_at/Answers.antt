use Rattle.std.proofs.Common.{ℕ, Ok, Err, refl}
use Rattle.floyd_specread_trees.specs.declared.declarations.Declaration.{Declaration}
use Rattle.floyd_termread.specs.Brackets.{outermost}
use Rattle.floyd_specread_declarations.specs.Declarations as specs
use Rattle.floyd_termread_parts.proofs.Chains.{stopped}
use Rattle.floyd_specread_declarations.proofs.declaring.behind_name_at.Goals as goal

pub returns-in_err-kind-clause-exact : goal.returns-in_err-kind-clause-exact
returns-in_err-kind-clause-exact c =
    stopped (λ (x : Declaration × ℕ). x) (specs.behind_name c.args.text.bytes.now c.args.text.tokens.now c.args.written.standing c.args.written.name.now (outermost c.args.scope.now) c.args.items.now c.args.at) c.from_residual.result c.in_err-kind.field-0.0 c.from_residual.ensures.1
    (λ refusal e. (Err refusal, rw e at c.in_err-kind.ensures.exact, refl))

pub returns-in_err-spec-clause-exact : goal.returns-in_err-spec-clause-exact
returns-in_err-spec-clause-exact c =
    stopped (λ (x : Declaration × ℕ). x) (specs.behind_name c.args.text.bytes.now c.args.text.tokens.now c.args.written.standing c.args.written.name.now (outermost c.args.scope.now) c.args.items.now c.args.at) c.from_residual-in_err-spec.result c.in_err-spec.field-0.0 c.from_residual-in_err-spec.ensures.1
    (λ refusal e. (Ok (c.in_ok-kind.kind, c.in_ok-kind.first), c.in_ok-kind.ensures.exact, (Err refusal, rw (e, c.is_main-takes_main.ensures) at c.in_err-spec.ensures.exact, refl)))

pub returns-in_err-_end-clause-exact : goal.returns-in_err-_end-clause-exact
returns-in_err-_end-clause-exact c =
    stopped (λ (x : Declaration × ℕ). x) (specs.behind_name c.args.text.bytes.now c.args.text.tokens.now c.args.written.standing c.args.written.name.now (outermost c.args.scope.now) c.args.items.now c.args.at) c.from_residual-in_err-_end.result c.in_err-_end.field-0.0 c.from_residual-in_err-_end.ensures.1
    (λ refusal e. (Ok (c.in_ok-kind.kind, c.in_ok-kind.first), c.in_ok-kind.ensures.exact, (Ok ((c.in_ok-spec.spec, c.in_ok-spec.main_pre), c.in_ok-spec.second), rw (c.is_main-takes_main.ensures) at c.in_ok-spec.ensures.exact, (Err refusal, rw e at c.in_err-_end.ensures.exact, refl))))

pub returns-clause-exact : goal.returns-clause-exact
returns-clause-exact c =
    (Ok (c.in_ok-kind.kind, c.in_ok-kind.first), c.in_ok-kind.ensures.exact, (Ok ((c.in_ok-spec.spec, c.in_ok-spec.main_pre), c.in_ok-spec.second), rw (c.is_main-takes_main.ensures) at c.in_ok-spec.ensures.exact, (Ok (c.in_ok-_end._end, c.in_ok-_end.behind), c.in_ok-_end.ensures.exact, rw c.in_ok-name.ensures refl)))
