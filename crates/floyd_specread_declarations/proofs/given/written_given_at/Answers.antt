use Rattle.std.proofs.Common.{ℕ, Bool, Ok, Err, refl}
use Rattle.floyd_assert_trees.specs.declared.spec.Funspec.{Funspec}
use Rattle.floyd_termread.specs.Brackets.{outermost}
use Rattle.floyd_specread_declarations.specs.Declarations as specs
use Rattle.floyd_termread_parts.proofs.Chains.{stopped}
use Rattle.floyd_specread_declarations.proofs.given.written_given_at.Goals as goal

pub returns-in_err-written-clause-exact : goal.returns-in_err-written-clause-exact
returns-in_err-written-clause-exact c =
    stopped (λ (x : (Funspec × Bool) × ℕ). x) (specs.written_given c.args.text.bytes.now c.args.text.tokens.now c.args.takes_main (outermost c.args.scope.now) c.args.at) c.from_residual.result c.in_err-written.field-0.0 c.from_residual.ensures.1
    (λ refusal e. (Err refusal, rw e at c.in_err-written.ensures.exact, refl))

pub returns-clause-exact : goal.returns-clause-exact
returns-clause-exact c =
    (Ok (c.in_ok-written.written, c.in_ok-written.behind), c.in_ok-written.ensures.exact, rw (c.in_ok-spec.ensures, c.funspec-spec.ensures) refl)
