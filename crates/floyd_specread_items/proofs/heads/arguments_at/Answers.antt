use Rattle.std.proofs.Common.{ℕ, List, Ok, Err, refl}
use Rattle.floyd_assert_trees.specs.declared.binder.Binder.{Binder}
use Rattle.floyd_specread_items.specs.Heads as specs
use Rattle.floyd_termread_parts.proofs.Chains.{stopped}
use Rattle.floyd_specread_items.proofs.heads.arguments_at.Goals as goal

pub returns-in_err-binders-clause-exact : goal.returns-in_err-binders-clause-exact
returns-in_err-binders-clause-exact c =
    stopped (λ (x : List Binder × ℕ). x) (specs.arguments c.args.text.bytes.now c.args.text.tokens.now c.args.at) c.from_residual-in_err-binders.result c.in_err-binders.field-0.0 c.from_residual-in_err-binders.ensures.1
    (λ refusal e. (Ok (c.in_ok-_open._open, c.in_ok-_open.first), c.in_ok-_open.ensures.exact, (Err refusal, rw e at c.in_err-binders.ensures.exact, refl)))

pub returns-in_err-_close-clause-exact : goal.returns-in_err-_close-clause-exact
returns-in_err-_close-clause-exact c =
    stopped (λ (x : List Binder × ℕ). x) (specs.arguments c.args.text.bytes.now c.args.text.tokens.now c.args.at) c.from_residual-in_err-_close.result c.in_err-_close.field-0.0 c.from_residual-in_err-_close.ensures.1
    (λ refusal e. (Ok (c.in_ok-_open._open, c.in_ok-_open.first), c.in_ok-_open.ensures.exact, (Ok (c.in_ok-binders.binders, c.in_ok-binders.end), c.in_ok-binders.ensures.exact, (Err refusal, rw e at c.in_err-_close.ensures.exact, refl))))

pub returns-clause-exact : goal.returns-clause-exact
returns-clause-exact c =
    (Ok (c.in_ok-_open._open, c.in_ok-_open.first), c.in_ok-_open.ensures.exact, (Ok (c.in_ok-binders.binders, c.in_ok-binders.end), c.in_ok-binders.ensures.exact, (Ok (c.in_ok-_close._close, c.in_ok-_close.behind), c.in_ok-_close.ensures.exact, refl)))
