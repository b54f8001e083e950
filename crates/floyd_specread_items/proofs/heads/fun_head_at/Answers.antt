use Rattle.std.proofs.Common.{ℕ, Ok, Err, refl}
use Rattle.floyd_specread_items.specs.declared.heads.FunHead.{FunHead}
use Rattle.floyd_specread_items.specs.Heads as specs
use Rattle.floyd_termread_parts.proofs.Chains.{stopped}
use Rattle.floyd_specread_items.proofs.heads.fun_head_at.Goals as goal

pub returns-in_err-_colon-clause-exact : goal.returns-in_err-_colon-clause-exact
returns-in_err-_colon-clause-exact c =
    stopped (λ (x : FunHead × ℕ). x) (specs.fun_head c.args.text.bytes.now c.args.text.tokens.now c.args.at) c.from_residual-in_err-_colon.result c.in_err-_colon.field-0.0 c.from_residual-in_err-_colon.ensures.1
    (λ refusal e. (Ok (c.in_ok-arguments.arguments, c.in_ok-arguments.first), c.in_ok-arguments.ensures.exact, (Err refusal, rw e at c.in_err-_colon.ensures.exact, refl)))

pub returns-in_err-sort-clause-exact : goal.returns-in_err-sort-clause-exact
returns-in_err-sort-clause-exact c =
    stopped (λ (x : FunHead × ℕ). x) (specs.fun_head c.args.text.bytes.now c.args.text.tokens.now c.args.at) c.from_residual-in_err-sort.result c.in_err-sort.field-0.0 c.from_residual-in_err-sort.ensures.1
    (λ refusal e. (Ok (c.in_ok-arguments.arguments, c.in_ok-arguments.first), c.in_ok-arguments.ensures.exact, (Ok (c.in_ok-_colon._colon, c.in_ok-_colon.second), c.in_ok-_colon.ensures.exact, (Err refusal, rw e at c.in_err-sort.ensures.exact, refl))))

pub returns-in_err-_equal-clause-exact : goal.returns-in_err-_equal-clause-exact
returns-in_err-_equal-clause-exact c =
    stopped (λ (x : FunHead × ℕ). x) (specs.fun_head c.args.text.bytes.now c.args.text.tokens.now c.args.at) c.from_residual-in_err-_equal.result c.in_err-_equal.field-0.0 c.from_residual-in_err-_equal.ensures.1
    (λ refusal e. (Ok (c.in_ok-arguments.arguments, c.in_ok-arguments.first), c.in_ok-arguments.ensures.exact, (Ok (c.in_ok-_colon._colon, c.in_ok-_colon.second), c.in_ok-_colon.ensures.exact, (Ok (c.in_ok-sort.sort, c.in_ok-sort.third), c.in_ok-sort.ensures.exact, (Err refusal, rw e at c.in_err-_equal.ensures.exact, refl)))))

pub returns-clause-exact : goal.returns-clause-exact
returns-clause-exact c =
    (Ok (c.in_ok-arguments.arguments, c.in_ok-arguments.first), c.in_ok-arguments.ensures.exact, (Ok (c.in_ok-_colon._colon, c.in_ok-_colon.second), c.in_ok-_colon.ensures.exact, (Ok (c.in_ok-sort.sort, c.in_ok-sort.third), c.in_ok-sort.ensures.exact, (Ok (c.in_ok-_equal._equal, c.in_ok-_equal.behind), c.in_ok-_equal.ensures.exact, refl))))
