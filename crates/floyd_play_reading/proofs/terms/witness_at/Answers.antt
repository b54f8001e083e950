use Rattle.std.proofs.Common.{ℕ, Ok, Err, refl, ap, ◌∙◌}
use Rattle.floyd_goal_trees.specs.declared.args.Args.{Args}
use Rattle.floyd_termread.specs.Brackets.{outermost}
use Rattle.floyd_play_arguments.proofs.Chains.{stopped}
use Rattle.floyd_play_reading.specs.Arguments as specs
use Rattle.floyd_play_reading.proofs.terms.witness_at.Goals as goal

pub returns-in_err-term-clause-exact : goal.returns-in_err-term-clause-exact
returns-in_err-term-clause-exact c =
    stopped (λ (x : Args × ℕ). x) (specs.witness c.args.text.bytes.now c.args.text.tokens.now (outermost c.args.scope.now) c.args.around.goal.now c.args.at) c.from_residual-in_err-term.result c.in_err-term.field-0.0 c.from_residual-in_err-term.ensures.1
    (λ refusal e. (Err refusal, rw (e, c.in_ok-sort.ensures) at c.in_err-term.ensures.exact, refl))

pub returns-clause-exact : goal.returns-clause-exact
returns-clause-exact c =
    (Ok (c.in_ok-term.term, c.in_ok-term.behind), rw c.in_ok-sort.ensures at c.in_ok-term.ensures.exact, ap (λ (a : Args). Ok (a, c.in_ok-term.behind)) (c.in_ok-args.ensures ∙ ap (λ (n : Args). specs.with_term n c.in_ok-term.term) c.in_ok-none.ensures))
