use Rattle.std.proofs.Common.{ℕ, Ok, Err, refl, ap}
use Rattle.floyd_goal_trees.specs.declared.args.Args.{Args}
use Rattle.floyd_text.specs.declared.refusal.Halt.TheVariants.{Refused}
use Rattle.floyd_termread.specs.Brackets.{outermost}
use Rattle.floyd_play_arguments.proofs.Chains.{stopped}
use Rattle.floyd_play_terms.specs.Expected.{expected as sort_by}
use Rattle.floyd_play_reading.specs.Arguments as specs
use Rattle.floyd_play_reading.specs.Expected as of
use Rattle.floyd_play_reading.proofs.ReadingLemmas.{terms_as}
use Rattle.floyd_play_reading.proofs.terms.named_twice_at.Goals as goal

pub returns-in_err-terms-clause-exact : goal.returns-in_err-terms-clause-exact
returns-in_err-terms-clause-exact c =
    stopped (λ (x : Args × ℕ). x) (specs.named_twice c.args.text.bytes.now c.args.text.tokens.now c.args.around.defs.now c.args.around.specs.now (outermost c.args.scope.now) c.args.around.goal.now c.args.around.rule c.args.at) c.from_residual-in_err-terms.result c.in_err-terms.field-0.0 c.from_residual-in_err-terms.ensures.1
    (λ refusal e. (Ok (c.in_ok-name.name, c.in_ok-name.first), c.in_ok-name.ensures.exact, (Err refusal, rw e at c.in_err-terms.ensures.exact, refl)))

pub returns-in_err-more-clause-exact : goal.returns-in_err-more-clause-exact
returns-in_err-more-clause-exact c =
    stopped (λ (x : Args × ℕ). x) (specs.named_twice c.args.text.bytes.now c.args.text.tokens.now c.args.around.defs.now c.args.around.specs.now (outermost c.args.scope.now) c.args.around.goal.now c.args.around.rule c.args.at) c.from_residual-in_err-more.result c.in_err-more.field-0.0 c.from_residual-in_err-more.ensures.1
    (λ refusal e. (Ok (c.in_ok-name.name, c.in_ok-name.first), c.in_ok-name.ensures.exact, (Ok (c.in_ok-terms.terms, c.in_ok-terms.second), c.in_ok-terms.ensures.exact, (Err refusal, terms_as c.args.text.bytes.now c.args.text.tokens.now (outermost c.args.scope.now) (sort_by c.expected_more-expected.result) (of.expected_more c.args.around.defs.now c.in_ok-name.name c.in_ok-terms.terms) (rw c.as_slice.ensures at c.expected_more-expected.ensures) c.in_ok-terms.second (Err (Refused refusal)) (rw e at c.in_err-more.ensures.exact), refl))))

pub returns-clause-exact : goal.returns-clause-exact
returns-clause-exact c =
    (Ok (c.in_ok-name.name, c.in_ok-name.first), c.in_ok-name.ensures.exact, (Ok (c.in_ok-terms.terms, c.in_ok-terms.second), c.in_ok-terms.ensures.exact, (Ok (c.in_ok-more.more, c.in_ok-more.behind), terms_as c.args.text.bytes.now c.args.text.tokens.now (outermost c.args.scope.now) (sort_by c.expected_more-expected.result) (of.expected_more c.args.around.defs.now c.in_ok-name.name c.in_ok-terms.terms) (rw c.as_slice.ensures at c.expected_more-expected.ensures) c.in_ok-terms.second (Ok (c.in_ok-more.more, c.in_ok-more.behind)) c.in_ok-more.ensures.exact, ap (λ (a : Args). Ok (a, c.in_ok-more.behind)) c.in_ok-args.ensures)))
