use Rattle.std.proofs.Common.{ℕ, List, [], sym, subst, ◌∙◌}
use Rattle.floyd_lex.specs.declared.kinds.Punctuator.TheVariants as p
use Rattle.floyd_tree.specs.declared.weights.Weight.{Weight}
use Rattle.floyd_termread_marks.specs.Lists.{Listed}
use Rattle.floyd_termread_marks.proofs.ListLemmas.{SoFar, one_more, refused_there, ended}
use Rattle.floyd_play_arguments.specs.Arguments as specs
use Rattle.floyd_play_arguments.proofs.Chains.{stopped}
use Rattle.floyd_play_arguments.proofs.lists.more_weights.Goals as goal

pub returns-in_err-weight-clause-exact : goal.returns-in_err-weight-clause-exact
returns-in_err-weight-clause-exact c =
    stopped (λ (x : List Weight × ℕ). x) (Listed c.args.text.bytes.now c.args.text.tokens.now 1 p.Comma (specs.weight c.args.text.bytes.now c.args.text.tokens.now) [] c.args.at) c.from_residual.result c.in_err-weight.field-0.0 c.from_residual.ensures.1
    (λ refusal e. refused_there c.args.text.bytes.now c.args.text.tokens.now 1 p.Comma (specs.weight c.args.text.bytes.now c.args.text.tokens.now) c.args.at c.each.weights c.each.next refusal c.each.invariant.so_far (sym c.leads_mark.ensures.value ∙ c.each-test.true) (rw (e, c.as_slice.ensures) at c.in_err-weight.ensures.exact))

pub each-preserved : goal.each-preserved
each-preserved c =
    record {
      within = c.in_ok-weight.ensures.within;
      so_far = subst (λ (xs : List Weight). SoFar c.args.text.bytes.now c.args.text.tokens.now 1 p.Comma (specs.weight c.args.text.bytes.now c.args.text.tokens.now) c.args.at xs c.in_ok-weight.behind) (sym c.in_ok-push.ensures.ok) (one_more c.args.text.bytes.now c.args.text.tokens.now 1 p.Comma (specs.weight c.args.text.bytes.now c.args.text.tokens.now) c.args.at c.each.weights c.each.next c.in_ok-weight.weight c.in_ok-weight.behind c.each.invariant.so_far (sym c.leads_mark.ensures.value ∙ c.each-test.true) (rw c.as_slice.ensures at c.in_ok-weight.ensures.exact));
    }

pub returns-clause-exact : goal.returns-clause-exact
returns-clause-exact c =
    ended c.args.text.bytes.now c.args.text.tokens.now 1 p.Comma (specs.weight c.args.text.bytes.now c.args.text.tokens.now) c.args.at c.each.weights c.each.next c.each.invariant.so_far (sym c.leads_mark.ensures.value ∙ c.each-test.false)
