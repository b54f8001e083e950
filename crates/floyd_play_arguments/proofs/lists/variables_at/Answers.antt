use Rattle.std.proofs.Common.{ℕ, List, sym, subst, ◌∙◌}
use Rattle.floyd_play_arguments.proofs.VariableLemmas.{SoFar, one_more, ended}
use Rattle.floyd_play_arguments.proofs.lists.variables_at.Goals as goal

pub each-preserved : goal.each-preserved
each-preserved c =
    record {
      within = c.in_ok-name.ensures.within;
      so_far = subst (λ (xs : List (List ℕ)). SoFar c.args.text.bytes.now c.args.text.tokens.now c.args.at xs c.in_ok-name.behind) (sym c.in_ok-push.ensures.ok) (one_more c.args.text.bytes.now c.args.text.tokens.now c.args.at c.each.names c.each.next c.in_ok-name.name c.in_ok-name.behind c.each.invariant.so_far (sym c.leads_variable.ensures ∙ c.each-test.true) c.in_ok-name.ensures.exact);
    }

pub returns-clause-exact : goal.returns-clause-exact
returns-clause-exact c =
    ended c.args.text.bytes.now c.args.text.tokens.now c.args.at c.each.names c.each.next c.each.invariant.so_far (sym c.leads_variable.ensures ∙ c.each-test.false)
