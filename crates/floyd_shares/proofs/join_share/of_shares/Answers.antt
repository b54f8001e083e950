use Rattle.std.proofs.Common.{sym, ◌∙◌}
use Rattle.floyd_shares.proofs.ShareLemmas.{false_is_true, shares_differ, shares_same}
use Rattle.floyd_shares.proofs.join_share.of_shares.Goals as goal

pub returns-then-same : goal.returns-then-same
returns-then-same g c = record {
  exact = shares_same c.args.first.now c.args.second.now c.args.a.now c.args.b.now c.with_both.result (c.in_ok-same.ensures.0 c.if-same.true) c.with_both.ensures.exact;
}

pub returns-else-same : goal.returns-else-same
returns-else-same g c = record {
  exact = shares_differ c.args.first.now c.args.second.now c.args.a.now c.args.b.now c.wrong_goal.result c.wrong_goal.ensures (λ e. false_is_true (sym c.if-same.false ∙ c.in_ok-same.ensures.1 e));
}
