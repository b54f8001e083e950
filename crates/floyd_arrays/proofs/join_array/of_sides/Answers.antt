use Rattle.std.proofs.Common.{sym, ◌∙◌}
use Rattle.floyd_arrays.proofs.JoinLemmas.{false_is_true, sum_other}
use Rattle.floyd_arrays.proofs.join_array.of_sides.Goals as goal

pub returns : goal.returns
returns g c = record {
  exact = sum_other c.args.m.now c.args.c.now c.args.whole.now c.args.less.now c.plus.result (λ e. false_is_true (sym c.if-same.false ∙ c.equal-same.ensures.1 e)) c.plus.ensures.exact;
}
