use Rattle.std.proofs.Common.{sym, ◌∙◌}
use Rattle.floyd_arrays.proofs.JoinLemmas.{false_is_true, joins_apart, joins_meet}
use Rattle.floyd_arrays.proofs.join_array.joins.Goals as goal

pub returns-then-met : goal.returns-then-met
returns-then-met g c = record {
  exact = joins_meet c.args.structs.now c.args.second.now c.args.a.now c.args.b.now c.union.result (c.in_ok-met.ensures.0 c.if-met.true) c.union.ensures.exact;
}

pub returns-else-met : goal.returns-else-met
returns-else-met g c = record {
  exact = joins_apart c.args.structs.now c.args.second.now c.args.a.now c.args.b.now c.wrong_goal.result c.wrong_goal.ensures (λ m. false_is_true (sym c.if-met.false ∙ c.in_ok-met.ensures.1 m));
}
