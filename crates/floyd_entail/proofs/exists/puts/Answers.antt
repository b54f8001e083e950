use Rattle.floyd_entail.proofs.ExistsLemmas.{puts_first}
use Rattle.floyd_entail.proofs.exists.puts.Goals as goal

pub returns-in-len1-up : goal.returns-in-len1-up
returns-in-len1-up g c = record {
  exact = puts_first c.args.entail.now c.args.binder.now c.args.more.now c.args.terms.now c.term-item.result c.puts_term.result c.in-len1-up.len_at_least c.term-item.is c.puts_term.ensures.exact;
}
