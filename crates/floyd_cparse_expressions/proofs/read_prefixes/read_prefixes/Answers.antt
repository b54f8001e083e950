use Rattle.std.proofs.Common.{length-append, sym, ◌∙◌, arith}
use Rattle.floyd_cparse_expressions.proofs.PrefixShrinks.{one_prefix_eats}
use Rattle.floyd_cparse_tokens.proofs.ReadLemmas.{gives_next}
use Rattle.floyd_cparse_expressions.proofs.read_prefixes.read_prefixes.Goals as goal

pub each-smaller : goal.each-smaller
each-smaller c = (one_prefix_eats c.args.types.now c.args.room c.each.all).law c.each.reader c.in_ok-next.next c.read_prefix.new.reader c.in_ok-next.ensures.value

pub each-preserved : goal.each-preserved
each-preserved c = rw c.in_ok-all.ensures record {
  turning =
      gives_next c.each.invariant.turning (one_prefix_eats c.args.types.now c.args.room c.each.all) (sym c.leads_prefix.ensures.value ∙ c.each-test.true) c.in_ok-next.next c.read_prefix.new.reader c.in_ok-next.ensures.value;
  room = omega (arith, length-append c.each.all.items c.in_ok-next.next.items, c.in_ok-next.ensures.one, c.leads_prefix.ensures.room c.each-test.true);
}
