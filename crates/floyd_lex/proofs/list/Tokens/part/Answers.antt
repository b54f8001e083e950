use Rattle.std.proofs.Common.{arith}
use Rattle.floyd_lex.proofs.ListLemmas.{part_more}
use Rattle.floyd_lex.proofs.list.Tokens.part.Goals as goal

pub each-preserved : goal.each-preserved
each-preserved c = record {
  from = omega (arith, c.each.invariant.from);
  to = omega (arith, c.each-test.true);
  part = part_more c.args.self.now c.each.part c.push_from.new.self c.args.from c.each.at c.each.invariant.from (omega (arith, c.each-test.true, c.requires.within)) c.each.invariant.part c.in_ok-push_from.ensures.ok;
}
