use Rattle.std.proofs.Common.{sym, ◌∙◌, arith}
use Rattle.floyd_specread_recursion.specs.Structural.{stands_before}
use Rattle.floyd_specread_recursion.proofs.RunLemmas.{run_goes_on, run_ends}
use Rattle.floyd_specread_recursion.proofs.runs.first_from.Goals as goal

pub tokens-preserved : goal.tokens-preserved
tokens-preserved c =
    let there = sym c.leads_before.ensures.value ∙ c.tokens-test.true in
    record {
      from = omega (arith, c.tokens.invariant.from);
      within = omega (arith, c.leads_before.ensures.there c.tokens-test.true);
      so_far = omega (arith, c.tokens.invariant.so_far, run_goes_on c.args.text.bytes.now c.args.text.tokens.now (stands_before c.args.place) c.tokens.next (c.leads_before.ensures.there c.tokens-test.true) there);
    }

pub returns : goal.returns
returns c = record {
  value = omega (arith, c.tokens.invariant.so_far, run_ends c.args.text.bytes.now c.args.text.tokens.now (stands_before c.args.place) c.tokens.next (sym c.leads_before.ensures.value ∙ c.tokens-test.false));
  within = c.tokens.invariant.within;
  from = c.tokens.invariant.from;
}
