use Rattle.std.proofs.Common.{sym, ◌∙◌, arith}
use Rattle.floyd_termread_tokens.specs.Tokens.{is_mark}
use Rattle.floyd_specread_recursion.proofs.RunLemmas.{run_goes_on, run_ends}
use Rattle.floyd_specread_recursion.proofs.runs.marks_from.Goals as goal

pub marks-preserved : goal.marks-preserved
marks-preserved c =
    let there = sym c.leads_mark.ensures.value ∙ c.marks-test.true in
    record {
      from = omega (arith, c.marks.invariant.from);
      within = omega (arith, c.leads_mark.ensures.there c.marks-test.true);
      so_far = omega (arith, c.marks.invariant.from, c.marks.invariant.so_far, run_goes_on c.args.text.bytes.now c.args.text.tokens.now (is_mark c.args.mark) c.marks.next (c.leads_mark.ensures.there c.marks-test.true) there);
    }

pub returns : goal.returns
returns c = record {
  value = omega (arith, c.marks.invariant.so_far, run_ends c.args.text.bytes.now c.args.text.tokens.now (is_mark c.args.mark) c.marks.next (sym c.leads_mark.ensures.value ∙ c.marks-test.false));
  within = omega (arith, c.marks.invariant.from, c.marks.invariant.within);
}
