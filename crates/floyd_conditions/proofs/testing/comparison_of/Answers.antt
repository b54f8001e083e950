use Rattle.std.proofs.Common.{sym, ◌∙◌}
use Rattle.floyd_conditions.proofs.BranchLemmas.{compares, counts}
use Rattle.floyd_conditions.proofs.testing.comparison_of.Goals as goal

pub returns-then-is_comparison : goal.returns-then-is_comparison
returns-then-is_comparison c =
    compares c.args.e.now c.in-Binary.op c.in-Binary.a c.in-Binary.b c.get.result.now c.get-then-is_comparison.result.now c.in-Binary.field-3 c.in-Binary.is (sym c.is_comparison.ensures ∙ c.if-is_comparison.true)
    c.get.ensures c.get-then-is_comparison.ensures

pub returns-else-is_comparison : goal.returns-else-is_comparison
returns-else-is_comparison c =
    counts c.args.e.now c.in-Binary.op c.in-Binary.a c.in-Binary.b c.in-Binary.field-3 c.in-Binary.is (sym c.is_comparison.ensures ∙ c.if-is_comparison.false)
