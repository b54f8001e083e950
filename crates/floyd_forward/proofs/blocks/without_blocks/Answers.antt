use Rattle.std.proofs.Common.{◌∙◌, subst}
use Rattle.floyd_text.specs.Gives.{RuleStops}
use Rattle.floyd_forward.proofs.ReturnLemmas.{block_more, block_stops}
use Rattle.floyd_forward.proofs.blocks.without_blocks.Goals as goal

pub returns-in-Err : goal.returns-in-Err
returns-in-Err g c =
    record {
      exact = subst (λ d. RuleStops c.in-Err.stop d) c.each.invariant
          (block_stops c.args.blocks.now c.each.block-index c.block-item.result c.each.left c.in-Err.stop c.each-test.true c.block-item.is c.in-Err.ensures.exact);
    }

pub each-preserved : goal.each-preserved
each-preserved g c =
    block_more c.args.blocks.now c.each.block-index c.block-item.result c.each.left c.in-Ok.parts c.each-test.true c.block-item.is c.in-Ok.ensures.exact ∙ c.each.invariant
