use Rattle.std.proofs.Common.{sym, ap, ◌∙◌}
use Rattle.floyd_arith.specs.LinearClauses.{kept}
use Rattle.floyd_arith.proofs.CertificateLemmas.{next_sum}
use Rattle.floyd_arith.proofs.LinearLemmas.{onto_small}
use Rattle.floyd_arith.proofs.certificates.summed.Goals as goal

pub weights-preserved : goal.weights-preserved
weights-preserved c =
    let next = sym c.in_ok-add_weight.ensures ∙ ap (λ b. kept b c.add_weight.new.sum) c.if-not-branch.false in
    record {
      sum = next_sum c.args.hyps.now c.args.target.now c.weights.sum c.add_weight.new.sum c.args.weights.now c.weights.w-index _ c.weights-test.true next ∙ c.weights.invariant.sum;
      small = onto_small c.weights.sum c.add_weight.new.sum _ _ next;
    }
