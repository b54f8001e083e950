use Rattle.std.proofs.Common.{◌≡◌, drop, Some, pos}
use Rattle.floyd_arith.specs.Certificates.{summed}
use Rattle.floyd_arith.specs.Linear.{constant, within}
use Rattle.floyd_arith.proofs.certificates.summed.Given as goal

abbrev pub invariant-weights : goal.invariant-weights
invariant-weights l = record {
  sum : summed l.hyps l.target l.sum (drop l.w-index l.weights) ≡ summed l.hyps l.target (constant (pos 0)) l.weights;
  small : within l.sum ≡ Some l.sum;
}
