use Rattle.std.proofs.Common.{◌≡◌, drop}
use Rattle.floyd_arith.specs.Certificates.{first_negative}
use Rattle.floyd_arith.proofs.certificates.first_negative.Given as goal

abbrev pub invariant-weights : goal.invariant-weights
invariant-weights l = first_negative l.hyps l.target (drop l.w-index l.weights) ≡ first_negative l.hyps l.target l.weights
