use Rattle.std.proofs.Common.{◌≡◌, drop}
use Rattle.floyd_arith.specs.Certificates.{first_absent}
use Rattle.floyd_arith.proofs.certificates.first_absent.Given as goal

abbrev pub invariant-weights : goal.invariant-weights
invariant-weights l = first_absent l.hyps l.target (drop l.w-index l.weights) ≡ first_absent l.hyps l.target l.weights
