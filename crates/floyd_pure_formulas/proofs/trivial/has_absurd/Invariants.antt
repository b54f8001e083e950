use Rattle.std.proofs.Common.{◌↔◌, drop}
use Rattle.floyd_pure_formulas.specs.Trivial.{HasAbsurd}
use Rattle.floyd_pure_formulas.proofs.trivial.has_absurd.Given as goal

abbrev pub invariant-hypotheses : goal.invariant-hypotheses
invariant-hypotheses l = HasAbsurd (drop l.hypothesis-index l.hypotheses) ↔ HasAbsurd l.hypotheses
