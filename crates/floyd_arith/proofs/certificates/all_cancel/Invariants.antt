use Rattle.std.proofs.Common.{◌≡◌, drop}
use Rattle.floyd_arith.specs.Certificates.{all_cancel}
use Rattle.floyd_arith.proofs.certificates.all_cancel.Given as goal

abbrev pub invariant-unknowns : goal.invariant-unknowns
invariant-unknowns l = all_cancel (drop l.unknown-index l.unknowns) ≡ all_cancel l.unknowns
