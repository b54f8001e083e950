use Rattle.std.proofs.Common.{◌≡◌, drop}
use Rattle.floyd_arith.specs.LinearClauses.{place_from}
use Rattle.floyd_arith.proofs.unknowns.place_of.Given as goal

abbrev pub invariant-unknowns : goal.invariant-unknowns
invariant-unknowns l = place_from l.i (drop l.i l.unknowns) l.t ≡ place_from 0 l.unknowns l.t
