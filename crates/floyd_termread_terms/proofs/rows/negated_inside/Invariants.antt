use Rattle.std.proofs.Common.{◌≡◌, drop, Ok}
use Rattle.floyd_termread_terms.specs.Rows.{negated_inside}
use Rattle.floyd_termread_terms.proofs.rows.negated_inside.Given as goal

abbrev pub invariant-prefixes : goal.invariant-prefixes
invariant-prefixes l = negated_inside (drop l.i l.prefixes) l.fn.t ≡ Ok l.t
