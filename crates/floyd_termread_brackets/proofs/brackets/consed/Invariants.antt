use Rattle.std.proofs.Common.{◌≡◌, drop, Ok}
use Rattle.floyd_termread_brackets.specs.Brackets.{consed}
use Rattle.floyd_termread_brackets.proofs.brackets.consed.Given as goal

abbrev pub invariant-terms : goal.invariant-terms
invariant-terms l = consed l.place l.item (drop l.i l.terms) ≡ Ok l.list
