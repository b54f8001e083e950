use Rattle.std.proofs.Common.{◌≡◌, ◌++◌, take}
use Rattle.floyd_termread_formulas.proofs.paths.put_terms.Given as goal

abbrev pub invariant-terms : goal.invariant-terms
invariant-terms l = l.all ≡ l.initial.all ++ take l.term-index l.terms
