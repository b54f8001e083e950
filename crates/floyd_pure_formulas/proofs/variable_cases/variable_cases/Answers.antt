use Rattle.std.proofs.Common.{sym, ◌∙◌}
use Rattle.floyd_pure_formulas.proofs.Building.{are_of}
use Rattle.floyd_pure_formulas.proofs.variable_cases.variable_cases.Goals as goal

pub of_binders-requires-clause-of : goal.of_binders-requires-clause-of
of_binders-requires-clause-of g c = are_of c.in-Some.sort.now c.in-Some-2.c (sym c.in_ok-c.ensures ∙ c.in-Some-2.is)
