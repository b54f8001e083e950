use Rattle.std.proofs.Common.{◌≡◌, ◌++◌, drop}
use Rattle.floyd_pure_quantifiers.specs.EquationsClauses.{AreMade}
use Rattle.floyd_pure_quantifiers.specs.Inject.{equations}
use Rattle.floyd_pure_quantifiers.proofs.inject.equations.Given as goal

abbrev pub invariant-terms : goal.invariant-terms
invariant-terms g l = record {
  are_made : AreMade (equations (drop l.i l.ts) (drop l.i l.us));
  so_far : l.all ++ equations (drop l.i l.ts) (drop l.i l.us) ≡ equations l.ts l.us;
}
