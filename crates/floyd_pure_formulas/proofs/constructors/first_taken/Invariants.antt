use Rattle.std.proofs.Common.{◌≡◌, [], drop, take}
use Rattle.floyd_pure_formulas.specs.VariableCases.{first_taken}
use Rattle.floyd_pure_formulas.proofs.constructors.first_taken.Given as goal

abbrev pub invariant-new : goal.invariant-new
invariant-new l = first_taken l.variables (take l.i l.new) (drop l.i l.new) ≡ first_taken l.variables [] l.new
