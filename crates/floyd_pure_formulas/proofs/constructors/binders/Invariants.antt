use Rattle.std.proofs.Common.{◌≡◌, ◌++◌, drop, length}
use Rattle.floyd_pure_formulas.specs.VariableCases.{zipped}
use Rattle.floyd_pure_formulas.proofs.constructors.binders.Given as goal

abbrev pub invariant-names : goal.invariant-names
invariant-names l = record {
  all : l.all.items ++ zipped (drop l.i l.names) (drop l.i l.sorts) ≡ zipped l.names l.sorts;
  same : length l.names ≡ length l.sorts;
}
