use Rattle.std.proofs.Common.{◌≡◌, drop}
use Rattle.tests_pure.specs.Known.{all_known}
use Rattle.tests_pure.proofs.known.all_known.Given as goal

abbrev pub invariant-formulas : goal.invariant-formulas
invariant-formulas l = all_known l.binders (drop l.f-index l.all) ≡ all_known l.binders l.all
