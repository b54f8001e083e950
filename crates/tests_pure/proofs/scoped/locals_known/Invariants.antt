use Rattle.std.proofs.Common.{◌≡◌, drop}
use Rattle.tests_pure.specs.Scoped.{locals_known}
use Rattle.tests_pure.proofs.scoped.locals_known.Given as goal

abbrev pub invariant-locals : goal.invariant-locals
invariant-locals l = locals_known l.binders (drop l.local-index l.locals) ≡ locals_known l.binders l.locals
