use Rattle.std.proofs.Common.{◌≡◌, drop}
use Rattle.tests_pure.specs.Scoped.{parts_known}
use Rattle.tests_pure.proofs.scoped.parts_known.Given as goal

abbrev pub invariant-parts : goal.invariant-parts
invariant-parts l = parts_known l.binders (drop l.part-index l.parts) ≡ parts_known l.binders l.parts
