use Rattle.std.proofs.Common.{◌≡◌, ◌++◌, drop}
use Rattle.floyd_entail_cancel.specs.Cancel.{solid}
use Rattle.floyd_entail_cancel.proofs.parts.solid.Given as goal

abbrev pub invariant-parts : goal.invariant-parts
invariant-parts l = l.all ++ solid (drop l.part-index l.parts) ≡ solid l.parts
