use Rattle.std.proofs.Common.{◌≡◌, ◌+◌, drop}
use Rattle.floyd_entail_cancel.specs.Cancel.{number_among}
use Rattle.floyd_entail_cancel.proofs.parts.number_among.Given as goal

abbrev pub invariant-parts : goal.invariant-parts
invariant-parts l = number_among (drop l.i l.parts) l.left + l.i ≡ number_among l.parts l.number
