use Rattle.std.proofs.Common.{◌≡◌, drop}
use Rattle.floyd_entail_cancel.specs.Cancel.{value_of}
use Rattle.floyd_entail_cancel.proofs.locals.value_of.Given as goal

abbrev pub invariant-locals : goal.invariant-locals
invariant-locals l = value_of (drop l.local-index l.locals) l.name ≡ value_of l.locals l.name
