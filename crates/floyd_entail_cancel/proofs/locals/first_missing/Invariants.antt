use Rattle.std.proofs.Common.{◌≡◌, drop}
use Rattle.floyd_entail_cancel.specs.Cancel.{first_missing}
use Rattle.floyd_entail_cancel.proofs.locals.first_missing.Given as goal

abbrev pub invariant-locals : goal.invariant-locals
invariant-locals l = first_missing l.source (drop l.local-index l.target) ≡ first_missing l.source l.target
