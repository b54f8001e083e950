use Rattle.std.proofs.Common.{◌≡◌, take}
use Rattle.floyd_elab.proofs.parameters.share_types.Given as goal

-- the types so far are shared
abbrev pub invariant-types : goal.invariant-types
invariant-types l = l.all ≡ take l.t-index l.types
