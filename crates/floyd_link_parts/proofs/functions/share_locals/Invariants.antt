use Rattle.std.proofs.Common.{◌≡◌, ◌++◌, drop}
use Rattle.floyd_link_parts.proofs.functions.share_locals.Given as goal

abbrev pub invariant-locals : goal.invariant-locals
invariant-locals l = l.all ++ drop l.local-index l.locals ≡ l.locals
