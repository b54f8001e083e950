use Rattle.std.proofs.Common.{◌≡◌, ◌++◌, drop}
use Rattle.floyd_link_parts.proofs.sharing.share_names.Given as goal

abbrev pub invariant-names : goal.invariant-names
invariant-names l = l.all ++ drop l.name-index l.names ≡ l.names
