use Rattle.std.proofs.Common.{◌≡◌, ◌++◌, drop}
use Rattle.floyd_link_names.proofs.entries.share_types.Given as goal

abbrev pub invariant-types : goal.invariant-types
invariant-types l = l.all ++ drop l.ctype-index l.types ≡ l.types
