use Rattle.std.proofs.Common.{◌≡◌, [], drop}
use Rattle.floyd_specread_sources.specs.Tables.{joined}
use Rattle.floyd_link_modules.proofs.items.once_preds.Given as goal

abbrev pub invariant-items : goal.invariant-items
invariant-items l = joined (drop l.i l.items) l.all ≡ joined l.items []
