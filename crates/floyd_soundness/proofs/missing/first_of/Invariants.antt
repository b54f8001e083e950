use Rattle.std.proofs.Common.{◌≡◌, None, drop}
use Rattle.std.specs.Option.{option_copied}
use Rattle.floyd_soundness.specs.Unproved.{first_from}
use Rattle.floyd_soundness.proofs.missing.first_of.Given as goal

abbrev pub invariant-all : goal.invariant-all
invariant-all l = first_from (option_copied l.best) (drop l.missing-index l.all) ≡ first_from None l.all
