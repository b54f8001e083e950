use Rattle.std.proofs.Common.{◌≡◌, ◌++◌, drop}
use Rattle.floyd_soundness.specs.Keys.{is_proved}
use Rattle.floyd_soundness.specs.Unproved.{missing_from}
use Rattle.floyd_soundness.proofs.missing.put_modules.Given as goal

abbrev pub invariant-modules : goal.invariant-modules
invariant-modules l = l.all ++ missing_from (is_proved l.keys) l.i (drop l.i l.modules) ≡ l.initial.all ++ missing_from (is_proved l.keys) 0 l.modules
