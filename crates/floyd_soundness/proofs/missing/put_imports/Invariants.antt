use Rattle.std.proofs.Common.{◌≡◌, ◌++◌, drop}
use Rattle.std.specs.List.{flat_map}
use Rattle.floyd_soundness.specs.KeyClauses.{knows}
use Rattle.floyd_soundness.specs.Unproved.{missing_import}
use Rattle.floyd_soundness.proofs.missing.put_imports.Given as goal

abbrev pub invariant-imports : goal.invariant-imports
invariant-imports l = l.all ++ flat_map (missing_import (knows l.proved)) (drop l.import-index l.imports) ≡ l.initial.all ++ flat_map (missing_import (knows l.proved)) l.imports
