use Rattle.std.proofs.Common.{◌≡◌, drop}
use Rattle.std.specs.Prelude.{bytes_eq}
use Rattle.std.specs.Map.{lookup}
use Rattle.floyd_assert_changes.specs.ChangesClauses.{changes_of}
use Rattle.floyd_assert_changes.proofs.changing.found_in.Given as goal

abbrev pub invariant-changes : goal.invariant-changes
invariant-changes l = lookup (bytes_eq l.x) (changes_of (drop l.change-index l.all)) ≡ lookup (bytes_eq l.x) (changes_of l.all)
