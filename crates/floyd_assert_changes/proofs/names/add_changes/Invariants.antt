use Rattle.std.proofs.Common.{◌≡◌, drop}
use Rattle.floyd_assert_changes.specs.ChangesClauses.{changes_of}
use Rattle.floyd_assert_changes.specs.NamesClauses.{new_term_names}
use Rattle.floyd_assert_changes.proofs.names.add_changes.Given as goal

abbrev pub invariant-changes : goal.invariant-changes
invariant-changes l = new_term_names (changes_of (drop l.change-index l.all)) l.names ≡ new_term_names (changes_of l.all) l.initial.names
