use Rattle.std.proofs.Common.{◌≡◌, ◌++◌, drop}
use Rattle.floyd_assert_changes.specs.ChangesClauses.{changes_of}
use Rattle.floyd_assert_changes.proofs.prepare.push_changes.Given as goal

abbrev pub invariant-changes : goal.invariant-changes
invariant-changes l = changes_of l.all.items ++ changes_of (drop l.change-index l.by) ≡ changes_of l.initial.all.items ++ changes_of l.by
