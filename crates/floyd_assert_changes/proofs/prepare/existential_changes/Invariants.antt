use Rattle.std.proofs.Common.{◌≡◌, ◌-◌, ◌++◌, take, length}
use Rattle.floyd_assert_changes.specs.Changed.{below_existentials}
use Rattle.floyd_assert_changes.specs.ChangesClauses.{changes_of}
use Rattle.floyd_assert_changes.proofs.prepare.existential_changes.Given as goal

abbrev pub invariant-existentials : goal.invariant-existentials
invariant-existentials l =
    changes_of l.all.items ++ below_existentials (changes_of l.by) (take (length l.old - l.i) l.old) (take (length l.old - l.i) l.new)
    ≡ below_existentials (changes_of l.by) l.old l.new
