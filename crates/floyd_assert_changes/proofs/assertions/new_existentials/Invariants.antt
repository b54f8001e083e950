use Rattle.std.proofs.Common.{◌≡◌, [], drop, length}
use Rattle.floyd_assert_changes.specs.Changed.{renamed_from}
use Rattle.floyd_assert_changes.specs.ChangesClauses.{changes_of}
use Rattle.floyd_assert_changes.proofs.assertions.new_existentials.Given as goal

abbrev pub invariant-existentials : goal.invariant-existentials
invariant-existentials l = record {
  names : renamed_from (changes_of l.by) l.a l.done.items (drop l.i l.a.existentials) ≡ renamed_from (changes_of l.by) l.a [] l.a.existentials;
  count : length l.done.items ≡ l.i;
}
