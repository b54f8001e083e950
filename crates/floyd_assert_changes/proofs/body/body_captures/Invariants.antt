use Rattle.std.proofs.Common.{◌≡◌, drop}
use Rattle.std.specs.List.{list_any}
use Rattle.floyd_assert_changes.specs.BodyClauses.{body_capturing}
use Rattle.floyd_assert_changes.specs.ChangesClauses.{changes_of}
use Rattle.floyd_assert_changes.proofs.body.body_captures.Given as goal

abbrev pub invariant-changes : goal.invariant-changes
invariant-changes l = list_any (body_capturing (changes_of l.whole) l.a l.x) (changes_of (drop l.change-index l.part)) ≡ list_any (body_capturing (changes_of l.whole) l.a l.x) (changes_of l.part)
