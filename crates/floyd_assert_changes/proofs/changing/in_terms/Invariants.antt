use Rattle.std.proofs.Common.{◌≡◌, drop}
use Rattle.floyd_assert_changes.specs.ChangesClauses.{changes_of}
use Rattle.floyd_truth.specs.Capture.{in_new_terms}
use Rattle.floyd_assert_changes.proofs.changing.in_terms.Given as goal

abbrev pub invariant-changes : goal.invariant-changes
invariant-changes l = in_new_terms (changes_of (drop l.change-index l.all)) l.name ≡ in_new_terms (changes_of l.all) l.name
