use Rattle.std.proofs.Common.{◌≡◌, drop}
use Rattle.std.specs.List.{list_any}
use Rattle.floyd_tree.specs.Formulas.{formulas}
use Rattle.floyd_assert_changes.specs.ChangesClauses.{capturing, changes, changes_of}
use Rattle.floyd_assert_changes.proofs.fresh.captures_in.Given as goal

abbrev pub invariant-changes : goal.invariant-changes
invariant-changes l = list_any (capturing (changes l.whole) (formulas l.kids) l.x) (changes_of (drop l.change-index l.all)) ≡ list_any (capturing (changes l.whole) (formulas l.kids) l.x) (changes_of l.all)
