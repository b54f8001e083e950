use Rattle.std.proofs.Common.{◌≡◌, ◌+◌, ◌*◌, take, drop, map}
use Rattle.std.specs.List.{list_all}
use Rattle.floyd_assert_changes.specs.ChangesClauses.{changes}
use Rattle.floyd_tree.specs.Made.{fits}
use Rattle.floyd_tree.specs.Plain.{plains, height, heights}
use Rattle.floyd_truth.specs.Replace.{replaced}
use Rattle.floyd_assert_changes.proofs.replace.+terms.Given as goal

abbrev pub decreases-term_after : goal.decreases-term_after
decreases-term_after g l = 2 * height l.t.now

abbrev pub decreases-terms_after : goal.decreases-terms_after
decreases-terms_after g l = 2 * heights (plains l.terms.now) + 1

abbrev pub invariant-terms_after-terms : goal.invariant-terms_after-terms
invariant-terms_after-terms g l = record {
  items : l.all.items ≡ map (replaced (changes l.changing)) (take l.term-index l.terms);
  fits : list_all fits (map (replaced (changes l.changing)) (drop l.term-index l.terms)) ≡ list_all fits (map (replaced (changes l.changing)) l.terms);
}
