use Rattle.std.proofs.Common.{◌≡◌, ◌+◌, ◌*◌, ◌≤◌, ◌||◌, take, drop, map}
use Rattle.floyd_tree.specs.Made.{faults}
use Rattle.floyd_tree.specs.Plain.{plains, height, heights, mentions_in}
use Rattle.floyd_tree.specs.Replace.{above_in, substituted, substituted_in}
use Rattle.floyd_tree.proofs.substitution.+subst.Given as goal

abbrev pub decreases-change : goal.decreases-change
decreases-change g l = 3 * height l.t.now

abbrev pub decreases-change_all : goal.decreases-change_all
decreases-change_all g l = 3 * heights (plains l.terms.now) + 2

abbrev pub decreases-put_change : goal.decreases-put_change
decreases-put_change g l = 3 * height l.term.now + 1

abbrev pub invariant-change_all-terms : goal.invariant-change_all-terms
invariant-change_all-terms g l = record {
  items : l.all.items ≡ map (substituted l.x l.by) (take l.term-index l.terms);
  occurs : (l.some || mentions_in l.x (plains (drop l.term-index l.terms))) ≡ mentions_in l.x (plains l.terms);
  faults : faults (substituted_in l.x l.by (plains (drop l.term-index l.terms))) ≡ faults (substituted_in l.x l.by (plains l.terms));
  cost : l.steps + above_in l.x (plains (drop l.term-index l.terms)) ≤ l.initial.steps + above_in l.x (plains l.terms);
}
