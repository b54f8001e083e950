use Rattle.std.proofs.Common.{◌≡◌, length}
use Rattle.floyd_stub_goal.specs.Sides.{kept, conjunction}
use Rattle.floyd_stub_goal.proofs.Conjunctions.{onto}
use Rattle.floyd_stub_goal.proofs.side.conjunction.Given as goal

abbrev pub decreases-formulas : goal.decreases-formulas
decreases-formulas l = length l.left

abbrev pub invariant-formulas : goal.invariant-formulas
invariant-formulas l = onto (kept l.left) l.all ≡ conjunction (kept l.fn.formulas)
