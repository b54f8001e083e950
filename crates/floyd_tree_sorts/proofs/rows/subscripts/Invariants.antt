use Rattle.std.proofs.Common.{◌≡◌, ◌+◌, ◌≤◌, drop}
use Rattle.floyd_tree_sorts.specs.Rows.{subscripts}
use Rattle.floyd_tree_sorts.proofs.rows.subscripts.Given as goal

abbrev pub invariant-steps : goal.invariant-steps
invariant-steps l = (l.count + subscripts (drop l.step-index l.steps) ≡ subscripts l.steps) × (l.count ≤ l.step-index)
