use Rattle.std.proofs.Common.{◌≡◌, ◌≤◌, length, take}
use Rattle.floyd_assert.specs.AroundClauses.{inside}
use Rattle.floyd_truth.specs.Same.{Binders, same_variable}
use Rattle.floyd_assert.proofs.around.bound_in_lists.Given as goal

-- those that were looked at bind neither
abbrev pub invariant-binders : goal.invariant-binders
invariant-binders l = record {
  within : l.i ≤ l.count;
  behind : (outer : Binders) → same_variable (inside l.left l.right outer) l.x l.y ≡ same_variable (inside (take l.i l.left) (take l.i l.right) outer) l.x l.y;
}
