use Rattle.std.proofs.Common.{◌≡◌, ◌+◌, List, Result, drop, length}
use Rattle.floyd_text.specs.declared.refusal.No.{No}
use Rattle.floyd_assert_trees.specs.declared.sep.Sep.{Sep}
use Rattle.floyd_assert.specs.Removal.{Difference}
use Rattle.floyd_assert.specs.RemovalClauses.{left}
use Rattle.floyd_assert.proofs.removal.remove_parts.Given as goal

abbrev pub invariant-gone : goal.invariant-gone
invariant-gone l = record {
  count : length l.parts ≡ length l.taken.items;
  rest : (answer : Result (List Sep) No) → Difference (left l.parts l.taken.items) (l.i + 1) (drop l.i l.gone) answer → Difference l.parts 1 l.gone answer;
}
