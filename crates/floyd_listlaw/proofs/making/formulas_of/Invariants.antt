use Rattle.std.proofs.Common.{◌≡◌, ◌+◌, ◌≤◌, true, [], length, drop}
use Rattle.floyd_listlaw.specs.PostfixClauses.{all_within, nodes_in, run}
use Rattle.floyd_listlaw.proofs.making.formulas_of.Given as goal

abbrev pub invariant-items : goal.invariant-items
invariant-items g l = record {
  run : run l.s l.given (drop l.item-index l.items) (l.stacks.terms.items, l.stacks.formulas.items) ≡ run l.s l.given l.items ([], []);
  within : all_within (length l.given) (drop l.item-index l.items) ≡ true;
  cost : l.steps + nodes_in (drop l.item-index l.items) ≤ l.initial.steps + nodes_in l.items;
}
