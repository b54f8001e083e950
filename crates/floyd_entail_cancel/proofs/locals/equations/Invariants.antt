use Rattle.std.proofs.Common.{◌≡◌, ◌++◌, drop, false}
use Rattle.std.specs.List.{list_any}
use Rattle.floyd_goal_parts.specs.Writing.{is_faulty}
use Rattle.floyd_entail_cancel.specs.Cancel.{equations}
use Rattle.floyd_entail_cancel.proofs.locals.equations.Given as goal

abbrev pub invariant-locals : goal.invariant-locals
invariant-locals g l = record {
  all : l.all ++ equations l.source (drop l.local-index l.target) ≡ equations l.source l.target;
  fine : list_any is_faulty l.all ≡ false;
}
