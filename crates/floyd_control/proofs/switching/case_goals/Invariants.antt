use Rattle.std.proofs.Common.{◌≡◌, ◌++◌, length, Ok}
use Rattle.floyd_fieldpath.specs.Written.{on_ok}
use Rattle.floyd_control.specs.ForwardSwitch.{bodies_of, case_goals, labels_of}
use Rattle.floyd_control.proofs.switching.case_goals.Given as goal

abbrev pub decreases-cases : goal.decreases-cases
decreases-cases g l = length l.left

abbrev pub invariant-cases : goal.invariant-cases
invariant-cases g l = record {
  behind : l.rest ≡ bodies_of l.left;
  goals : on_ok (case_goals l.at.run.now l.switching.number.now (labels_of l.switching.cases.now) l.context l.switching.exits.now l.left) (λ gs. Ok (l.goals ++ gs))
      ≡ case_goals l.at.run.now l.switching.number.now (labels_of l.switching.cases.now) l.context l.switching.exits.now l.switching.cases.now;
}
