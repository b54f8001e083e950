use Rattle.std.proofs.Common.{sym, subst}
use Rattle.floyd_goal_meaning.specs.GoalHolds.{Leaves, goal_exits}
use Rattle.floyd_goal_meaning.specs.Programs.{setting}
use Rattle.floyd_goal_meaning.specs.Worlds.{world}
use Rattle.floyd_clight_runs.specs.Calls.{SafeAll}
use Rattle.floyd_goal_meaning.proofs.laws.premises_are_met.Goals as goal

pub returns-clause-true_holds : goal.returns-clause-true_holds
returns-clause-true_holds c = λ defs specs n context. record { in_each = λ L more place k a l env g. tt }

pub returns-clause-itself : goal.returns-clause-itself
returns-clause-itself c = λ defs specs n context a. record { in_each = λ L more place k b l env g temps h m. m }

pub returns-clause-nothing : goal.returns-clause-nothing
returns-clause-nothing c = λ defs specs n run e f. record {
  in_each = λ L more place k a l env g q act h s.
      let S = setting L more place in
      subst (λ ss. SafeAll (world L more place) n ss (goal_exits S env run.exits) act h) (sym e)
      (subst (λ x. Leaves S env run.exits.ret x act h) (sym f) s);
}
