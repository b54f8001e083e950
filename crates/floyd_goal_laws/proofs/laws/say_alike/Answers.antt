use Rattle.floyd_goal_meaning.specs.Programs.{setting}
use Rattle.floyd_goal_laws.proofs.AlikeGoals.{alike_follow}
use Rattle.floyd_goal_laws.proofs.Consequences.{follows_under}
use Rattle.floyd_goal_laws.proofs.laws.say_alike.Goals as goal

pub returns-clause-follow : goal.returns-clause-follow
returns-clause-follow c = λ S env f g made k. alike_follow S env f g made k

pub returns-clause-hold : goal.returns-clause-hold
returns-clause-hold c = λ defs specs n g made k h. record {
  in_each = λ L more place has apart lemmas env given.
      let p = k L more place has apart lemmas env given in
      follows_under L more place defs specs n env env g made (alike_follow (setting L more place) env env.variables g made p.1) (h.in_each L more place has apart lemmas env p.0);
}
