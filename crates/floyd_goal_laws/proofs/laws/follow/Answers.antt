use Rattle.floyd_goal_laws.proofs.Consequences.{all_in, from_one}
use Rattle.floyd_goal_laws.proofs.laws.follow.Goals as goal

pub returns : goal.returns
returns c = λ defs specs n g goals k h. record {
  in_each = λ L more place has apart lemmas env given.
      from_one L more place defs specs n env g goals (k L more place has apart lemmas env given) (all_in L more place defs specs n goals has apart lemmas h);
}
