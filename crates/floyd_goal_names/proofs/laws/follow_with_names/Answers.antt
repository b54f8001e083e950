use Rattle.floyd_goal_names.proofs.NewNames.{with_new_names}
use Rattle.floyd_goal_names.proofs.laws.follow_with_names.Goals as goal

pub returns : goal.returns
returns c = λ defs specs n g names fs new k h. record {
  in_each = λ L more place has apart lemmas env given.
      with_new_names L more place defs specs n g names fs env new given (k L more place has apart lemmas env given) (h.in_each L more place has apart lemmas);
}
