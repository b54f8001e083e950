use Rattle.floyd_goal_laws.proofs.Givens.{by_cases}
use Rattle.floyd_goal_laws.proofs.laws.follow_by_cases.Goals as goal

pub returns : goal.returns
returns c = λ defs specs n g cases k h. record {
  in_each = λ L more place has apart lemmas env given.
      by_cases L more place defs specs n has apart lemmas g cases env given (k L more place has apart lemmas env given) h;
}
