use Rattle.std.proofs.Common.{◌++◌}
use Rattle.floyd_goal.proofs.StackLemmas.{stops_at}
use Rattle.floyd_goal.proofs.stack.GoalStack.under_all.Goals as goal

pub returns-in-Err : goal.returns-in-Err
returns-in-Err c = stops_at c.made.made c.pop.new.self c.in-Some.goal c.made.stack (c.args.made ++ c.args.self) c.in-Err.stop c.in-Some.ensures c.made.invariant.goals c.in-Err.ensures
