use Rattle.floyd_assert_meaning.proofs.Examples.{worked}
use Rattle.floyd_assert_meaning.proofs.laws.worked_examples.Goals as goal

pub returns : goal.returns
returns c = worked
