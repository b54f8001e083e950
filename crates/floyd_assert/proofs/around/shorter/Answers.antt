use Rattle.std.proofs.Common.{refl}
use Rattle.floyd_assert.proofs.InsideLists.{left_whole, right_whole}
use Rattle.floyd_assert.proofs.around.shorter.Goals as goal

pub returns-then-left-right-clause-all : goal.returns-then-left-right-clause-all
returns-then-left-right-clause-all c = λ outer. left_whole c.args.left.now c.args.right.now _ outer refl

pub returns-else-left-right-clause-all : goal.returns-else-left-right-clause-all
returns-else-left-right-clause-all c = λ outer. right_whole c.args.left.now c.args.right.now _ outer refl
