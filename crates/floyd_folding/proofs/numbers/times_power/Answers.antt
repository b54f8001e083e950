use Rattle.floyd_folding.proofs.ShiftLemmas.{product_returns}
use Rattle.floyd_folding.proofs.numbers.times_power.Goals as goal

pub returns-then-n-le126 : goal.returns-then-n-le126
returns-then-n-le126 c = product_returns c.args.x c.args.n _ c.ranges.x c.if-n-le126.true c.product.ensures
