use Rattle.std.proofs.Common.{◌≤ℤ◌, arith, pos}
use Rattle.std.proofs.lemmas.Int.{ints}
use Rattle.floyd_folding.proofs.ShiftLemmas.{shl_returns}
use Rattle.floyd_folding.proofs.numbers.shl.Goals as goal

pub returns : goal.returns
returns c =
    let h : pos 0 ≤ℤ c.args.y = omega (arith, ints) in
    shl_returns c.args.x c.args.y _ _ c.ranges.x c.ranges.y h c.unsigned_abs.ensures.value c.times_power.ensures
