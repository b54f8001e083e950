use Rattle.std.proofs.Common.{◌≤ℤ◌, ◌<ℤ◌, ap, sym, Some, arith, pos}
use Rattle.std.specs.Prelude.{ℤ}
use Rattle.std.proofs.lemmas.Int.{ints}
use Rattle.floyd_fieldpath.specs.Sums.{small}
use Rattle.floyd_folding.proofs.ShiftLemmas.{far_above, far_below}
use Rattle.floyd_folding.proofs.numbers.over_power.Goals as goal

pub returns-then-x-lt0 : goal.returns-then-x-lt0
returns-then-x-lt0 c =
    let h : c.args.x <ℤ pos 0 = omega (arith, ints) in
    ap (λ (z : ℤ). small (Some z)) (sym (far_below c.args.x c.args.n c.ranges.x h c.if-n-lt128.false))

pub returns-else-x-lt0 : goal.returns-else-x-lt0
returns-else-x-lt0 c =
    let h : pos 0 ≤ℤ c.args.x = omega (arith, ints) in
    ap (λ (z : ℤ). small (Some z)) (sym (far_above c.args.x c.args.n c.ranges.x h c.if-n-lt128.false))
