use Rattle.std.proofs.Common.{◌≡◌, ◌<◌, ◌*◌, ◌^◌, ◌%◌, true, Some, ℤ, pos, ◌*ℤ◌, to_z, of_z, FitsSigned, sym, ◌∙◌, ap, subst, arith}
use Rattle.std.specs.Int.{w128}
use Rattle.std.specs.Prelude.{unsigned_abs}
use Rattle.std.proofs.lemmas.Int.{to_z-of_z}
use Rattle.floyd_int.specs.declared.kinds.IntKind.{IntKind}
use Rattle.floyd_int.specs.Kind.{InRange}
use Rattle.floyd_int.specs.Operation.{can_shift}
use Rattle.floyd_int.proofs.KindLaws.{width_le}
use Rattle.floyd_int.proofs.OperationLaws.{shift_amount}
use Rattle.floyd_int.proofs.Wide.{wide_power, shifted_fits}
use Rattle.floyd_int.proofs.operators.left_shift.Goals as goal

-- `1 << y`, and that the product fits
power : (k : IntKind) (x y : ℤ) → InRange k x → can_shift k y ≡ true → (to_z w128 (1 * 2 ^ of_z w128 y % 2 ^ 128) ≡ pos (2 ^ unsigned_abs y)) × FitsSigned w128 (x *ℤ pos (2 ^ unsigned_abs y))
power k x y h e =
    let a = shift_amount k y e in
    let bound = width_le k in
    let below : a.0 < 64 = omega arith in
    subst (λ (v : ℤ). (to_z w128 (1 * 2 ^ of_z w128 v % 2 ^ 128) ≡ pos (2 ^ unsigned_abs v)) × FitsSigned w128 (x *ℤ pos (2 ^ unsigned_abs v))) (sym a.1) (wide_power a.0 below, shifted_fits k x a.0 h below)

pub overflow_mul-x : goal.overflow_mul-x
overflow_mul-x c =
    let k = c.args.kind in
    let x = c.args.x in
    let y = c.args.y in
    let same = to_z-of_z w128 y c.ranges.y in
    let defined : can_shift k y ≡ true = ap (can_shift k) (sym same) ∙ sym c.can_shift.ensures ∙ c.if-can_shift.true in
    let p = power k x y c.requires defined in
    rw (to_z-of_z w128 x c.ranges.x, p.0) p.1

pub returns-then-can_shift-clause-exact : goal.returns-then-can_shift-clause-exact
returns-then-can_shift-clause-exact c =
    let k = c.args.kind in
    let x = c.args.x in
    let y = c.args.y in
    let same = to_z-of_z w128 y c.ranges.y in
    let defined : can_shift k y ≡ true = ap (can_shift k) (sym same) ∙ sym c.can_shift.ensures ∙ c.if-can_shift.true in
    let p = power k x y c.requires defined in
    let value = rw (to_z-of_z w128 x c.ranges.x, p.0, to_z-of_z w128 (x *ℤ pos (2 ^ unsigned_abs y)) p.1) at c.repr.ensures.bits in
    rw defined (ap Some value)
