use Rattle.std.proofs.Common.{◌+◌, ◌<◌, sym, arith, take}
use Rattle.std.specs.Str.Parse.{digits_value}
use Rattle.floyd_check_stub.proofs.Numerals.{one_more, too_great}
use Rattle.floyd_check_stub.proofs.word.small_value.Goals as goal

pub returns-then-more-gt2147483647 : goal.returns-then-more-gt2147483647
returns-then-more-gt2147483647 c =
    let more = one_more c.args.digits.now c.digits.b-index c.requires c.digits-test.true in
    let h : 2147483647 < digits_value 10 (take (c.digits.b-index + 1) c.args.digits.now) = omega (arith, more, c.digits.invariant.so_far, c.from.ensures, c.from-in-digits.ensures, c.if-more-gt2147483647.true) in
    sym (too_great c.args.digits.now (c.digits.b-index + 1) h)

pub digits-preserved : goal.digits-preserved
digits-preserved c =
    let more = one_more c.args.digits.now c.digits.b-index c.requires c.digits-test.true in
    record { int = c.if-more-gt2147483647.false; so_far = omega (arith, more, c.digits.invariant.so_far, c.from.ensures, c.from-in-digits.ensures) }
