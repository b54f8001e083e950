use Rattle.std.proofs.Common.{◌≡◌, ◌+ℤ◌, ◌-ℤ◌, to_z, of_z, ◌∙◌, ap, arith}
use Rattle.std.specs.Int.{w128}
use Rattle.std.proofs.lemmas.Int.{ints}
use Rattle.std.proofs.lemmas.Nat.{or_lt, xor_lt}
use Rattle.floyd_int.specs.Kind.{width}
use Rattle.floyd_int.specs.Operation.{operation_of, arithmetic}
use Rattle.floyd_int.proofs.KindLaws.{InRange-abs}
use Rattle.floyd_int.proofs.OperationLaws.{IsNone-operation}
use Rattle.floyd_int.proofs.operators.binary.Goals as goal

pub returns-in-Add-clause-exact : goal.returns-in-Add-clause-exact
unfolding operation_of
returns-in-Add-clause-exact c =
    let k = c.args.kind in
    let x = InRange-abs k c.value-x.result c.value-x.ensures.in_range in
    let y = InRange-abs k c.value-y.result c.value-y.ensures.in_range in
    let sum : to_z w128 (of_z w128 (to_z w128 (of_z w128 c.value-x.result) +ℤ to_z w128 (of_z w128 c.value-y.result))) ≡ c.value-x.result +ℤ c.value-y.result = omega (arith, ints) in
    rw c.in-Add.is (c.arithmetic.ensures.exact ∙ ap (arithmetic k) (sum ∙ (λ i. c.value-x.ensures.value i +ℤ c.value-y.ensures.value i)))

pub returns-in-Add-clause-undefined : goal.returns-in-Add-clause-undefined
returns-in-Add-clause-undefined c = rw (returns-in-Add-clause-exact c) (IsNone-operation c.args.op c.args.kind c.args.a c.args.b)

pub returns-in-Sub-clause-exact : goal.returns-in-Sub-clause-exact
unfolding operation_of
returns-in-Sub-clause-exact c =
    let k = c.args.kind in
    let x = InRange-abs k c.value-x.result c.value-x.ensures.in_range in
    let y = InRange-abs k c.value-y.result c.value-y.ensures.in_range in
    let difference : to_z w128 (of_z w128 (to_z w128 (of_z w128 c.value-x.result) -ℤ to_z w128 (of_z w128 c.value-y.result))) ≡ c.value-x.result -ℤ c.value-y.result = omega (arith, ints) in
    rw c.in-Sub.is (c.arithmetic-in-Sub.ensures.exact ∙ ap (arithmetic k) (difference ∙ (λ i. c.value-x.ensures.value i -ℤ c.value-y.ensures.value i)))

pub returns-in-Sub-clause-undefined : goal.returns-in-Sub-clause-undefined
returns-in-Sub-clause-undefined c = rw (returns-in-Sub-clause-exact c) (IsNone-operation c.args.op c.args.kind c.args.a c.args.b)

pub returns-in-Or-clause-below : goal.returns-in-Or-clause-below
returns-in-Or-clause-below c = or_lt (width c.args.kind) c.args.a c.args.b c.requires.left c.requires.right

pub returns-in-Xor-clause-below : goal.returns-in-Xor-clause-below
returns-in-Xor-clause-below c = xor_lt (width c.args.kind) c.args.a c.args.b c.requires.left c.requires.right
