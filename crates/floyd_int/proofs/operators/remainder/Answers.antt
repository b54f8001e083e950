use Rattle.std.proofs.Common.{◌≡◌, true, Some, sym, ◌∙◌, ap}
use Rattle.std.specs.Int.{w128}
use Rattle.std.proofs.lemmas.Int.{to_z-of_z, rem_is}
use Rattle.floyd_int.specs.Kind.{repr_of}
use Rattle.floyd_int.specs.Operation.{can_divide}
use Rattle.floyd_int.proofs.operators.remainder.Goals as goal

pub returns-then-can_divide-clause-exact : goal.returns-then-can_divide-clause-exact
returns-then-can_divide-clause-exact c =
    let k = c.args.kind in
    let x = c.args.x in
    let y = c.args.y in
    let defined : can_divide k x y ≡ true = (λ i. can_divide k (sym (to_z-of_z w128 x c.ranges.x) i) (sym (to_z-of_z w128 y c.ranges.y) i)) ∙ sym c.can_divide.ensures ∙ c.if-can_divide.true in
    let value = rem_is w128 x y c.ranges.x c.ranges.y in
    rw defined (ap Some (c.repr.ensures.bits ∙ ap (repr_of k) value))
