use Rattle.std.proofs.Common.{rules, pos, ◌+ℤ◌, ◌<ℤ◌, ◌≤ℤ◌, arith}
use Rattle.std.proofs.lemmas.Int.{ints}
use Rattle.std.specs.Int.{w128}
use mir.Val.{SFits}
use Rattle.floyd_simplifying.proofs.Summing.{carried_down, carried_up, none_fits, read}
use Rattle.floyd_simplifying.proofs.sums.plus.Goals as goal

pub returns-then-z-lt0-clause-value : goal.returns-then-z-lt0-clause-value
returns-then-z-lt0-clause-value c =
    let w = c.args.w in
    let z = c.args.z in
    let fits : SFits w128 w.low = search rules in
    let own : SFits w128 z = search rules in
    let below : z <ℤ pos 0 = omega (arith, ints) in
    carried_down w.high w.low z c.requires fits own below (none_fits c.checked_add.result (read w.low +ℤ read z) c.in-None.is c.checked_add.ensures)

pub returns-else-z-lt0-clause-value : goal.returns-else-z-lt0-clause-value
returns-else-z-lt0-clause-value c =
    let w = c.args.w in
    let z = c.args.z in
    let fits : SFits w128 w.low = search rules in
    let own : SFits w128 z = search rules in
    let above : pos 0 ≤ℤ z = omega (arith, ints) in
    carried_up w.high w.low z c.requires fits own above (none_fits c.checked_add.result (read w.low +ℤ read z) c.in-None.is c.checked_add.ensures)
