use Rattle.std.proofs.Common.{length, ◌<◌, ◌≤◌, arith}
use Rattle.floyd_control.proofs.SwitchLemmas.{one_switch}
use Rattle.floyd_control.proofs.switching.switches_with.Goals as goal

pub returns-in-len1 : goal.returns-in-len1
returns-in-len1 g c =
    let low : 1 ≤ length c.args.given.now = omega (arith, c.in-len1.len_at_least) in
    let high : length c.args.given.now < 2 = omega (arith, c.in-len1.len_below) in
    record {
      exact = one_switch c.args.at.defs.now.structs c.args.at.run.now c.args.given.now c.a-item.result c.args.e.now c.args.cases.now c.switches.result low high c.a-item.is c.switches.ensures.exact;
    }
