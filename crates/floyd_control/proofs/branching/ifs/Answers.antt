use Rattle.std.proofs.Common.{sym, ◌∙◌, length, ◌<◌, ◌≤◌, arith}
use Rattle.floyd_control.proofs.ControlLemmas.{none_given, one_given}
use Rattle.floyd_control.proofs.branching.ifs.Goals as goal

pub returns-else-branch : goal.returns-else-branch
returns-else-branch g c =
    let low : length c.args.given.now < 1 = omega (arith, c.in-empty.len_below) in
    record {
      exact = none_given c.args.at.defs.now.structs c.args.at.run.now c.args.given.now c.args.e.now c.args.forks.met.now c.args.forks.unmet.now c.divides.result low
          (sym c.in_ok-is_followed-in-empty.ensures ∙ c.if-branch.false) c.divides.ensures.exact;
    }

pub returns-in-len1 : goal.returns-in-len1
returns-in-len1 g c =
    let low : 1 ≤ length c.args.given.now = omega (arith, c.in-len1.len_at_least) in
    let high : length c.args.given.now < 2 = omega (arith, c.in-len1.len_below) in
    record {
      exact = one_given c.args.at.defs.now.structs c.args.at.run.now c.args.given.now c.a-item.result c.args.e.now c.args.forks.met.now c.args.forks.unmet.now c.divides-in-len1.result low high c.a-item.is
          c.divides-in-len1.ensures.exact;
    }
