use Rattle.std.proofs.Common.{◌<◌, ◌≤◌, length, sym, subst, arith}
use Rattle.floyd_goal.specs.Answers.{IsAnswer}
use Rattle.floyd_control.specs.ForwardWhile.{OfLoop}
use Rattle.floyd_control.proofs.WhileLemmas.{one_loop}
use Rattle.floyd_control.proofs.turning.of_loop.Goals as goal

pub returns-in-len1 : goal.returns-in-len1
returns-in-len1 g c =
    let structs = c.args.at.defs.now.structs in
    let run = c.args.at.run.now in
    let low : 1 ≤ length c.args.given.now = omega (arith, c.in-len1.len_at_least) in
    let high : length c.args.given.now < 2 = omega (arith, c.in-len1.len_below) in
    record {
      exact = subst (λ o. IsAnswer (OfLoop structs run c.args.given.now o) c.turns.result) (sym c.in-Some.is)
          (one_loop structs run c.args.given.now c.a-item.result (c.in-Some.test, c.in-Some.body) c.turns.result low high c.a-item.is c.turns.ensures.exact);
    }
