use Rattle.std.proofs.Common.{◌≡◌, rules}
use Rattle.floyd_goal.proofs.SideLemmas.{stops_side}
use Rattle.floyd_goal.proofs.side_goals.side_in.Goals as goal

pub returns-in-Err : goal.returns-in-Err
returns-in-Err g c =
    let hs : c.as_slice.result.now ≡ c.args.context.now.hypotheses = search rules in
    let ks : c.as_slice-2.result.now ≡ c.in_ok-kept.kept = search rules in
    record { exact = stops_side c.args.context.now c.args.formulas.now c.as_slice.result.now c.in_ok-kept.kept c.as_slice-2.result.now c.in-Err.stop hs ks c.in_ok-kept.ensures c.in-Err.ensures }
