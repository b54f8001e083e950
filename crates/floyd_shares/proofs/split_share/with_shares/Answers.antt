use Rattle.std.proofs.lemmas.Result.{err_from_is_err_and}
use Rattle.floyd_goal_plans.proofs.PlanLemmas.{plan_goes, plan_stops_first, plan_stops_second}
use Rattle.floyd_shares.specs.SplitShare.{bounds, halves}
use Rattle.floyd_shares.proofs.split_share.with_shares.Goals as goal

pub returns-in_err-sides : goal.returns-in_err-sides
returns-in_err-sides g c =
    let p = err_from_is_err_and c.from_residual.result c.from_residual.ensures.1 in
    let sides = bounds c.args.s.now c.args.share.now in
    let new = halves c.args.part.now c.args.s.now c.args.share.now in
    record { exact = rw (p.1, p.2) (plan_stops_first c.in_err-sides.field-0.0 sides new c.in_err-sides.ensures.exact) }

pub returns-in_err-new : goal.returns-in_err-new
returns-in_err-new g c =
    let p = err_from_is_err_and c.from_residual-in_err-new.result c.from_residual-in_err-new.ensures.1 in
    let sides = bounds c.args.s.now c.args.share.now in
    let new = halves c.args.part.now c.args.s.now c.args.share.now in
    record { exact = rw (p.1, p.2) (plan_stops_second c.in_err-new.field-0.0 sides new c.in_ok-sides.sides c.in_ok-sides.ensures.exact c.in_err-new.ensures.exact) }

pub returns : goal.returns
returns g c =
    let sides = bounds c.args.s.now c.args.share.now in
    let new = halves c.args.part.now c.args.s.now c.args.share.now in
    record { exact = plan_goes sides new c.in_ok-sides.sides c.in_ok-new.new c.in_ok-sides.ensures.exact c.in_ok-new.ensures.exact }
