use Rattle.std.proofs.Common.{◌≡◌, rules}
use Rattle.std.proofs.lemmas.Result.{err_from_is_err_and}
use Rattle.floyd_goal.specs.Sides.{context_of}
use Rattle.floyd_goal_plans.specs.Joining.{joined_under}
use Rattle.floyd_goal_parts.specs.Rows.{after_side}
use Rattle.floyd_goal_parts.proofs.RowLemmas.{sided_gives, sided_stops}
use Rattle.floyd_goal_plans.proofs.joining.join_under.Goals as goal

pub returns-in_err-sides : goal.returns-in_err-sides
returns-in_err-sides g c =
    let p = err_from_is_err_and c.from_residual.result c.from_residual.ensures.1 in
    let seen : c.context_of.result.now ≡ context_of c.args.goal.now = search rules in
    let formulas : c.as_slice.result.now ≡ c.args.plan.sides = search rules in
    record {
      exact = rw (p.1, p.2)
          (sided_stops (context_of c.args.goal.now) c.context_of.result.now c.args.plan.sides c.as_slice.result.now
          (joined_under c.args.goal.now c.args.pair c.args.source.now c.args.plan.new) c.in_err-sides.field-0.0 seen formulas c.in_err-sides.ensures.exact);
    }

pub returns : goal.returns
returns g c =
    let behind = joined_under c.args.goal.now c.args.pair c.args.source.now c.args.plan.new in
    let seen : c.context_of.result.now ≡ context_of c.args.goal.now = search rules in
    let formulas : c.as_slice.result.now ≡ c.args.plan.sides = search rules in
    let goals : c.in_ok-after_side.field-0 ≡ after_side c.in_ok-sides.sides.goal (joined_under c.args.goal.now c.args.pair c.args.source.now c.args.plan.new c.in_ok-sides.sides.kept) = search rules in
    record {
      exact = sided_gives (context_of c.args.goal.now) c.context_of.result.now c.args.plan.sides c.as_slice.result.now behind c.in_ok-sides.sides
          c.in_ok-after_side.field-0 seen formulas c.in_ok-sides.ensures.exact goals;
    }
