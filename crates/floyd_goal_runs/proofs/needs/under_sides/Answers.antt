use Rattle.std.proofs.Common.{◌≡◌, rules}
use Rattle.std.proofs.lemmas.Result.{err_from_is_err_and}
use Rattle.floyd_goal.specs.Goals.{enriched}
use Rattle.floyd_goal_runs.proofs.NeedLemmas.{under_gives, under_stops}
use Rattle.floyd_goal_runs.proofs.needs.under_sides.Goals as goal

pub returns-in_err-sides : goal.returns-in_err-sides
returns-in_err-sides g c =
    let p = err_from_is_err_and c.from_residual.result c.from_residual.ensures.1 in
    record { exact = rw (p.1, p.2) (under_stops c.args.context.now c.args.formulas.now c.in_err-sides.field-0.0 c.in_err-sides.ensures.exact) }

pub returns : goal.returns
returns g c =
    let side : c.into_parts-kept.result.1 ≡ c.in_ok-sides.sides.goal = search rules in
    let made : c.in_ok-context.context ≡ enriched c.args.context.now c.in_ok-sides.sides.kept = search rules in
    record { exact = under_gives c.args.context.now c.in_ok-context.context c.args.formulas.now c.in_ok-sides.sides c.into_parts-kept.result.1 c.in_ok-sides.ensures.exact side made }
