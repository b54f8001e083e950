use Rattle.std.proofs.Common.{◌≡◌, [], refl, rules}
use Rattle.std.proofs.lemmas.Result.{err_from_is_err_and}
use Rattle.floyd_goal_parts.specs.Rows.{after_side}
use Rattle.floyd_goal_parts.proofs.RowLemmas.{sided_gives, sided_stops}
use Rattle.floyd_entail_cancel.specs.Cancel.{closed}
use Rattle.floyd_entail_cancel.proofs.closing.closing.Goals as goal

pub returns-in_err-sides : goal.returns-in_err-sides
returns-in_err-sides g c =
    let p = err_from_is_err_and c.from_residual.result c.from_residual.ensures.1 in
    record {
      exact = rw (p.1, p.2)
          (sided_stops c.args.context.now c.args.context.now c.args.formulas.now c.args.formulas.now closed c.in_err-sides.field-0.0 refl refl c.in_err-sides.ensures.exact);
    }

pub returns : goal.returns
returns g c =
    let goals : c.in_ok-after_side.field-0 ≡ after_side c.in_ok-sides.sides.goal [] = search rules in
    record {
      exact = sided_gives c.args.context.now c.args.context.now c.args.formulas.now c.args.formulas.now closed c.in_ok-sides.sides
          c.in_ok-after_side.field-0 refl refl c.in_ok-sides.ensures.exact goals;
    }
