use Rattle.std.proofs.Common.{◌≡◌, ◌-◌, ◌<◌, suc, length, arith}
use Rattle.std.proofs.lemmas.Result.{err_from_is_err_and}
use Rattle.floyd_fieldpath.specs.UpdateClauses.{around}
use Rattle.floyd_fieldpath.proofs.LastLemmas.{back_stops}
use Rattle.floyd_fieldpath.proofs.updates.within_levels.Goals as goal

pub returns-in_err-around : goal.returns-in_err-around
returns-in_err-around g c =
    let k = c.levels.at - 1 in
    let next : c.levels.at ≡ suc k = omega arith in
    let within : k < length c.args.levels.now = omega arith in
    let p = err_from_is_err_and c.from_residual-in_err-around.result c.from_residual-in_err-around.ensures.1 in
    record {
      exact = rw (p.1, p.2)
          (back_stops (around c.args.structs.now) c.args.levels.now c.levels.at k c.index-levels-at.result c.args.new.now c.levels.value c.in_err-around.field-0.0
          next within c.index-levels-at.is c.levels.invariant.behind c.in_err-around.ensures.exact);
    }
