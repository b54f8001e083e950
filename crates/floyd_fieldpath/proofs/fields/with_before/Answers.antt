use Rattle.std.proofs.Common.{◌≡◌, ◌-◌, ◌<◌, suc, length, arith}
use Rattle.std.proofs.lemmas.Result.{err_from_is_err_and}
use Rattle.floyd_fieldpath.specs.Updates.{pair}
use Rattle.floyd_fieldpath.proofs.LastLemmas.{back_stops}
use Rattle.floyd_fieldpath.proofs.fields.with_before.Goals as goal

pub returns-in_err-more : goal.returns-in_err-more
returns-in_err-more g c =
    let k = c.fields.at - 1 in
    let next : c.fields.at ≡ suc k = omega arith in
    let within : k < length c.args.before.now = omega arith in
    let p = err_from_is_err_and c.from_residual-in_err-more.result c.from_residual-in_err-more.ensures.1 in
    record {
      exact = rw (p.1, p.2)
          (back_stops pair c.args.before.now c.fields.at k c.index-before-at.result c.args.u.now c.fields.value c.in_err-more.field-0.0
          next within c.index-before-at.is c.fields.invariant.behind c.in_err-more.ensures.exact);
    }
