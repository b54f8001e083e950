use Rattle.std.proofs.Common.{◌≡◌, ◌-◌, suc, arith}
use Rattle.std.proofs.lemmas.Result.{err_from_is_err_and}
use Rattle.floyd_arrays_structs.proofs.PairLemmas.{back_stops}
use Rattle.floyd_arrays_structs.proofs.join_struct.pairs.Goals as goal

pub returns-in_err-more : goal.returns-in_err-more
returns-in_err-more g c =
    let k = c.fields.at - 1 in
    let next : c.fields.at ≡ suc k = omega arith in
    let e = err_from_is_err_and c.from_residual-in_err-more.result c.from_residual-in_err-more.ensures.1 in
    record {
      exact = rw (e.1, e.2)
          (back_stops c.args.values.now c.fields.at k c.index-values-at-in-fields.result c.fields.value c.in_err-more.field-0.0 next c.fields.invariant.within c.index-values-at-in-fields.is
          c.fields.invariant.behind c.in_err-more.ensures.exact);
    }
