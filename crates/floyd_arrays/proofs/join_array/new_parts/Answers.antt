use Rattle.std.proofs.Common.{Err}
use Rattle.std.proofs.lemmas.Result.{err_from_is_err_and}
use Rattle.floyd_shares.proofs.ChainLemmas.{then_goes, then_stops}
use Rattle.floyd_arrays.specs.Arrays.{array_of}
use Rattle.floyd_arrays.specs.JoinArray.{Joins, WithSecond}
use Rattle.floyd_arrays.proofs.join_array.new_parts.Goals as goal

pub returns-in_err-a : goal.returns-in_err-a
returns-in_err-a g c =
    let structs = c.args.structs.now in
    let p = c.args.first.now in
    let q = c.args.second.now in
    let e = err_from_is_err_and c.from_residual.result c.from_residual.ensures.1 in
    record { exact = rw (e.1, e.2) (then_stops (array_of p) (WithSecond structs q) c.in_err-a.field-0.0 c.in_err-a.ensures.exact) }

pub returns-in_err-b : goal.returns-in_err-b
returns-in_err-b g c =
    let structs = c.args.structs.now in
    let p = c.args.first.now in
    let q = c.args.second.now in
    let stop = c.in_err-b.field-0.0 in
    let e = err_from_is_err_and c.from_residual-in_err-b.result c.from_residual-in_err-b.ensures.1 in
    record {
      exact = rw (e.1, e.2)
          (then_goes (array_of p) c.in_ok-a.a (WithSecond structs q) (Err stop) c.in_ok-a.ensures.exact
          (then_stops (array_of q) (Joins structs q c.in_ok-a.a) stop c.in_err-b.ensures.exact));
    }

pub returns : goal.returns
returns g c =
    let structs = c.args.structs.now in
    let p = c.args.first.now in
    let q = c.args.second.now in
    let x = c.joins.result in
    record {
      exact = then_goes (array_of p) c.in_ok-a.a (WithSecond structs q) x c.in_ok-a.ensures.exact
          (then_goes (array_of q) c.in_ok-b.b (Joins structs q c.in_ok-a.a) x c.in_ok-b.ensures.exact c.joins.ensures.exact);
    }
