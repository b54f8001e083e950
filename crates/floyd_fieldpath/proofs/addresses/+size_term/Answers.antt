use Rattle.std.proofs.Common.{◌-◌, ◌<◌, length, take, drop, refl, arith}
use Rattle.std.proofs.lemmas.Result.{err_from_is_err_and}
use Rattle.floyd_fieldpath.proofs.AddressLemmas.{array_gives, array_stops}
use Rattle.floyd_fieldpath.proofs.addresses.+size_term.Goals as goal

pub returns-in_err-bytes-in-Array : goal.returns-in_err-bytes-in-Array
returns-in_err-bytes-in-Array g t c =
    let sizes = c.args.sizes.now in
    let some : 0 < length sizes = omega arith in
    let p = err_from_is_err_and c.from_residual-in_err-bytes-in-Array.result c.from_residual-in_err-bytes-in-Array.ensures.1 in
    record {
      exact = rw (p.1, p.2)
          (array_stops c.args.structs.now c.args.shape.now c.in-Array.element c.get.result.now sizes (take (length sizes - 1) (drop 1 sizes)) c.in_err-bytes-in-Array.field-0.0
          c.in-Array.is c.get.ensures some refl c.in_err-bytes-in-Array.ensures.exact);
    }

pub returns-in_ok-bytes-in-Array : goal.returns-in_ok-bytes-in-Array
returns-in_ok-bytes-in-Array g t c =
    let sizes = c.args.sizes.now in
    let some : 0 < length sizes = omega arith in
    record {
      exact = array_gives c.args.structs.now c.args.shape.now c.in-Array.element c.get.result.now sizes (take (length sizes - 1) (drop 1 sizes)) c.index-sizes-0.result c.in_ok-bytes-in-Array.bytes c.times.result
          c.in-Array.is c.get.ensures some c.index-sizes-0.is refl c.in_ok-bytes-in-Array.ensures.exact c.times.ensures.exact;
    }
