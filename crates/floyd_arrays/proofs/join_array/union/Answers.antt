use Rattle.std.proofs.lemmas.Result.{err_from_is_err_and}
use Rattle.floyd_shares.proofs.ChainLemmas.{after_goes, after_stops}
use Rattle.floyd_arrays.specs.JoinArray.{IsBoth, IsSum}
use Rattle.floyd_arrays.proofs.JoinLemmas.{both_given}
use Rattle.floyd_arrays.proofs.join_array.union.Goals as goal

pub returns-in_err-n : goal.returns-in_err-n
returns-in_err-n g c =
    let a = c.args.a.now in
    let b = c.args.b.now in
    let e = err_from_is_err_and c.from_residual.result c.from_residual.ensures.1 in
    record { exact = rw (e.1, e.2) (after_stops (IsSum a.count b.count) (IsBoth a b) c.in_err-n.field-0.0 c.in_err-n.ensures.exact) }

pub returns : goal.returns
returns g c =
    let a = c.args.a.now in
    let b = c.args.b.now in
    let n = c.in_ok-n.n in
    record { exact = after_goes (IsSum a.count b.count) n (IsBoth a b) c.both.result c.in_ok-n.ensures.exact (both_given a b n c.both.result c.both.ensures.exact) }
