use Rattle.std.proofs.lemmas.Result.{err_from_is_err_and}
use Rattle.floyd_arrays.specs.SplitArray.{back, front}
use Rattle.floyd_arrays.proofs.SplitLemmas.{parts_go, parts_stop_first, parts_stop_second}
use Rattle.floyd_arrays.proofs.split_array.halves.Goals as goal

pub returns-in_err-first : goal.returns-in_err-first
returns-in_err-first g c =
    let p = err_from_is_err_and c.from_residual.result c.from_residual.ensures.1 in
    let one = front c.args.zero.now c.args.m.now c.args.a.now in
    let other = back c.args.structs.now c.args.m.now c.args.a.now in
    record { exact = rw (p.1, p.2) (parts_stop_first c.in_err-first.field-0.0 one other c.in_err-first.ensures.exact) }

pub returns-in_err-second : goal.returns-in_err-second
returns-in_err-second g c =
    let p = err_from_is_err_and c.from_residual-in_err-second.result c.from_residual-in_err-second.ensures.1 in
    let one = front c.args.zero.now c.args.m.now c.args.a.now in
    let other = back c.args.structs.now c.args.m.now c.args.a.now in
    record { exact = rw (p.1, p.2) (parts_stop_second c.in_err-second.field-0.0 one other c.in_ok-first.first c.in_ok-first.ensures.exact c.in_err-second.ensures.exact) }

pub returns : goal.returns
returns g c =
    let one = front c.args.zero.now c.args.m.now c.args.a.now in
    let other = back c.args.structs.now c.args.m.now c.args.a.now in
    record {
      exact = parts_go one other c.in_ok-first.first c.in_ok-second.second c.in_ok-two_parts.field-0 c.in_ok-first.ensures.exact c.in_ok-second.ensures.exact c.in_ok-two_parts.ensures;
    }
