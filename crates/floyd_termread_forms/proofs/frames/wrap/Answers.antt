use Rattle.std.proofs.Common.{◌≡◌, ◌+◌, ◌-◌, ◌<◌, length, arith}
use Rattle.std.proofs.lemmas.Result.{err_from_is_err_and}
use Rattle.floyd_termread_forms.proofs.ListLemmas.{wrapped_stop}
use Rattle.floyd_termread_forms.proofs.frames.wrap.Goals as goal

pub returns-in_err-x : goal.returns-in_err-x
returns-in_err-x c =
    let k = c.frames.i in
    let j = k - 1 in
    let step : j + 1 ≡ k = omega arith in
    let within : j < length c.args.frames.now = omega arith in
    let p = err_from_is_err_and c.from_residual.result c.from_residual.ensures.1 in
    rw (p.1, p.2) (record {
      exact = wrapped_stop c.in_err-x.field-0.0 c.args.x c.args.frames.now k j c.index-frames-i.result c.frames.x step within c.index-frames-i.is c.frames.invariant c.in_err-x.ensures.exact;
    })
