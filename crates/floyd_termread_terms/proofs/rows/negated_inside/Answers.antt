use Rattle.std.proofs.Common.{◌≡◌, ◌+◌, ◌-◌, ◌<◌, length, arith}
use Rattle.std.proofs.lemmas.Result.{err_from_is_err_and}
use Rattle.floyd_termread_terms.proofs.Suffixes.{negated_stop}
use Rattle.floyd_termread_terms.proofs.rows.negated_inside.Goals as goal

pub returns-in_err-t : goal.returns-in_err-t
returns-in_err-t c =
    let k = c.prefixes.i in
    let j = k - 1 in
    let step : j + 1 ≡ k = omega arith in
    let within : j < length c.args.prefixes.now = omega arith in
    let p = err_from_is_err_and c.from_residual.result c.from_residual.ensures.1 in
    rw (p.1, p.2) (record {
      exact = negated_stop c.in_err-t.field-0.0 c.args.t c.args.prefixes.now k j c.index-prefixes-i.result c.prefixes.t step within c.index-prefixes-i.is c.prefixes.invariant c.in_err-t.ensures.exact;
    })
