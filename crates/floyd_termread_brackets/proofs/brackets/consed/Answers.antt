use Rattle.std.proofs.Common.{◌≡◌, ◌+◌, ◌-◌, ◌<◌, length, arith}
use Rattle.std.proofs.lemmas.Result.{err_from_is_err_and}
use Rattle.floyd_termread_brackets.proofs.Suffixes.{consed_stop}
use Rattle.floyd_termread_brackets.proofs.brackets.consed.Goals as goal

pub returns-in_err-list-2 : goal.returns-in_err-list-2
returns-in_err-list-2 c =
    let k = c.terms.i in
    let j = k - 1 in
    let step : j + 1 ≡ k = omega arith in
    let within : j < length c.args.terms.now = omega arith in
    let p = err_from_is_err_and c.from_residual-in_err-list-2.result c.from_residual-in_err-list-2.ensures.1 in
    rw (p.1, p.2) (record {
      exact = consed_stop c.in_err-list-2.field-0.0 c.args.place c.args.item.now c.args.terms.now k j c.index-terms-i.result c.terms.list step within c.index-terms-i.is c.terms.invariant c.in_err-list-2.ensures.exact;
    })
