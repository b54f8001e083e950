use Rattle.std.proofs.Common.{◌≡◌, rules}
use Rattle.std.proofs.lemmas.Result.{err_from_is_err_and}
use Rattle.floyd_entail.specs.Exists.{under}
use Rattle.floyd_entail.proofs.ExistsLemmas.{put_goes, put_stops}
use Rattle.floyd_entail.proofs.exists.puts_term.Goals as goal

pub returns-in_err-changed : goal.returns-in_err-changed
returns-in_err-changed g c =
    let p = err_from_is_err_and c.from_residual-in_err-changed.result c.from_residual-in_err-changed.ensures.1 in
    let target : c.in_ok-target.target ≡ under c.args.entail.now.target c.args.more.now = search rules in
    record {
      exact = rw (p.1, p.2)
          (put_stops c.args.entail.now c.args.binder.now c.args.more.now c.args.term.now c.in_ok-target.target c.in_err-changed.field-0.0 target c.in_err-changed.ensures.exact);
    }

pub returns : goal.returns
returns g c =
    let target : c.in_ok-target.target ≡ under c.args.entail.now.target c.args.more.now = search rules in
    record {
      exact = put_goes c.args.entail.now c.args.binder.now c.args.more.now c.args.term.now c.in_ok-target.target c.in_ok-changed.changed c.in_ok-toward.field-0 target
          c.in_ok-changed.ensures.exact c.in_ok-toward.ensures;
    }
