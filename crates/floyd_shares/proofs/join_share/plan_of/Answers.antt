use Rattle.std.proofs.Common.{Err}
use Rattle.std.proofs.lemmas.Result.{err_from_is_err_and}
use Rattle.floyd_shares.specs.JoinShare.{OfShares, WithShare}
use Rattle.floyd_shares.specs.Shares.{share_of}
use Rattle.floyd_shares.proofs.ChainLemmas.{then_goes, then_stops}
use Rattle.floyd_shares.proofs.join_share.plan_of.Goals as goal

pub returns-in_err-a : goal.returns-in_err-a
returns-in_err-a g c =
    let p = c.args.first.now in
    let q = c.args.second.now in
    let e = err_from_is_err_and c.from_residual.result c.from_residual.ensures.1 in
    record { exact = rw (e.1, e.2) (then_stops (share_of p) (WithShare p q) c.in_err-a.field-0.0 c.in_err-a.ensures.exact) }

pub returns-in_err-b : goal.returns-in_err-b
returns-in_err-b g c =
    let p = c.args.first.now in
    let q = c.args.second.now in
    let e = err_from_is_err_and c.from_residual-in_err-b.result c.from_residual-in_err-b.ensures.1 in
    record {
      exact = rw (e.1, e.2)
          (then_goes (share_of p) c.in_ok-a.a.now (WithShare p q) (Err c.in_err-b.field-0.0) c.in_ok-a.ensures.exact
          (then_stops (share_of q) (OfShares p q c.in_ok-a.a.now) c.in_err-b.field-0.0 c.in_err-b.ensures.exact));
    }

pub returns : goal.returns
returns g c =
    let p = c.args.first.now in
    let q = c.args.second.now in
    record {
      exact = then_goes (share_of p) c.in_ok-a.a.now (WithShare p q) c.of_shares.result c.in_ok-a.ensures.exact
          (then_goes (share_of q) c.in_ok-b.b.now (OfShares p q c.in_ok-a.a.now) c.of_shares.result c.in_ok-b.ensures.exact c.of_shares.ensures.exact);
    }
