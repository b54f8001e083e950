use Rattle.std.proofs.Common.{Err, subst}
use Rattle.std.proofs.lemmas.Result.{err_from_is_err_and}
use Rattle.floyd_goal.specs.Answers.{IsAnswer}
use Rattle.floyd_goal_plans.specs.declared.joining.Pair.{Pair}
use Rattle.floyd_goal_plans.specs.Joining.{IsJoinedUnder, two_of}
use Rattle.floyd_shares.specs.Chains.{Then}
use Rattle.floyd_shares.specs.JoinShare.{IsPlan, OfTwo}
use Rattle.floyd_shares.proofs.ChainLemmas.{after_goes, after_stops, then_goes, then_stops}
use Rattle.floyd_shares.proofs.join_share.do_join_share.Goals as goal

pub returns-in_err-source : goal.returns-in_err-source
returns-in_err-source g c =
    let start = c.args.goal.now in
    let pair = c.pair_of-pair.result in
    let e = err_from_is_err_and c.from_residual.result c.from_residual.ensures.1 in
    record {
      exact = rw (e.1, e.2)
          (subst (λ (n : Pair). IsAnswer (Then (two_of start n) (OfTwo start n)) (Err c.in_err-source.field-0.0)) c.pair_of-pair.ensures
          (then_stops (two_of start pair) (OfTwo start pair) c.in_err-source.field-0.0 c.in_err-source.ensures.exact));
    }

pub returns-in_err-plan : goal.returns-in_err-plan
returns-in_err-plan g c =
    let start = c.args.goal.now in
    let pair = c.pair_of-pair.result in
    let source = c.in_ok-source.source.now in
    let p = c.in_ok-source.first.now in
    let q = c.in_ok-source.second.now in
    let stop = c.in_err-plan.field-0.0 in
    let e = err_from_is_err_and c.from_residual-in_err-plan.result c.from_residual-in_err-plan.ensures.1 in
    record {
      exact = rw (e.1, e.2)
          (subst (λ (n : Pair). IsAnswer (Then (two_of start n) (OfTwo start n)) (Err stop)) c.pair_of-pair.ensures
          (then_goes (two_of start pair) (source, p, q) (OfTwo start pair) (Err stop) c.in_ok-source.ensures.exact
          (after_stops (IsPlan p q) (IsJoinedUnder start pair source) stop c.in_err-plan.ensures.exact)));
    }

pub returns : goal.returns
returns g c =
    let start = c.args.goal.now in
    let pair = c.pair_of-pair.result in
    let source = c.in_ok-source.source.now in
    let p = c.in_ok-source.first.now in
    let q = c.in_ok-source.second.now in
    let x = c.join_under.result in
    record {
      exact = subst (λ (n : Pair). IsAnswer (Then (two_of start n) (OfTwo start n)) x) c.pair_of-pair.ensures
          (then_goes (two_of start pair) (source, p, q) (OfTwo start pair) x c.in_ok-source.ensures.exact
          (after_goes (IsPlan p q) c.in_ok-plan.plan (IsJoinedUnder start pair source) x c.in_ok-plan.ensures.exact c.join_under.ensures.exact));
    }
