use Rattle.std.proofs.Common.{List, Result, Ok, Err, subst}
use Rattle.std.proofs.lemmas.Result.{err_from_is_err_and}
use Rattle.floyd_text.specs.declared.refusal.RuleStop.{RuleStop}
use Rattle.floyd_goal_trees.specs.declared.goal.Goal.{Goal}
use Rattle.floyd_goal.specs.Answers.{IsAnswer}
use Rattle.floyd_goal_plans.specs.declared.joining.Pair.{Pair}
use Rattle.floyd_goal_plans.specs.Joining.{IsJoined, two_of}
use Rattle.floyd_shares.specs.Chains.{Then}
use Rattle.floyd_arrays.specs.JoinArray.{IsNew, OfTwo}
use Rattle.floyd_shares.proofs.ChainLemmas.{after_goes, after_stops, then_goes, then_stops}
use Rattle.floyd_arrays.proofs.join_array.do_join_array.Goals as goal

pub returns-in_err-source : goal.returns-in_err-source
returns-in_err-source g c =
    let structs = c.args.defs.now.structs in
    let start = c.args.goal.now in
    let pair = c.pair_of-pair.result in
    let e = err_from_is_err_and c.from_residual.result c.from_residual.ensures.1 in
    record {
      exact = rw (e.1, e.2)
          (subst (λ (n : Pair). IsAnswer (Then (two_of start n) (OfTwo structs start n)) (Err c.in_err-source.field-0.0)) c.pair_of-pair.ensures
          (then_stops (two_of start pair) (OfTwo structs start pair) c.in_err-source.field-0.0 c.in_err-source.ensures.exact));
    }

pub returns-in_err-new : goal.returns-in_err-new
returns-in_err-new g c =
    let structs = c.args.defs.now.structs in
    let start = c.args.goal.now in
    let pair = c.pair_of-pair.result in
    let source = c.in_ok-source.source.now in
    let p = c.in_ok-source.first.now in
    let q = c.in_ok-source.second.now in
    let stop = c.in_err-new.field-0.0 in
    let e = err_from_is_err_and c.from_residual-in_err-new.result c.from_residual-in_err-new.ensures.1 in
    record {
      exact = rw (e.1, e.2)
          (subst (λ (n : Pair). IsAnswer (Then (two_of start n) (OfTwo structs start n)) (Err stop)) c.pair_of-pair.ensures
          (then_goes (two_of start pair) (source, p, q) (OfTwo structs start pair) (Err stop) c.in_ok-source.ensures.exact
          (after_stops (IsNew structs p q) (IsJoined start pair source) stop c.in_err-new.ensures.exact)));
    }

pub returns : goal.returns
returns g c =
    let structs = c.args.defs.now.structs in
    let start = c.args.goal.now in
    let pair = c.pair_of-pair.result in
    let source = c.in_ok-source.source.now in
    let p = c.in_ok-source.first.now in
    let q = c.in_ok-source.second.now in
    let x : Result (List Goal) RuleStop = Ok c.in_ok-put_joined.field-0 in
    record {
      exact = subst (λ (n : Pair). IsAnswer (Then (two_of start n) (OfTwo structs start n)) x) c.pair_of-pair.ensures
          (then_goes (two_of start pair) (source, p, q) (OfTwo structs start pair) x c.in_ok-source.ensures.exact
          (after_goes (IsNew structs p q) c.in_ok-new.new (IsJoined start pair source) x c.in_ok-new.ensures.exact c.in_ok-put_joined.ensures));
    }
