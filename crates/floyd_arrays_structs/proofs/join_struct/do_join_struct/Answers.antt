use Rattle.std.proofs.Common.{List, ℕ, Err, Ok, subst}
use Rattle.std.proofs.lemmas.Result.{err_from_is_err_and}
use Rattle.floyd_assert_trees.specs.declared.sep.Sep.{Sep}
use Rattle.floyd_goal.specs.Answers.{IsAnswer}
use Rattle.floyd_goal_parts.specs.Sources.{part_of}
use Rattle.floyd_shares.specs.Chains.{Then}
use Rattle.floyd_shares.proofs.ChainLemmas.{after_goes, after_stops, then_goes, then_stops}
use Rattle.floyd_arrays_structs.specs.JoinStruct.{IsJoined, IsPutFor, OfPart}
use Rattle.floyd_arrays_structs.proofs.join_struct.do_join_struct.Goals as goal

pub returns-in_err-source : goal.returns-in_err-source
returns-in_err-source g c =
    let structs = c.args.defs.now.structs in
    let start = c.args.goal.now in
    let k = c.part_number-number.result in
    let stop = c.in_err-source.field-0.0 in
    let e = err_from_is_err_and c.from_residual.result c.from_residual.ensures.1 in
    record {
      exact = rw (e.1, e.2)
          (subst (λ (n : ℕ). IsAnswer (Then (part_of start n) (OfPart structs start n)) (Err stop)) c.part_number-number.ensures
          (then_stops (part_of start k) (OfPart structs start k) stop c.in_err-source.ensures.exact));
    }

pub returns-in_err-joined : goal.returns-in_err-joined
returns-in_err-joined g c =
    let structs = c.args.defs.now.structs in
    let start = c.args.goal.now in
    let k = c.part_number-number.result in
    let source = c.in_ok-source.source.now in
    let part = c.in_ok-source.part.now in
    let stop = c.in_err-joined.field-0.0 in
    let found = subst (λ (ps : List Sep). IsAnswer (IsJoined structs ps part) (Err stop)) c.as_slice-parts.ensures c.in_err-joined.ensures.exact in
    let e = err_from_is_err_and c.from_residual-in_err-joined.result c.from_residual-in_err-joined.ensures.1 in
    record {
      exact = rw (e.1, e.2)
          (subst (λ (n : ℕ). IsAnswer (Then (part_of start n) (OfPart structs start n)) (Err stop)) c.part_number-number.ensures
          (then_goes (part_of start k) (source, part) (OfPart structs start k) (Err stop) c.in_ok-source.ensures.exact
          (after_stops (IsJoined structs source.parts part) (IsPutFor start k source) stop found)));
    }

pub returns : goal.returns
returns g c =
    let structs = c.args.defs.now.structs in
    let start = c.args.goal.now in
    let k = c.part_number-number.result in
    let source = c.in_ok-source.source.now in
    let part = c.in_ok-source.part.now in
    let x = c.put_for.result in
    let found = subst (λ (ps : List Sep). IsJoined structs ps part (Ok c.in_ok-joined.joined)) c.as_slice-parts.ensures c.in_ok-joined.ensures.exact in
    record {
      exact = subst (λ (n : ℕ). IsAnswer (Then (part_of start n) (OfPart structs start n)) x) c.part_number-number.ensures
          (then_goes (part_of start k) (source, part) (OfPart structs start k) x c.in_ok-source.ensures.exact
          (after_goes (IsJoined structs source.parts part) c.in_ok-joined.joined (IsPutFor start k source) x found c.put_for.ensures.exact));
    }
