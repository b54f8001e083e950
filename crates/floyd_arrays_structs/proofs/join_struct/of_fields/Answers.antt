use Rattle.std.proofs.Common.{List, Ok, Err, subst, drop}
use Rattle.std.proofs.lemmas.Result.{err_from_is_err_and}
use Rattle.floyd_ctypes.specs.declared.field.Field.{Field}
use Rattle.floyd_assert_trees.specs.declared.sep.Sep.{Sep}
use Rattle.floyd_goal.specs.Answers.{IsAnswer}
use Rattle.floyd_shares.proofs.ChainLemmas.{after_goes, after_stops}
use Rattle.floyd_arrays_structs.specs.JoinStruct.{IsFound, OfFound}
use Rattle.floyd_arrays_structs.specs.StructParts.{padding_parts}
use Rattle.floyd_arrays_structs.proofs.join_struct.of_fields.Goals as goal

pub returns-in_err-found : goal.returns-in_err-found
returns-in_err-found g c =
    let s = c.args.whole.now in
    let parts = c.args.parts.now in
    let fields = c.args.fields.now in
    let padding = padding_parts c.args.structs.now s fields in
    let others = subst (λ (fs : List Field). IsAnswer (IsFound s.region parts fs) (Err c.in_err-found.field-0.0)) c.behind_first-others.ensures c.in_err-found.ensures.exact in
    let e = err_from_is_err_and c.from_residual.result c.from_residual.ensures.1 in
    record {
      exact = rw (e.1, e.2)
          (after_stops (IsFound s.region parts (drop 1 fields)) (OfFound s padding parts) c.in_err-found.field-0.0 others);
    }

pub returns : goal.returns
returns g c =
    let s = c.args.whole.now in
    let parts = c.args.parts.now in
    let fields = c.args.fields.now in
    let padding = padding_parts c.args.structs.now s fields in
    record {
      exact = after_goes (IsFound s.region parts (drop 1 fields)) c.in_ok-found.found (OfFound s padding parts) c.of_found.result
          (subst (λ (fs : List Field). IsFound s.region parts fs (Ok c.in_ok-found.found)) c.behind_first-others.ensures c.in_ok-found.ensures.exact)
          (subst (λ (ps : List Sep). IsAnswer (OfFound s ps parts c.in_ok-found.found) c.of_found.result) c.in_ok-padding.ensures c.of_found.ensures.exact);
    }
