use Rattle.std.proofs.lemmas.Result.{err_from_is_err_and}
use Rattle.floyd_arrays_structs.proofs.JoinLemmas.{put_goes, put_stops}
use Rattle.floyd_arrays_structs.proofs.join_struct.put_for.Goals as goal

pub returns-in_err-rest : goal.returns-in_err-rest
returns-in_err-rest c =
    let e = err_from_is_err_and c.from_residual-in_err-rest.result c.from_residual-in_err-rest.ensures.1 in
    record {
      exact = rw (e.1, e.2)
          (put_stops c.args.goal.now c.args.number c.args.source.now c.args.joined.now c.in_ok-parts.parts c.in_err-rest.field-0.0 c.in_ok-parts.ensures c.in_err-rest.ensures.exact);
    }

pub returns : goal.returns
returns c = record {
  exact = put_goes c.args.goal.now c.args.number c.args.source.now c.args.joined.now c.in_ok-parts.parts c.in_ok-rest.rest c.in_ok-leaves.field-0 c.in_ok-parts.ensures c.in_ok-rest.ensures.exact
      c.in_ok-leaves.ensures;
}
