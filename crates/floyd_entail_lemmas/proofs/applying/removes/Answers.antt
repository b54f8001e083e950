use Rattle.std.proofs.lemmas.Result.{err_from_is_err_and}
use Rattle.floyd_entail_lemmas.proofs.ApplyLemmas.{removal_goes, removal_stops}
use Rattle.floyd_entail_lemmas.proofs.applying.removes.Goals as goal

pub returns-in_err-rest : goal.returns-in_err-rest
returns-in_err-rest c =
    let p = err_from_is_err_and c.from_residual.result c.from_residual.ensures.1 in
    record {
      exact = rw (p.1, p.2) (removal_stops c.args.goal.now c.args.source.now c.args.parts.now c.args.right.now c.args.sides c.in_err-rest.field-0.0 c.in_err-rest.ensures.exact);
    }

pub returns : goal.returns
returns c =
    record {
      exact = removal_goes c.args.goal.now c.args.source.now c.args.parts.now c.in_ok-rest.rest c.args.right.now c.args.sides c.in_ok-used.field-0 c.in_ok-rest.ensures.exact c.in_ok-used.ensures;
    }
