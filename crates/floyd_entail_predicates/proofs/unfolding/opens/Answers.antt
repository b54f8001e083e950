use Rattle.std.proofs.Common.{◌≡◌, rules}
use Rattle.std.proofs.lemmas.Result.{err_from_is_err_and}
use Rattle.floyd_goal.specs.Sides.{context_of}
use Rattle.floyd_entail_predicates.proofs.UnfoldLemmas.{apart_goes, apart_stops}
use Rattle.floyd_entail_predicates.proofs.unfolding.opens.Goals as goal

pub returns-in_err-apart : goal.returns-in_err-apart
returns-in_err-apart g c =
    let p = err_from_is_err_and c.from_residual.result c.from_residual.ensures.1 in
    let seen : c.as_slice-variables.result.now ≡ (context_of c.args.goal.now).variables = search rules in
    record {
      exact = rw (p.1, p.2) (apart_stops c.args.goal.now c.args.number c.args.source.now c.args.clause.now c.as_slice-variables.result.now c.in_err-apart.field-0.0 seen c.in_err-apart.ensures.exact);
    }

pub returns : goal.returns
returns g c =
    let seen : c.as_slice-variables.result.now ≡ (context_of c.args.goal.now).variables = search rules in
    record {
      exact = apart_goes c.args.goal.now c.args.number c.args.source.now c.args.clause.now c.in_ok-apart.apart c.as_slice-variables.result.now c.in_ok-opened.field-0 seen c.in_ok-apart.ensures.exact c.in_ok-opened.ensures;
    }
