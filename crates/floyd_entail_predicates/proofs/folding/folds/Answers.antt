use Rattle.std.proofs.Common.{◌≡◌, rules}
use Rattle.std.proofs.lemmas.Result.{err_from_is_err_and}
use Rattle.floyd_goal.specs.Sides.{context_of}
use Rattle.floyd_entail_predicates.proofs.FoldLemmas.{sides_go, sides_stop}
use Rattle.floyd_entail_predicates.proofs.folding.folds.Goals as goal

pub returns-in_err-sides : goal.returns-in_err-sides
returns-in_err-sides g c =
    let p = err_from_is_err_and c.from_residual.result c.from_residual.ensures.1 in
    let seen : c.context_of.result.now ≡ context_of c.args.goal.now = search rules in
    let formulas : c.as_slice.result.now ≡ c.args.clause.now.props = search rules in
    record {
      exact = rw (p.1, p.2)
          (sides_stop c.args.goal.now c.args.args.now c.args.source.now c.args.clause.now c.context_of.result.now c.as_slice.result.now c.in_err-sides.field-0.0 seen formulas c.in_err-sides.ensures.exact);
    }

pub returns : goal.returns
returns g c =
    let seen : c.context_of.result.now ≡ context_of c.args.goal.now = search rules in
    let formulas : c.as_slice.result.now ≡ c.args.clause.now.props = search rules in
    record {
      exact = sides_go c.args.goal.now c.args.args.now c.args.source.now c.args.clause.now c.context_of.result.now c.as_slice.result.now c.in_ok-sides.sides c.removes.result seen formulas c.in_ok-sides.ensures.exact c.removes.ensures.exact;
    }
