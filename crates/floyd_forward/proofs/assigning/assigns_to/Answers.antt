use Rattle.std.proofs.Common.{◌≡◌, Ok, subst}
use Rattle.std.proofs.lemmas.Result.{err_from_is_err_and}
use Rattle.floyd_assert_trees.specs.declared.sep.Sep.{Sep}
use Rattle.floyd_goal_trees.specs.declared.context.Context.{Context}
use Rattle.floyd_goal_runs.proofs.NeedLemmas.{needing_from, needing_stops}
use Rattle.floyd_forward.specs.Assign.{part_set}
use Rattle.floyd_forward.proofs.assigning.assigns_to.Goals as goal

pub returns-in_err-side : goal.returns-in_err-side
returns-in_err-side g c =
    let run = c.args.at.run.now in
    let s = c.args.s.now in
    let p = err_from_is_err_and c.from_residual.result c.from_residual.ensures.1 in
    record {
      exact = rw (p.1, p.2)
          (needing_stops run.context run.source s.needs (part_set run s.number s.part) c.as_slice-formulas.result.now c.in_err-side.field-0.0 c.as_slice-formulas.ensures c.in_err-side.ensures.exact);
    }

pub returns : goal.returns
returns g c =
    let run = c.args.at.run.now in
    let s = c.args.s.now in
    record {
      exact = needing_from run.context run.source s.needs (part_set run s.number s.part) c.as_slice-formulas.result.now c.as_slice.result.now c.in_ok-side.side c.in_ok-side.context c.in_ok-goals.goals
          c.in_ok-needed.field-0 c.as_slice-formulas.ensures c.as_slice.ensures c.in_ok-side.ensures.exact
          (subst (λ (d : Context). part_set run s.number s.part d ≡ Ok c.in_ok-goals.goals) c.in_ok-inner.ensures
          (subst (λ (q : Sep). part_set run s.number q c.in_ok-inner.inner ≡ Ok c.in_ok-goals.goals) c.in_ok-share.ensures c.in_ok-goals.ensures))
          c.in_ok-needed.ensures;
    }
