use Rattle.std.proofs.lemmas.Result.{err_from_is_err_and}
use Rattle.floyd_goal_parts.specs.Writing.{is_pointer}
use Rattle.floyd_goal_plans.proofs.WritingLemmas.{two_first, two_second, two_fine}
use Rattle.floyd_entail.specs.Facts.{compatible}
use Rattle.floyd_entail.proofs.facts.address_facts.Goals as goal

pub returns-in_err-pointer : goal.returns-in_err-pointer
returns-in_err-pointer g c =
    let p = err_from_is_err_and c.from_residual.result c.from_residual.ensures.1 in
    record {
      exact = rw (p.1, p.2) (two_first c.in_err-pointer.field-0.0 (is_pointer c.args.region.now.root) (compatible c.args.region.now) c.in_err-pointer.ensures.err);
    }

pub returns-in_err-fitting : goal.returns-in_err-fitting
returns-in_err-fitting g c =
    let p = err_from_is_err_and c.from_residual-in_err-fitting.result c.from_residual-in_err-fitting.ensures.1 in
    record {
      exact = rw (p.1, p.2)
          (two_second c.in_err-fitting.field-0.0 (is_pointer c.args.region.now.root) (compatible c.args.region.now) c.in_ok-pointer.ensures.fine c.in_err-fitting.ensures.err);
    }

pub returns : goal.returns
returns g c =
    let same = c.in_ok-two_formulas.ensures in
    record {
      exact = two_fine (is_pointer c.args.region.now.root) (compatible c.args.region.now) c.in_ok-two_formulas.field-0 c.in_ok-pointer.ensures.fine c.in_ok-fitting.ensures.fine
          (rw (c.in_ok-pointer.ensures.ok, c.in_ok-fitting.ensures.ok) at same);
    }
