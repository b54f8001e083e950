use Rattle.std.proofs.Common.{◌∙◌}
use Rattle.std.specs.Option.{option_copied}
use Rattle.std.proofs.lemmas.Result.{err_from_is_err_and}
use Rattle.floyd_entail_cancel.specs.Cancel.{equation_to}
use Rattle.floyd_entail_cancel.proofs.LocalLemmas.{equations_end, equations_more, equations_stop, fine_more}
use Rattle.floyd_entail_cancel.proofs.locals.equations.Goals as goal

pub returns-in_err-push_equation : goal.returns-in_err-push_equation
returns-in_err-push_equation g c =
    let p = err_from_is_err_and c.from_residual.result c.from_residual.ensures.1 in
    record {
      exact = rw (p.1, p.2)
          (equations_stop c.in_err-push_equation.field-0.0 c.args.source.now c.args.target.now c.locals.local-index c.local-item.result (option_copied c.value_of-value.result) c.locals.all
          c.locals-test.true c.local-item.is c.value_of-value.ensures c.locals.invariant.all c.locals.invariant.fine c.in_err-push_equation.ensures.err);
    }

pub locals-preserved : goal.locals-preserved
locals-preserved g c = record {
  all =
      equations_more c.args.source.now c.args.target.now c.locals.local-index c.local-item.result (option_copied c.value_of-value.result) c.locals.all c.push_equation.new.all
      c.locals-test.true c.local-item.is c.value_of-value.ensures c.in_ok-push_equation.ensures.ok ∙ c.locals.invariant.all;
  fine =
      fine_more c.locals.all (equation_to (option_copied c.value_of-value.result) c.local-item.result.term) c.push_equation.new.all c.locals.invariant.fine c.in_ok-push_equation.ensures.fine
      c.in_ok-push_equation.ensures.ok;
}

pub returns : goal.returns
returns g c = record {
  exact = equations_end c.args.source.now c.args.target.now c.locals.local-index c.locals.all c.locals-test.false c.locals.invariant.all c.locals.invariant.fine;
}
