use Rattle.std.proofs.Common.{refl}
use Rattle.floyd_elab_statements.proofs.Steps.{gives_err}
use Rattle.floyd_elab_statements.proofs.ConditionLemmas.{loop_test_stops, loop_test_goes}
use Rattle.floyd_elab_statements.proofs.conditions.loop_test.Goals as goal

pub returns-in_err-test : goal.returns-in_err-test
returns-in_err-test c =
    let h = c.in_err-test.field-0.0 in
    record {
      exact = gives_err _ c.from_residual.result h _ c.from_residual.ensures.1
          (loop_test_stops c.args.names.now c.args.place c.args.e.now c.args.out.now c.args.progress.now h c.in_err-test.ensures.exact);
    }

pub returns : goal.returns
returns c =
    record {
      exact =
          loop_test_goes c.args.names.now c.args.place c.args.e.now c.args.out.now c.args.progress.now c.test.new.out c.push_break.new.out c.in_ok-test.test c.in_ok-test.test c.test.new.progress
          c.in_ok-test.ensures.exact refl c.in_ok-push_break.ensures;
    }
