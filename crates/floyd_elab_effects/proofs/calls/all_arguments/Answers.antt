use Rattle.std.proofs.lemmas.Result.{err_from_is_err_and}
use Rattle.floyd_elab_effects.proofs.ArgumentLemmas.{one_more, one_stops, none_left, all_passed}
use Rattle.floyd_elab_effects.proofs.calls.all_arguments.Goals as goal

pub arguments-preserved : goal.arguments-preserved
arguments-preserved c =
    one_more c.args.names.now c.args.form.place c.arguments.left.now c.args.form.arguments.now c.arguments.argument-index c.arguments.out c.arguments.all c.arguments.progress _ c.arguments.invariant
    c.in-Some.ctype.now c.in-Some.more.now c.argument-item.result c.one_argument.new.out c.in_ok-passed.passed c.push.new.self c.one_argument.new.progress
    c.in-Some.ensures.cases.0 c.arguments-test.true c.argument-item.is c.in_ok-passed.ensures.exact c.in_ok-push.ensures.ok

pub returns-in_err-passed : goal.returns-in_err-passed
returns-in_err-passed c =
    let r = err_from_is_err_and c.from_residual.result c.from_residual.ensures.1 in
    record {
      exact = rw (r.1, r.2) (one_stops c.args.names.now c.args.form.place c.arguments.left.now c.args.form.arguments.now c.arguments.argument-index c.arguments.out c.arguments.all c.arguments.progress _ c.arguments.invariant
          c.in-Some.ctype.now c.in-Some.more.now c.argument-item.result c.in_err-passed.field-0.0 c.in-Some.ensures.cases.0 c.arguments-test.true c.argument-item.is c.in_err-passed.ensures.exact);
    }

pub returns-in_default : goal.returns-in_default
returns-in_default c = record { exact = none_left c.args.names.now c.args.form.place c.arguments.left.now c.args.form.arguments.now c.arguments.argument-index c.arguments.out c.arguments.all c.arguments.progress _ c.arguments.invariant c.in_default.ensures.cases }

pub returns : goal.returns
returns c = record { exact = all_passed c.args.names.now c.args.form.place c.arguments.left.now c.args.form.arguments.now c.arguments.argument-index c.arguments.out c.arguments.all c.arguments.progress _ c.arguments.invariant c.arguments-test.false }
