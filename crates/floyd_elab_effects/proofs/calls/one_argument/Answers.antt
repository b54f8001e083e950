use Rattle.std.proofs.Common.{subst, sym}
use Rattle.std.proofs.lemmas.Result.{err_from_is_err_and}
use Rattle.floyd_text.specs.Gives.{Gives}
use Rattle.floyd_elab_expressions.specs.Behind.{behind}
use Rattle.floyd_elab_effects.proofs.CallLemmas.{argument_goes, argument_stops}
use Rattle.floyd_elab_effects.proofs.calls.one_argument.Goals as goal

pub returns-in_err-a : goal.returns-in_err-a
returns-in_err-a c =
    let r = err_from_is_err_and c.from_residual.result c.from_residual.ensures.1 in
    record { exact = rw (r.1, r.2) (argument_stops c.args.names.now c.args.parameter.place c.args.parameter.ctype.now c.args.argument.now c.args.out.now c.args.progress.now c.in_err-a.field-0.0 c.in_err-a.ensures.exact) }

pub returns : goal.returns
returns c = record { exact = subst (Gives _ c.fit_argument.result) (sym (argument_goes c.args.names.now c.args.parameter.place c.args.parameter.ctype.now c.args.argument.now c.args.out.now (behind c.rvalue.new.out c.in_ok-a.a) c.args.progress.now c.rvalue.new.progress c.in_ok-a.ensures.exact)) (c.fit_argument.ensures.exact c.rvalue.new.out c.rvalue.new.progress) }
