use Rattle.std.proofs.Common.{subst, sym}
use Rattle.std.proofs.lemmas.Result.{err_from_is_err_and}
use Rattle.floyd_text.specs.Gives.{Gives}
use Rattle.floyd_elab_expressions.specs.Behind.{behind}
use Rattle.floyd_elab_effects.proofs.CallLemmas.{call_goes, call_stops}
use Rattle.floyd_elab_effects.proofs.calls.parts_of_call.Goals as goal

pub returns-in_err-f : goal.returns-in_err-f
returns-in_err-f c =
    let r = err_from_is_err_and c.from_residual.result c.from_residual.ensures.1 in
    record { exact = rw (r.1, r.2) (call_stops c.args.names.now c.args.form.function.now c.args.form.place c.args.form.arguments.now c.args.out.now c.args.progress.now c.in_err-f.field-0.0 c.in_err-f.ensures.exact) }

pub returns : goal.returns
returns c = record { exact = subst (Gives _ c.call_through.result) (sym (call_goes c.args.names.now c.args.form.function.now c.args.form.place c.args.form.arguments.now c.args.out.now (behind c.rvalue.new.out c.in_ok-f.f) c.args.progress.now c.rvalue.new.progress c.in_ok-f.ensures.exact)) (c.call_through.ensures.exact) }
