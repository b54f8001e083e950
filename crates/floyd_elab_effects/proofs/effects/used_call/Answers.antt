use Rattle.std.proofs.Common.{subst, sym}
use Rattle.std.proofs.lemmas.Result.{err_from_is_err_and}
use Rattle.floyd_text.specs.Gives.{Gives}
use Rattle.floyd_elab_effects.specs.CallClauses.{call_with}
use Rattle.floyd_elab_effects.proofs.EffectLemmas.{result_goes, result_stops}
use Rattle.floyd_elab_effects.proofs.effects.used_call.Goals as goal

pub returns-in_err-call : goal.returns-in_err-call
returns-in_err-call c =
    let r = err_from_is_err_and c.from_residual.result c.from_residual.ensures.1 in
    record { exact = rw (r.1, r.2) (result_stops c.args.names.now c.args.form.function.now c.args.form.place c.args.form.arguments.now c.args.out.now c.args.progress.now c.in_err-call.field-0.0 c.in_err-call.ensures.exact) }

pub returns : goal.returns
returns c = record { exact = subst (Gives _ c.call_result.result) (sym (result_goes c.args.names.now c.args.form.function.now c.args.form.place c.args.form.arguments.now c.args.out.now (call_with c.parts_of_call.new.out c.in_ok-call.call) c.args.progress.now c.parts_of_call.new.progress c.in_ok-call.ensures.exact)) (c.call_result.ensures.exact c.args.names.now) }
