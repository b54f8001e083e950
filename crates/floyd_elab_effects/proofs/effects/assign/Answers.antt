use Rattle.std.proofs.Common.{subst, sym}
use Rattle.std.proofs.lemmas.Result.{err_from_is_err_and}
use Rattle.floyd_text.specs.Gives.{Gives}
use Rattle.floyd_elab_expressions.specs.Behind.{behind}
use Rattle.floyd_elab_effects.proofs.EffectLemmas.{assign_goes, assign_stops}
use Rattle.floyd_elab_effects.proofs.effects.assign.Goals as goal

pub returns-in_err-target : goal.returns-in_err-target
returns-in_err-target c =
    let r = err_from_is_err_and c.from_residual.result c.from_residual.ensures.1 in
    record { exact = rw (r.1, r.2) (assign_stops c.args.names.now c.args.parts.target.now c.args.parts.op c.args.parts.place c.args.parts.value.now c.args.out.now c.args.progress.now c.in_err-target.field-0.0 c.in_err-target.ensures.exact) }

pub returns : goal.returns
returns c = record { exact = subst (Gives _ c.assign_to.result) (sym (assign_goes c.args.names.now c.args.parts.target.now c.args.parts.op c.args.parts.place c.args.parts.value.now c.args.out.now (behind c.expression.new.out c.in_ok-target.target) c.args.progress.now c.expression.new.progress c.in_ok-target.ensures.exact)) (c.assign_to.ensures.exact) }
