use Rattle.std.proofs.Common.{subst, sym}
use Rattle.std.proofs.lemmas.Result.{err_from_is_err_and}
use Rattle.floyd_text.specs.Gives.{Gives}
use Rattle.floyd_elab_expressions.specs.Behind.{behind}
use Rattle.floyd_elab_effects.proofs.Leading.{assigned_goes, assigned_stops}
use Rattle.floyd_elab_effects.proofs.effects.simple_assignment.Goals as goal

pub returns-in_err-value : goal.returns-in_err-value
returns-in_err-value c =
    let r = err_from_is_err_and c.from_residual.result c.from_residual.ensures.1 in
    record { exact = rw (r.1, r.2) (assigned_stops c.args.names.now c.args.to.place c.args.r.now (behind c.args.out.now c.args.to.target.now) c.args.progress.now c.in_err-value.field-0.0 c.in_err-value.ensures.exact) }

pub returns : goal.returns
returns c = record { exact = subst (Gives _ c.send.result) (sym (assigned_goes c.args.names.now c.args.to.place c.args.r.now (behind c.args.out.now c.args.to.target.now) (behind c.right_side.new.out c.in_ok-value.value) c.args.progress.now c.right_side.new.progress c.in_ok-value.ensures.exact)) (c.send.ensures.exact c.right_side.new.progress) }
