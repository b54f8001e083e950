use Rattle.std.proofs.Common.{[], subst, ap, sym, ◌∙◌}
use Rattle.std.proofs.lemmas.Result.{err_from_is_err_and}
use Rattle.floyd_text.specs.Gives.{Gives, Stops}
use Rattle.floyd_elab_names.specs.Refusing.{unless}
use Rattle.floyd_elab_names.specs.Refusals.{ill_typed}
use Rattle.floyd_elab_expressions.specs.Behind.{behind}
use Rattle.floyd_elab_effects.specs.CallClauses.{send_operation}
use Rattle.floyd_elab_effects.specs.Effects.{step_op as step_op_lem}
use Rattle.floyd_elab_expressions.specs.Clight.{Translated}
use Rattle.floyd_elab_effects.proofs.Leading.{stepped_goes, stepped_stops, stepped_stops_later}
use Rattle.floyd_elab_effects.proofs.effects.step_effect.Goals as goal

pub returns-in_err-judge : goal.returns-in_err-judge
returns-in_err-judge c =
    let p = c.args.progress.now in
    let target : Translated = behind c.args.out.now c.args.target.now in
    let r = err_from_is_err_and c.from_residual.result c.from_residual.ensures.1 in
    record {
      exact = rw (r.1, r.2) (stepped_stops c.args.step.op c.args.step.place target p c.in_err-judge.field-0.0
          (subst (λ b. Stops c.in_err-judge.field-0.0 (unless (ill_typed c.args.step.place) b p)) c.is_target.ensures (c.in_err-judge.ensures.exact p)));
    }

pub returns-in_err-own : goal.returns-in_err-own
returns-in_err-own c =
    let p = c.args.progress.now in
    let target : Translated = behind c.args.out.now c.args.target.now in
    let r = err_from_is_err_and c.from_residual-in_err-own.result c.from_residual-in_err-own.ensures.1 in
    record {
      exact = rw (r.1, r.2) (stepped_stops_later c.args.step.op c.args.step.place target c.in_ok-judge.field-0 p c.in_err-own.field-0.0
          (ap (λ b. unless (ill_typed c.args.step.place) b p) (sym c.is_target.ensures) ∙ c.in_ok-judge.ensures.exact p) c.in_err-own.ensures.exact);
    }

pub returns : goal.returns
returns c =
    let p = c.args.progress.now in
    let target : Translated = behind c.args.out.now c.args.target.now in
    let a : Translated = behind c.read.new.out c.in_ok-own.own in
    record {
      exact = subst (Gives _ c.send_operation.result) (sym (
          stepped_goes c.args.step.op c.args.step.place target a c.in_ok-judge.field-0 p c.read.new.progress
          (ap (λ b. unless (ill_typed c.args.step.place) b p) (sym c.is_target.ensures) ∙ c.in_ok-judge.ensures.exact p) c.in_ok-own.ensures.exact
          ∙ ap (λ (b : Translated). send_operation (step_op_lem c.args.step.op) c.args.step.place target (behind [] c.in_ok-own.own) b c.read.new.progress) (sym (c.literal_one.ensures c.read.new.out))
          ∙ ap (λ k. send_operation k c.args.step.place target (behind [] c.in_ok-own.own) (behind c.read.new.out c.literal_one.result) c.read.new.progress) (sym c.step_op.ensures)))
          c.send_operation.ensures.exact;
    }
