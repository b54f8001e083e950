use Rattle.std.proofs.Common.{subst, ap, sym, ◌∙◌}
use Rattle.std.proofs.lemmas.Result.{err_from_is_err_and}
use Rattle.std.specs.Prelude.{Option, Some, None}
use Rattle.floyd_text.specs.Gives.{Gives, Stops}
use Rattle.floyd_elab_names.specs.Refusing.{unless}
use Rattle.floyd_elab_names.specs.Refusals.{ill_typed}
use Rattle.floyd_elab_expressions.specs.Behind.{behind}
use Rattle.floyd_elab_expressions.specs.Clight.{Translated}
use Rattle.floyd_elab_effects.specs.Effects.{assignment}
use Rattle.floyd_elab_effects.specs.CallClauses.{on_target}
use Rattle.floyd_int.specs.declared.kinds.IntOp.{IntOp}
use Rattle.floyd_elab_effects.proofs.Leading.{targeted_goes, targeted_stops}
use Rattle.floyd_elab_effects.proofs.effects.assign_to.Goals as goal

pub returns-in_err-judge : goal.returns-in_err-judge
returns-in_err-judge c =
    let p = c.args.progress.now in
    let r = err_from_is_err_and c.from_residual.result c.from_residual.ensures.1 in
    record {
      exact = rw (r.1, r.2) (targeted_stops c.args.parts.place (assignment c.args.names.now c.args.parts.place c.args.parts.op c.args.parts.value.now) (behind c.args.out.now c.args.target.now) p c.in_err-judge.field-0.0
          (subst (λ b. Stops c.in_err-judge.field-0.0 (unless (ill_typed c.args.parts.place) b p)) c.is_target.ensures (c.in_err-judge.ensures.exact p)));
    }

pub returns-in-None : goal.returns-in-None
returns-in-None c =
    let p = c.args.progress.now in
    let target : Translated = behind c.args.out.now c.args.target.now in
    record {
      exact = subst (λ (k : Option IntOp). Gives (λ (u : Unit {0}). (c.simple_assignment.new.out, c.simple_assignment.new.progress)) c.simple_assignment.result (on_target c.args.parts.place (assignment c.args.names.now c.args.parts.place k c.args.parts.value.now) target p)) (sym c.in-None.is)
          (subst (Gives (λ (u : Unit {0}). (c.simple_assignment.new.out, c.simple_assignment.new.progress)) c.simple_assignment.result) (sym (targeted_goes c.args.parts.place (assignment c.args.names.now c.args.parts.place None c.args.parts.value.now) target c.in_ok-judge.field-0 p
          (ap (λ b. unless (ill_typed c.args.parts.place) b p) (sym c.is_target.ensures) ∙ c.in_ok-judge.ensures.exact p))) c.simple_assignment.ensures.exact);
    }

pub returns-in-Some : goal.returns-in-Some
returns-in-Some c =
    let p = c.args.progress.now in
    let target : Translated = behind c.args.out.now c.args.target.now in
    record {
      exact = subst (λ (k : Option IntOp). Gives (λ (u : Unit {0}). (c.update.new.out, c.update.new.progress)) c.update.result (on_target c.args.parts.place (assignment c.args.names.now c.args.parts.place k c.args.parts.value.now) target p)) (sym c.in-Some.is)
          (subst (Gives (λ (u : Unit {0}). (c.update.new.out, c.update.new.progress)) c.update.result) (sym (targeted_goes c.args.parts.place (assignment c.args.names.now c.args.parts.place (Some c.in-Some.op) c.args.parts.value.now) target c.in_ok-judge.field-0 p
          (ap (λ b. unless (ill_typed c.args.parts.place) b p) (sym c.is_target.ensures) ∙ c.in_ok-judge.ensures.exact p))) c.update.ensures.exact);
    }
