use Rattle.std.proofs.Common.{subst, ap, sym, ◌∙◌}
use Rattle.std.proofs.lemmas.Result.{err_from_is_err_and}
use Rattle.std.specs.Prelude.{None}
use Rattle.floyd_text.specs.Gives.{Gives, Stops}
use Rattle.floyd_elab_names.specs.Refusing.{unless}
use Rattle.floyd_elab_names.specs.Refusals.{ill_typed}
use Rattle.floyd_elab_expressions.specs.Behind.{behind}
use Rattle.floyd_elab_expressions.specs.Clight.{Translated}
use Rattle.floyd_elab_effects.specs.Effects.{assignment}
use Rattle.floyd_elab_effects.proofs.Leading.{first_leads, targeted_goes, targeted_stops}
use Rattle.floyd_elab_effects.proofs.effects.assign_first.Goals as goal

pub returns-in_err-judge : goal.returns-in_err-judge
returns-in_err-judge c =
    let p = c.args.progress.now in
    let target : Translated = behind c.args.out.now c.args.to.target.now in
    let r = err_from_is_err_and c.from_residual.result c.from_residual.ensures.1 in
    record {
      exact = rw (r.1, r.2) (subst (Stops c.in_err-judge.field-0.0) (sym (first_leads c.args.names.now c.args.to.place c.args.e.now c.args.out.now target p))
          (targeted_stops c.args.to.place (assignment c.args.names.now c.args.to.place None c.args.e.now) target p c.in_err-judge.field-0.0
          (subst (λ b. Stops c.in_err-judge.field-0.0 (unless (ill_typed c.args.to.place) b p)) c.is_target.ensures (c.in_err-judge.ensures.exact p))));
    }

pub returns : goal.returns
returns c =
    let p = c.args.progress.now in
    let target : Translated = behind c.args.out.now c.args.to.target.now in
    record {
      exact = subst (Gives _ c.simple_assignment.result) (sym (first_leads c.args.names.now c.args.to.place c.args.e.now c.args.out.now target p
          ∙ targeted_goes c.args.to.place (assignment c.args.names.now c.args.to.place None c.args.e.now) target c.in_ok-judge.field-0 p
          (ap (λ b. unless (ill_typed c.args.to.place) b p) (sym c.is_target.ensures) ∙ c.in_ok-judge.ensures.exact p))) c.simple_assignment.ensures.exact;
    }
