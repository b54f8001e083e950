use Rattle.std.proofs.Common.{List, ap, sym, ◌∙◌}
use Rattle.std.proofs.lemmas.Result.{err_from_is_err_and}
use Rattle.std.specs.Prelude.{Result, Ok}
use Rattle.floyd_text.specs.declared.refusal.Refusal.{Refusal}
use Rattle.floyd_clight.specs.declared.syntax.Stmt.{Stmt}
use Rattle.floyd_elab_expressions.specs.declared.progress.Progress.{Progress}
use Rattle.floyd_elab_effects.specs.CallClauses.{call_with}
use Rattle.floyd_elab_effects.proofs.EffectLemmas.{alone_goes, alone_stops}
use Rattle.floyd_elab_effects.proofs.effects.lone_call.Goals as goal

pub returns-in_err-call : goal.returns-in_err-call
returns-in_err-call c =
    let r = err_from_is_err_and c.from_residual.result c.from_residual.ensures.1 in
    record { exact = rw (r.1, r.2) (alone_stops c.args.names.now c.args.form.function.now c.args.form.place c.args.form.arguments.now c.args.out.now c.args.progress.now c.in_err-call.field-0.0 c.in_err-call.ensures.exact) }

pub returns : goal.returns
returns c = record {
  exact =
      alone_goes c.args.names.now c.args.form.function.now c.args.form.place c.args.form.arguments.now c.args.out.now (call_with c.parts_of_call.new.out c.in_ok-call.call) c.args.progress.now c.parts_of_call.new.progress c.in_ok-call.ensures.exact
      ∙ ap (λ (l : List Stmt). let done : Result (List Stmt × Progress) Refusal = Ok (l, c.parts_of_call.new.progress) in done) (sym c.in_ok-push_call.ensures);
}
