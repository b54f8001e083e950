use Rattle.std.proofs.Common.{List, ap, sym, ◌∙◌}
use Rattle.std.proofs.lemmas.Result.{err_from_is_err_and}
use Rattle.std.specs.Prelude.{Result, Ok}
use Rattle.floyd_text.specs.declared.refusal.Refusal.{Refusal}
use Rattle.floyd_clight.specs.declared.syntax.Stmt.{Stmt}
use Rattle.floyd_elab_expressions.specs.declared.progress.Progress.{Progress}
use Rattle.std.specs.Prelude.{Err}
use Rattle.floyd_ctypes.specs.declared.ctype.CType.{CType}
use Rattle.floyd_clight.specs.declared.syntax.Expr.{Expr}
use Rattle.floyd_elab_effects.proofs.CallLemmas.{signature_is_none, signature_found, signature_stops}
use Rattle.floyd_elab_effects.proofs.calls.arguments_to.Goals as goal

pub returns-in-None : goal.returns-in-None
returns-in-None c = record {
  exact =
      signature_is_none c.args.names.now c.args.form.place c.args.form.arguments.now c.args.out.now c.args.t.now c.args.progress.now
      c.in-None.ensures
      ∙ ap (λ (x : Refusal). let done : Result (((List Stmt × List Expr) × CType) × Progress) Refusal = Err x in done) (sym c.ill_typed.ensures);
}

pub returns-in_err-all-in-Some : goal.returns-in_err-all-in-Some
returns-in_err-all-in-Some c =
    let r = err_from_is_err_and c.from_residual-in_err-all-in-Some.result c.from_residual-in_err-all-in-Some.ensures.1 in
    record {
      exact = rw (r.1, r.2) (signature_stops c.args.names.now c.args.form.place c.args.form.arguments.now c.args.out.now c.args.t.now (c.in-Some.parameters.now, c.in-Some.result.now) c.args.progress.now c.in_err-all-in-Some.field-0.0
          c.in-Some.ensures c.in_err-all-in-Some.ensures.exact);
    }

pub returns-in_ok-all-in-Some : goal.returns-in_ok-all-in-Some
returns-in_ok-all-in-Some c = record {
  exact =
      signature_found c.args.names.now c.args.form.place c.args.form.arguments.now c.args.out.now c.args.t.now (c.in-Some.parameters.now, c.in-Some.result.now) (c.all_arguments.new.out, c.in_ok-all-in-Some.all) c.args.progress.now c.all_arguments.new.progress
      c.in-Some.ensures c.in_ok-all-in-Some.ensures.exact
      ∙ ap (λ (u : CType). let done : Result (((List Stmt × List Expr) × CType) × Progress) Refusal = Ok (((c.all_arguments.new.out, c.in_ok-all-in-Some.all), u), c.all_arguments.new.progress) in done) (sym c.in_ok-own-in-Some.ensures);
}
