use Rattle.std.proofs.Common.{◌≡◌, List, [], ◌∷◌, ◌++◌, subst, ap, ◌∙◌}
use Rattle.std.proofs.lemmas.Result.{err_from_is_err_and}
use Rattle.std.specs.Prelude.{Ok, Some}
use Rattle.floyd_text.specs.Gives.{Stops}
use Rattle.floyd_clight.specs.declared.syntax.Stmt.{Call}
use Rattle.floyd_elab_effects.specs.CallClauses.{call_with}
use Rattle.floyd_ctypes.specs.declared.ctype.CType.{CType}
use Rattle.std.specs.Prelude.{ℕ}
use Rattle.floyd_ctyping.specs.Operators.{value_of_type}
use Rattle.floyd_clight.specs.declared.syntax.Expr.{Temp}
use Rattle.floyd_elab_expressions.specs.Progress.{pull}
use Rattle.floyd_elab_effects.proofs.EffectLemmas.{result_made, result_refused}
use Rattle.floyd_elab_effects.proofs.effects.call_result.Goals as goal

pub returns-in_err-x : goal.returns-in_err-x
returns-in_err-x c =
    let p = c.args.progress.now in
    let r = err_from_is_err_and c.from_residual-in_err-x.result c.from_residual-in_err-x.ensures.1 in
    record {
      exact = λ s. rw (r.1, r.2) (result_refused s (call_with c.args.out.now c.args.call) p c.in_err-x.field-0.0
          (subst (λ (t : CType). Stops c.in_err-x.field-0.0 (pull t p)) c.in_ok-t.ensures c.in_err-x.ensures.exact));
    }

pub returns : goal.returns
returns c =
    let p = c.args.progress.now in
    let q = c.draw_temporary.new.progress in
    let x = c.in_ok-x.x in
    record {
      exact = λ s. result_made s (call_with c.args.out.now c.args.call) x p q c.push_call.new.out _
          (subst (λ (t : CType). pull t p ≡ Ok (x, q)) c.in_ok-t.ensures c.in_ok-x.ensures.exact)
          (c.in_ok-push_call.ensures ∙ ap (λ (n : List ℕ). c.args.out.now ++ Call (Some n) c.args.call.callee c.args.call.arguments ∷ []) c.in_ok-name.ensures)
          (ap (λ (t : CType). Temp x t) (c.in_ok-own.ensures ∙ c.in_ok-t.ensures))
          (c.value.ensures ∙ ap value_of_type c.in_ok-t.ensures);
    }
