use Rattle.std.proofs.Common.{List, ◌∷◌, subst, ap, sym, ◌∙◌}
use Rattle.std.specs.Prelude.{Result}
use Rattle.floyd_text.specs.Gives.{Gives, Stops}
use Rattle.floyd_text.specs.declared.refusal.Refusal.{Refusal}
use Rattle.floyd_clight.specs.declared.syntax.Stmt.{Stmt}
use Rattle.floyd_elab_expressions.specs.declared.progress.Progress.{Progress}
use Rattle.floyd_elab_expressions.specs.Behind.{behind, put_behind}
use Rattle.floyd_cparse_trees.specs.declared.expressions.Prefix.{Prefix}
use Rattle.floyd_cparse_trees.specs.declared.expressions.CExpr.{Prefixed}
use Rattle.std.proofs.Common.{inl, inr}
use Rattle.floyd_elab_effects.specs.Effects.{effect}
use Rattle.std.proofs.lemmas.Result.{err_from_is_err_and}
use Rattle.floyd_elab_effects.proofs.EffectLemmas.{prefix_goes, prefix_stops}
use Rattle.floyd_elab_effects.proofs.OtherLemmas.{bare_does, operator_does, cast_does, step_does, empty}
use Rattle.floyd_elab_effects.proofs.effects.prefix_effect.Goals as goal

pub returns-in_default : goal.returns-in_default
returns-in_default c =
    let s = c.args.names.now in
    let p = c.args.progress.now in
    record { exact = ap (λ (l : List Prefix). put_behind c.args.out.now (effect s (Prefixed l c.args.operand.now) p)) (empty c.args.prefixes.now c.in_default.ensures.cases) ∙ bare_does s c.args.operand.now c.args.out.now p }

pub returns-in_err-target-in-Step : goal.returns-in_err-target-in-Step
returns-in_err-target-in-Step c =
    let s = c.args.names.now in
    let p = c.args.progress.now in
    let r = err_from_is_err_and c.from_residual.result c.from_residual.ensures.1 in
    record {
      exact = rw (r.1, r.2) (subst (λ (x : Result (List Stmt × Progress) Refusal). Stops c.in_err-target-in-Step.field-0.0 (put_behind c.args.out.now x))
          (sym (ap (λ (l : List Prefix). effect s (Prefixed l c.args.operand.now) p) (c.in-Some.ensures.cases.0 ∙ ap (λ (f : Prefix). f ∷ c.in-Some.rest.now) c.in-Step.is)
          ∙ step_does s c.in-Step.op c.in-Step.place c.in-Some.rest.now c.args.operand.now p))
          (prefix_stops s c.in-Step.op c.in-Step.place c.in-Some.rest.now c.args.operand.now c.args.out.now p c.in_err-target-in-Step.field-0.0 c.in_err-target-in-Step.ensures.exact));
    }

pub returns-in_ok-target-in-Step : goal.returns-in_ok-target-in-Step
returns-in_ok-target-in-Step c =
    let s = c.args.names.now in
    let p = c.args.progress.now in
    record {
      exact = subst (λ (x : Result (List Stmt × Progress) Refusal). Gives (λ (u : Unit {0}). (c.step_effect.new.out, c.step_effect.new.progress)) c.step_effect.result (put_behind c.args.out.now x))
          (sym (ap (λ (l : List Prefix). effect s (Prefixed l c.args.operand.now) p) (c.in-Some.ensures.cases.0 ∙ ap (λ (f : Prefix). f ∷ c.in-Some.rest.now) c.in-Step.is)
          ∙ step_does s c.in-Step.op c.in-Step.place c.in-Some.rest.now c.args.operand.now p))
          (subst (Gives (λ (u : Unit {0}). (c.step_effect.new.out, c.step_effect.new.progress)) c.step_effect.result)
          (sym (prefix_goes s c.in-Step.op c.in-Step.place c.in-Some.rest.now c.args.operand.now c.args.out.now (behind c.with_prefixes.new.out c.in_ok-target-in-Step.target) p c.with_prefixes.new.progress c.in_ok-target-in-Step.ensures.exact))
          c.step_effect.ensures.exact);
    }

pub returns-in-Op : goal.returns-in-Op
returns-in-Op c =
    let s = c.args.names.now in
    let there = c.args.out.now in
    let p = c.args.progress.now in
    let rest = c.in-Some.rest.now in
    let e = c.args.operand.now in
    record {
      exact = ap (λ (l : List Prefix). put_behind there (effect s (Prefixed l e) p)) c.in-Some.ensures.cases.0
          ∙ elim c.in-Op.is [
            | inl h ↦ ap (λ (f : Prefix). put_behind there (effect s (Prefixed (f ∷ rest) e) p)) h.2 ∙ operator_does s h.0 h.1 rest e there p
            | inr h ↦ ap (λ (f : Prefix). put_behind there (effect s (Prefixed (f ∷ rest) e) p)) h.2 ∙ cast_does s h.0 h.1 rest e there p
          ];
    }
