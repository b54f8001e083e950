use Rattle.std.proofs.Common.{List, subst, ap, sym, ◌∙◌}
use Rattle.floyd_text.specs.Gives.{Gives}
use Rattle.floyd_elab_expressions.specs.Behind.{put_behind}
use Rattle.floyd_cparse_trees.specs.declared.expressions.Prefix.{Prefix}
use Rattle.floyd_cparse_trees.specs.declared.expressions.CExpr.{CExpr, Assign, PostfixStep, Prefixed, Call as CallOf}
use Rattle.std.proofs.Common.{inl, inr}
use Rattle.floyd_elab_effects.specs.Effects.{effect}
use Rattle.floyd_elab_effects.proofs.OtherLemmas.{name_does, literal_does, parenthesised_does, size_does, index_does, member_does, binary_does, conditional_does}
use Rattle.floyd_elab_effects.proofs.effects.effect.Goals as goal

pub returns-in-Assign : goal.returns-in-Assign
returns-in-Assign c =
    let s = c.args.names.now in
    let p = c.args.progress.now in
    record {
      exact = subst (λ (x : CExpr). Gives (λ (u : Unit {0}). (c.assign.new.out, c.assign.new.progress)) c.assign.result (put_behind c.args.out.now (effect s x p)))
          (sym (c.in-Assign.is ∙ ap (λ (x : CExpr). Assign x c.in-Assign.op c.in-Assign.place c.in-Assign.value) (sym c.get.ensures) ∙ ap (λ (x : CExpr). Assign c.get.result.now c.in-Assign.op c.in-Assign.place x) (sym c.get-in-Assign.ensures)))
          c.assign.ensures.exact;
    }

pub returns-in-PostfixStep : goal.returns-in-PostfixStep
returns-in-PostfixStep c =
    let s = c.args.names.now in
    let p = c.args.progress.now in
    record {
      exact = subst (λ (x : CExpr). Gives (λ (u : Unit {0}). (c.postfix_effect.new.out, c.postfix_effect.new.progress)) c.postfix_effect.result (put_behind c.args.out.now (effect s x p)))
          (sym (c.in-PostfixStep.is ∙ ap (λ (x : CExpr). PostfixStep x c.in-PostfixStep.op c.in-PostfixStep.place) (sym c.get-in-PostfixStep.ensures)))
          c.postfix_effect.ensures.exact;
    }

pub returns-in-Prefixed : goal.returns-in-Prefixed
returns-in-Prefixed c =
    let s = c.args.names.now in
    let p = c.args.progress.now in
    record {
      exact = subst (λ (x : CExpr). Gives (λ (u : Unit {0}). (c.prefix_effect.new.out, c.prefix_effect.new.progress)) c.prefix_effect.result (put_behind c.args.out.now (effect s x p)))
          (sym (c.in-Prefixed.is ∙ ap (λ (x : CExpr). Prefixed c.in-Prefixed.prefixes x) (sym c.get-in-Prefixed.ensures) ∙ ap (λ (l : List Prefix). Prefixed l c.get-in-Prefixed.result.now) (sym c.as_slice.ensures)))
          c.prefix_effect.ensures.exact;
    }

pub returns-in-Call : goal.returns-in-Call
returns-in-Call c =
    let s = c.args.names.now in
    let p = c.args.progress.now in
    record {
      exact = subst (λ (x : CExpr). Gives (λ (u : Unit {0}). (c.lone_call.new.out, c.lone_call.new.progress)) c.lone_call.result (put_behind c.args.out.now (effect s x p)))
          (sym (c.in-Call.is ∙ ap (λ (x : CExpr). CallOf x c.in-Call.place c.in-Call.arguments) (sym c.get-in-Call.ensures) ∙ ap (λ (l : List CExpr). CallOf c.get-in-Call.result.now c.in-Call.place l) (sym c.as_slice-in-Call.ensures)))
          c.lone_call.ensures.exact;
    }

pub returns-in-Name : goal.returns-in-Name
returns-in-Name c =
    let s = c.args.names.now in
    let there = c.args.out.now in
    let p = c.args.progress.now in
    record {
      exact = elim c.in-Name.is [
        | inl h ↦ ap (λ (x : CExpr). put_behind there (effect s x p)) h.1 ∙ name_does s h.0 there p
        | inr h ↦ elim h [
          | inl h ↦ ap (λ (x : CExpr). put_behind there (effect s x p)) h.1 ∙ literal_does s h.0 there p
          | inr h ↦ elim h [
            | inl h ↦ ap (λ (x : CExpr). put_behind there (effect s x p)) h.1 ∙ parenthesised_does s h.0 there p
            | inr h ↦ elim h [
              | inl h ↦ ap (λ (x : CExpr). put_behind there (effect s x p)) h.2 ∙ size_does s h.0 h.1 there p
              | inr h ↦ elim h [
                | inl h ↦ ap (λ (x : CExpr). put_behind there (effect s x p)) h.3 ∙ index_does s h.0 h.1 h.2 there p
                | inr h ↦ elim h [
                  | inl h ↦ ap (λ (x : CExpr). put_behind there (effect s x p)) h.4 ∙ member_does s h.0 h.1 h.2 h.3 there p
                  | inr h ↦ elim h [
                    | inl h ↦ ap (λ (x : CExpr). put_behind there (effect s x p)) h.4 ∙ binary_does s h.0 h.1 h.2 h.3 there p
                    | inr h ↦ ap (λ (x : CExpr). put_behind there (effect s x p)) h.4 ∙ conditional_does s h.0 h.1 h.2 h.3 there p
                  ]
                ]
              ]
            ]
          ]
        ]
      ];
    }
