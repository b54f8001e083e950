use Rattle.std.proofs.Common.{◌≡◌, List, subst, ap, sym, ◌∙◌}
use Rattle.std.specs.Prelude.{Result}
use Rattle.floyd_text.specs.Gives.{Gives}
use Rattle.floyd_text.specs.declared.refusal.Refusal.{Refusal}
use Rattle.floyd_elab_expressions.specs.declared.progress.Progress.{Progress}
use Rattle.floyd_elab_expressions.specs.Behind.{behind, onto}
use Rattle.floyd_elab_expressions.specs.Expressions.{rvalue}
use Rattle.floyd_elab_expressions.specs.Clight.{Translated}
use Rattle.floyd_cparse_trees.specs.declared.expressions.CExpr.{CExpr, Call as CallOf}
use Rattle.std.proofs.Common.{inl, inr}
use Rattle.floyd_elab_effects.specs.Effects.{right_side}
use Rattle.floyd_elab_expressions.specs.declared.translation.Translation.{Translation}
use Rattle.floyd_elab_effects.proofs.OtherLemmas.{name_valued, literal_valued, parenthesised_valued, prefixed_valued, size_valued, step_valued, index_valued, member_valued, binary_valued, conditional_valued, assign_valued}
use Rattle.floyd_elab_effects.proofs.effects.right_side.Goals as goal

pub returns-in-Call : goal.returns-in-Call
returns-in-Call c =
    let s = c.args.names.now in
    let p = c.args.progress.now in
    record {
      exact = subst (λ (x : CExpr). Gives (λ (a : Translation). (behind c.used_call.new.out a, c.used_call.new.progress)) c.used_call.result (onto c.args.out.now (right_side s x p)))
          (sym (c.in-Call.is ∙ ap (λ (x : CExpr). CallOf x c.in-Call.place c.in-Call.arguments) (sym c.get.ensures) ∙ ap (λ (l : List CExpr). CallOf c.get.result.now c.in-Call.place l) (sym c.as_slice.ensures)))
          c.used_call.ensures.exact;
    }

pub returns-in-Name : goal.returns-in-Name
returns-in-Name c =
    let s = c.args.names.now in
    let p = c.args.progress.now in
    let same : right_side s c.args.e.now p ≡ rvalue s c.args.e.now p = elim c.in-Name.is [
      | inl h ↦ ap (λ (x : CExpr). right_side s x p) h.1 ∙ name_valued s h.0 p ∙ ap (λ (x : CExpr). rvalue s x p) (sym h.1)
      | inr h ↦ elim h [
        | inl h ↦ ap (λ (x : CExpr). right_side s x p) h.1 ∙ literal_valued s h.0 p ∙ ap (λ (x : CExpr). rvalue s x p) (sym h.1)
        | inr h ↦ elim h [
          | inl h ↦ ap (λ (x : CExpr). right_side s x p) h.1 ∙ parenthesised_valued s h.0 p ∙ ap (λ (x : CExpr). rvalue s x p) (sym h.1)
          | inr h ↦ elim h [
            | inl h ↦ ap (λ (x : CExpr). right_side s x p) h.2 ∙ prefixed_valued s h.0 h.1 p ∙ ap (λ (x : CExpr). rvalue s x p) (sym h.2)
            | inr h ↦ elim h [
              | inl h ↦ ap (λ (x : CExpr). right_side s x p) h.2 ∙ size_valued s h.0 h.1 p ∙ ap (λ (x : CExpr). rvalue s x p) (sym h.2)
              | inr h ↦ elim h [
                | inl h ↦ ap (λ (x : CExpr). right_side s x p) h.3 ∙ step_valued s h.0 h.1 h.2 p ∙ ap (λ (x : CExpr). rvalue s x p) (sym h.3)
                | inr h ↦ elim h [
                  | inl h ↦ ap (λ (x : CExpr). right_side s x p) h.3 ∙ index_valued s h.0 h.1 h.2 p ∙ ap (λ (x : CExpr). rvalue s x p) (sym h.3)
                  | inr h ↦ elim h [
                    | inl h ↦ ap (λ (x : CExpr). right_side s x p) h.4 ∙ member_valued s h.0 h.1 h.2 h.3 p ∙ ap (λ (x : CExpr). rvalue s x p) (sym h.4)
                    | inr h ↦ elim h [
                      | inl h ↦ ap (λ (x : CExpr). right_side s x p) h.4 ∙ binary_valued s h.0 h.1 h.2 h.3 p ∙ ap (λ (x : CExpr). rvalue s x p) (sym h.4)
                      | inr h ↦ elim h [
                        | inl h ↦ ap (λ (x : CExpr). right_side s x p) h.4 ∙ conditional_valued s h.0 h.1 h.2 h.3 p ∙ ap (λ (x : CExpr). rvalue s x p) (sym h.4)
                        | inr h ↦ ap (λ (x : CExpr). right_side s x p) h.4 ∙ assign_valued s h.0 h.1 h.2 h.3 p ∙ ap (λ (x : CExpr). rvalue s x p) (sym h.4)
                      ]
                    ]
                  ]
                ]
              ]
            ]
          ]
        ]
      ]
    ] in
    record { exact = subst (λ (x : Result (Translated × Progress) Refusal). Gives (λ (a : Translation). (behind c.rvalue.new.out a, c.rvalue.new.progress)) c.rvalue.result (onto c.args.out.now x)) (sym same) c.rvalue.ensures.exact }
