use Rattle.std.proofs.Common.{◌≡◌, IfOk, ap, sym, ◌∙◌, subst}
use Rattle.floyd_elab_names.specs.Declarators.{parenthesis as parenthesis_lem, bracket as bracket_lem, first_token as first_token_lem}
use Rattle.floyd_elab_names.proofs.DeclaratorLemmas.{first_in_array, first_in_function}
use Rattle.floyd_elab_names.proofs.declarators.+first_token.Goals as goal
use Rattle.floyd_elab_names.specs.Refusals.{Site}

pub returns-in-Array : goal.returns-in-Array
returns-in-Array t c =
    subst (λ (wanted : Site). IfOk c.first_token.result (λ s. s ≡ wanted))
    (ap (λ (s : Site). first_token_lem s c.get.result.now) c.bracket.ensures
    ∙ ap (first_token_lem (bracket_lem c.in-Array.place)) c.get.ensures
    ∙ sym (ap (first_token_lem c.args.site.now) c.in-Array.is ∙ first_in_array c.in-Array.inner c.args.site.now c.in-Array.place c.in-Array.size))
    c.first_token.ensures

pub returns-in-Function : goal.returns-in-Function
returns-in-Function t c =
    subst (λ (wanted : Site). IfOk c.first_token-in-Function.result (λ s. s ≡ wanted))
    (ap (λ (s : Site). first_token_lem s c.get-in-Function.result.now) c.parenthesis-in-Function.ensures
    ∙ ap (first_token_lem (parenthesis_lem c.in-Function.place)) c.get-in-Function.ensures
    ∙ sym (ap (first_token_lem c.args.site.now) c.in-Function.is ∙ first_in_function c.in-Function.inner c.args.site.now c.in-Function.place c.in-Function.parameters))
    c.first_token-in-Function.ensures
