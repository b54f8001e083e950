use Rattle.std.proofs.Common.{◌≡◌, IfOk, None, Option, ap, sym, ◌∙◌, subst}
use Rattle.floyd_elab_names.specs.Refusals.{Site}
use Rattle.floyd_elab_data.specs.Constant.{constant_star as constant_star_lem, constant_declarator as constant_declarator_lem}
use Rattle.floyd_elab_data.proofs.DeclaratorLemmas.{const_in_parentheses, const_in_pointer, const_in_array, const_in_function}
use Rattle.floyd_elab_data.proofs.constant.+constant_declarator.Goals as goal

pub returns-in-Parenthesised : goal.returns-in-Parenthesised
returns-in-Parenthesised t c =
    subst (λ (wanted : Option Site). IfOk c.constant_declarator.result (λ s. s ≡ wanted))
    (ap (constant_declarator_lem c.args.outer) c.get.ensures
    ∙ sym (ap (constant_declarator_lem c.args.outer) c.in-Parenthesised.is ∙ const_in_parentheses c.args.outer c.in-Parenthesised.inner c.in-Parenthesised.place))
    c.constant_declarator.ensures

pub returns-in-Array : goal.returns-in-Array
returns-in-Array t c =
    subst (λ (wanted : Option Site). IfOk c.constant_declarator-in-Array.result (λ s. s ≡ wanted))
    (ap (constant_declarator_lem c.args.outer) c.get-in-Array.ensures
    ∙ sym (ap (constant_declarator_lem c.args.outer) c.in-Array.is ∙ const_in_array c.args.outer c.in-Array.inner c.in-Array.place c.in-Array.size))
    c.constant_declarator-in-Array.ensures

pub returns-in_ok-outer-in-Pointer : goal.returns-in_ok-outer-in-Pointer
returns-in_ok-outer-in-Pointer t c =
    subst (λ (wanted : Option Site). IfOk c.constant_declarator-in-Pointer.result (λ s. s ≡ wanted))
    (ap (λ (o : Option Site). constant_declarator_lem o c.get-in-Pointer.result.now)
    (c.in_ok-outer-in-Pointer.ensures ∙ ap (constant_star_lem c.args.outer) c.as_slice.ensures)
    ∙ ap (constant_declarator_lem (constant_star_lem c.args.outer c.in-Pointer.stars)) c.get-in-Pointer.ensures
    ∙ sym (ap (constant_declarator_lem c.args.outer) c.in-Pointer.is ∙ const_in_pointer c.args.outer c.in-Pointer.inner c.in-Pointer.stars))
    c.constant_declarator-in-Pointer.ensures

pub returns-in-Function : goal.returns-in-Function
returns-in-Function t c =
    subst (λ (wanted : Option Site). IfOk c.constant_declarator-in-Function.result (λ s. s ≡ wanted))
    (ap (constant_declarator_lem None) c.get-in-Function.ensures
    ∙ sym (ap (constant_declarator_lem c.args.outer) c.in-Function.is ∙ const_in_function c.args.outer c.in-Function.inner c.in-Function.place c.in-Function.parameters))
    c.constant_declarator-in-Function.ensures
