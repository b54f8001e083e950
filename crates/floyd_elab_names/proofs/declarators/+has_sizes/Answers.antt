use Rattle.std.proofs.Common.{◌&&◌, ◌||◌, is_some, ap, sym, ◌∙◌}
use Rattle.floyd_cparse_trees.specs.declared.types.Declarator.{Declarator}
use Rattle.floyd_elab_names.specs.Declarators.{is_bare as is_bare_lem, has_sizes as has_sizes_lem}
use Rattle.floyd_elab_names.proofs.DeclaratorLemmas.{sizes_in_parentheses, sizes_in_pointer, sizes_in_array, sizes_in_function}
use Rattle.floyd_elab_names.proofs.declarators.+has_sizes.Goals as goal

pub returns-in-Parenthesised : goal.returns-in-Parenthesised
returns-in-Parenthesised t c = c.has_sizes.ensures ∙ ap has_sizes_lem c.get.ensures ∙ sym (ap has_sizes_lem c.in-Parenthesised.is ∙ sizes_in_parentheses c.in-Parenthesised.inner c.in-Parenthesised.place)

pub returns-in-Pointer : goal.returns-in-Pointer
returns-in-Pointer t c = c.has_sizes-in-Pointer.ensures ∙ ap has_sizes_lem c.get-in-Pointer.ensures ∙ sym (ap has_sizes_lem c.in-Pointer.is ∙ sizes_in_pointer c.in-Pointer.inner c.in-Pointer.stars)

pub returns-in-Function : goal.returns-in-Function
returns-in-Function t c =
    c.has_sizes-in-Function.ensures ∙ ap has_sizes_lem c.get-in-Function.ensures ∙ sym (ap has_sizes_lem c.in-Function.is ∙ sizes_in_function c.in-Function.inner c.in-Function.place c.in-Function.parameters)

pub returns-then-may_lack : goal.returns-then-may_lack
returns-then-may_lack t c =
    let inner = c.in-Array.inner in
    let size = c.in-Array.size in
    c.has_sizes-then-may_lack.ensures
    ∙ ap has_sizes_lem c.get-then-may_lack.ensures
    ∙ ap (λ b. b && has_sizes_lem inner)
    (sym c.if-may_lack.true ∙ c.may_lack.ensures ∙ ap (λ (d : Declarator). is_some size || is_bare_lem d) c.get-in-Array.ensures)
    ∙ sym (ap has_sizes_lem c.in-Array.is ∙ sizes_in_array inner c.in-Array.place size)

pub returns-else-may_lack : goal.returns-else-may_lack
returns-else-may_lack t c =
    let inner = c.in-Array.inner in
    let size = c.in-Array.size in
    c.if-may_lack.false
    ∙ ap (λ b. b && has_sizes_lem inner)
    (sym c.if-may_lack.false ∙ c.may_lack.ensures ∙ ap (λ (d : Declarator). is_some size || is_bare_lem d) c.get-in-Array.ensures)
    ∙ sym (ap has_sizes_lem c.in-Array.is ∙ sizes_in_array inner c.in-Array.place size)
