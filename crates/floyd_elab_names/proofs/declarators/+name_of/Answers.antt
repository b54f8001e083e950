use Rattle.std.proofs.Common.{ap, sym, ◌∙◌}
use Rattle.floyd_elab_names.specs.Declarators.{name_of as name_of_lem}
use Rattle.floyd_elab_names.proofs.DeclaratorLemmas.{name_in_parentheses, name_in_pointer, name_in_array, name_in_function}
use Rattle.floyd_elab_names.proofs.declarators.+name_of.Goals as goal

pub returns-in-Parenthesised : goal.returns-in-Parenthesised
returns-in-Parenthesised t c = c.name_of.ensures ∙ ap name_of_lem c.get.ensures ∙ sym (ap name_of_lem c.in-Parenthesised.is ∙ name_in_parentheses c.in-Parenthesised.inner c.in-Parenthesised.place)

pub returns-in-Pointer : goal.returns-in-Pointer
returns-in-Pointer t c = c.name_of-in-Pointer.ensures ∙ ap name_of_lem c.get-in-Pointer.ensures ∙ sym (ap name_of_lem c.in-Pointer.is ∙ name_in_pointer c.in-Pointer.inner c.in-Pointer.stars)

pub returns-in-Array : goal.returns-in-Array
returns-in-Array t c =
    c.name_of-in-Array.ensures ∙ ap name_of_lem c.get-in-Array.ensures ∙ sym (ap name_of_lem c.in-Array.is ∙ name_in_array c.in-Array.inner c.in-Array.place c.in-Array.size)

pub returns-in-Function : goal.returns-in-Function
returns-in-Function t c =
    c.name_of-in-Function.ensures ∙ ap name_of_lem c.get-in-Function.ensures ∙ sym (ap name_of_lem c.in-Function.is ∙ name_in_function c.in-Function.inner c.in-Function.place c.in-Function.parameters)
