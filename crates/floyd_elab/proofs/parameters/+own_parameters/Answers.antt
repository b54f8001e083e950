use Rattle.std.proofs.Common.{◌≡◌, true, false, Bool, Some, if◌then◌else◌, ap, sym, ◌∙◌}
use Rattle.floyd_elab_names.specs.Declarators.{is_bare as is_bare_lem}
use Rattle.floyd_elab.specs.Units.{own_parameters as own_parameters_lem}
use Rattle.floyd_elab.specs.UnitClauses.{names_of}
use Rattle.floyd_elab.proofs.ParameterLemmas.{own_in_parentheses, own_in_pointer, own_in_array, own_in_function}
use Rattle.floyd_elab.proofs.parameters.+own_parameters.Goals as goal

pub returns-in-Parenthesised : goal.returns-in-Parenthesised
returns-in-Parenthesised t c =
    c.own_parameters.ensures ∙ ap own_parameters_lem c.get.ensures ∙ sym (ap own_parameters_lem c.in-Parenthesised.is ∙ own_in_parentheses c.in-Parenthesised.inner c.in-Parenthesised.place)

pub returns-in-Pointer : goal.returns-in-Pointer
returns-in-Pointer t c =
    c.own_parameters-in-Pointer.ensures ∙ ap own_parameters_lem c.get-in-Pointer.ensures ∙ sym (ap own_parameters_lem c.in-Pointer.is ∙ own_in_pointer c.in-Pointer.inner c.in-Pointer.stars)

pub returns-in-Array : goal.returns-in-Array
returns-in-Array t c =
    c.own_parameters-in-Array.ensures
    ∙ ap own_parameters_lem c.get-in-Array.ensures
    ∙ sym (ap own_parameters_lem c.in-Array.is ∙ own_in_array c.in-Array.inner c.in-Array.place c.in-Array.size)

pub returns-then-is_bare : goal.returns-then-is_bare
returns-then-is_bare t c =
    let inner = c.in-Function.inner in
    let ps = c.in-Function.parameters in
    let bare : is_bare_lem inner ≡ true = sym (c.is_bare.ensures ∙ ap is_bare_lem c.get-in-Function.ensures) ∙ c.if-is_bare.true in
    sym (ap own_parameters_lem c.in-Function.is
    ∙ own_in_function inner c.in-Function.place ps
    ∙ ap (λ (b : Bool). if b then Some (names_of ps) else own_parameters_lem inner) bare)

pub returns-else-is_bare : goal.returns-else-is_bare
returns-else-is_bare t c =
    let inner = c.in-Function.inner in
    let ps = c.in-Function.parameters in
    let bare : is_bare_lem inner ≡ false = sym (c.is_bare.ensures ∙ ap is_bare_lem c.get-in-Function.ensures) ∙ c.if-is_bare.false in
    c.own_parameters-in-Function.ensures
    ∙ ap own_parameters_lem c.get-in-Function-2.ensures
    ∙ sym (ap own_parameters_lem c.in-Function.is
    ∙ own_in_function inner c.in-Function.place ps
    ∙ ap (λ (b : Bool). if b then Some (names_of ps) else own_parameters_lem inner) bare)
