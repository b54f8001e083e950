use Rattle.std.proofs.Common.{sym, ◌∙◌}
use mathlib.Core.Path.{ap₂}
use Rattle.floyd_stub_assert.specs.Terms.{same_term}
use Rattle.floyd_stub_assert.proofs.TermLaws.{same_vint, same_vint_number}
use Rattle.floyd_stub_assert.proofs.term.Term.+same.Goals as goal

pub returns-in-Vint-Vint : goal.returns-in-Vint-Vint
returns-in-Vint-Vint t c =
    c.same.ensures ∙ ap₂ same_term c.get.ensures c.get-in-Vint-Vint.ensures ∙ sym (same_vint c.in-Vint-Vint.a c.in-Vint-Vint.b)
    ∙ sym (ap₂ same_term c.in-Vint-Vint.is-0 c.in-Vint-Vint.is-1)

pub returns-in_default-2 : goal.returns-in_default-2
returns-in_default-2 t c =
    sym (same_vint_number c.in_default.field-0-0 c.in_default.field-0-1) ∙ sym (ap₂ same_term c.in_default.is-0 c.in_default.is-1)
