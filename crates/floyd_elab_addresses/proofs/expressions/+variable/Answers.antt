use Rattle.std.proofs.Common.{ap, sym, ◌∙◌}
use Rattle.floyd_elab_addresses.specs.Addresses.{is_variable}
use Rattle.floyd_elab_addresses.proofs.ExpressionParts.{is_variable-parenthesised}
use Rattle.floyd_elab_addresses.proofs.expressions.+variable.Goals as goal

pub returns-in-Parenthesised : goal.returns-in-Parenthesised
returns-in-Parenthesised t c =
    λ x.
    ap (is_variable x) (c.in-Parenthesised.is)
    ∙ is_variable-parenthesised x c.in-Parenthesised.inner
    ∙ sym (ap (is_variable x) c.get.ensures)
    ∙ c.variable.ensures x
