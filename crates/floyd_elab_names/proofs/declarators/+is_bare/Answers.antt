use Rattle.std.proofs.Common.{ap, sym, ◌∙◌}
use Rattle.floyd_elab_names.specs.Declarators.{is_bare as is_bare_lem}
use Rattle.floyd_elab_names.proofs.DeclaratorLemmas.{bare_in_parentheses}
use Rattle.floyd_elab_names.proofs.declarators.+is_bare.Goals as goal

pub returns-in-Parenthesised : goal.returns-in-Parenthesised
returns-in-Parenthesised t c = c.is_bare.ensures ∙ ap is_bare_lem c.get.ensures ∙ sym (ap is_bare_lem c.in-Parenthesised.is ∙ bare_in_parentheses c.in-Parenthesised.inner c.in-Parenthesised.place)
