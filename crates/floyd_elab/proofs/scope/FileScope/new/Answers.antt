use Rattle.std.proofs.Common.{ap, ◌∙◌}
use Rattle.floyd_elab_names.specs.Scopes.{Scopes, enter}
use Rattle.floyd_elab.proofs.ScopeLemmas.{one_entered}
use Rattle.floyd_elab.proofs.scope.FileScope.new.Goals as goal

pub invariant_of-result : goal.invariant_of-result
invariant_of-result c = one_entered c.enter.new.self (c.in_ok-enter.ensures.ok ∙ ap (λ (s : Scopes). enter s) c.new-names.ensures)
