use Rattle.std.proofs.Common.{sym, ◌∙◌, ap}
use Rattle.floyd_cparse_expressions.specs.Expressions.{assign_all}
use Rattle.floyd_cparse_expressions.proofs.BuildLemmas.{last_target}
use Rattle.floyd_cparse_expressions.proofs.build_expressions.assign_all.Goals as goal

pub each-preserved : goal.each-preserved
each-preserved c =
    rw c.in_ok-value.ensures
    (sym (last_target c.pop.new.self c.in-Some.target c.each.value) ∙ ap (λ z. assign_all z c.each.value) (sym c.in-Some.ensures) ∙ c.each.invariant)
