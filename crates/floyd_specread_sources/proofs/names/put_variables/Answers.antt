use Rattle.std.proofs.Common.{◌≡◌, ℕ, List, ap, sym, ◌∙◌}
use Rattle.floyd_clight.specs.declared.unit.Variable.{Variable}
use Rattle.floyd_specread_sources.specs.Sources.{Names, with_variables}
use Rattle.floyd_specread_sources.specs.Tables.{put_new}
use Rattle.floyd_specread_sources.proofs.names.put_variables.Goals as goal

pub variables-preserved : goal.variables-preserved
variables-preserved c =
    ap (with_variables c.in-Some.more.now) (c.in_ok-put_new.ensures ∙ ap (λ (x : List ℕ). put_new x tt c.variables.names) c.in_ok-name.ensures)
    ∙ sym (ap (λ (xs : List Variable). with_variables xs c.variables.names) c.in-Some.ensures.cases.0)
    ∙ c.variables.invariant
