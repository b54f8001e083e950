use Rattle.std.proofs.Common.{◌≡◌, ℕ, List, ap, sym, ◌∙◌}
use Rattle.floyd_clight.specs.declared.unit.Defined.{Defined}
use Rattle.floyd_specread_sources.specs.Sources.{Names, with_bodies}
use Rattle.floyd_specread_sources.specs.Tables.{put_new}
use Rattle.floyd_specread_sources.proofs.names.bodies_of.Goals as goal

pub functions-preserved : goal.functions-preserved
functions-preserved c =
    ap (with_bodies c.in-Some.more.now) (c.in_ok-put_new.ensures ∙ ap (λ (x : List ℕ). put_new x tt c.functions.names) c.in_ok-name.ensures)
    ∙ sym (ap (λ (xs : List Defined). with_bodies xs c.functions.names) c.in-Some.ensures.cases.0)
    ∙ c.functions.invariant
