use Rattle.std.proofs.Common.{List, ◌++◌, ap, ◌∙◌}
use Rattle.floyd_clight.specs.declared.unit.Declared.{Declared}
use Rattle.floyd_elab.specs.UnitClauses.{not_among}
use Rattle.floyd_elab.proofs.UnitLemmas.{the_unit, unit_with_is}
use Rattle.floyd_elab.proofs.units.unit_with.Goals as goal

pub returns : goal.returns
returns c =
    let parts = c.into_parts-defined.ensures in
    ap (λ (functions : List Declared). the_unit c.args.structs c.in_ok-variables.variables functions c.into_items.result) (ap (λ q. q.2) parts)
    ∙ unit_with_is c.args.file c.args.structs c.in_ok-variables.variables c.into_items.result
    (c.in_ok-variables.ensures ∙ ap (λ q. q.0 ++ not_among q.0 q.1) parts)
    (c.into_items.ensures ∙ ap (λ q. q.3) parts)
