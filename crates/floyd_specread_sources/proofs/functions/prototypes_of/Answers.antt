use Rattle.std.proofs.Common.{List, ap, sym, ◌∙◌}
use Rattle.floyd_clight.specs.declared.unit.Declared.{Declared}
use Rattle.floyd_specread_sources.specs.Sources.{with_prototypes}
use Rattle.floyd_specread_sources.proofs.functions.prototypes_of.Goals as goal

pub functions-preserved : goal.functions-preserved
functions-preserved c =
    ap (with_prototypes c.in-Some.more.now) c.in_ok-put_prototype.ensures
    ∙ sym (ap (λ (ds : List Declared). with_prototypes ds c.functions.table) c.in-Some.ensures.cases.0)
    ∙ c.functions.invariant
