use Rattle.std.proofs.Common.{◌≡◌, List, IfOk, subst}
use Rattle.floyd_clight.specs.declared.unit.StructDef.{StructDef}
use Rattle.floyd_elab.specs.Units.{unit_of as unit_of_lem}
use Rattle.floyd_elab.proofs.units.unit_of.Goals as goal

pub returns : goal.returns
returns c =
    subst (λ (structs : List StructDef). IfOk c.unit_with.result (λ unit. unit ≡ record (unit_of_lem c.args.file) { structs = structs })) c.in_ok-structs.ensures c.unit_with.ensures
