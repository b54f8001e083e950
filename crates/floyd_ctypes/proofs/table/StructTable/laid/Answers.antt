use Rattle.std.proofs.Common.{◌≡◌, None, IfNone, subst}
use Rattle.floyd_ctypes.specs.Structs.{Structs, fields_of}
use Rattle.floyd_ctypes.proofs.Seen.{not_found, not_kept}
use Rattle.floyd_ctypes.proofs.table.StructTable.laid.Goals as goal

pub returns-in_err-kept-clause-none : goal.returns-in_err-kept-clause-none
returns-in_err-kept-clause-none c =
    subst (λ (structs : Structs). IfNone c.from_residual.result (fields_of structs c.args.tag.now ≡ None)) c.self.view_is
    (not_found c.self.inside.structs.entries c.args.tag.now c.from_residual.result c.in_err-kept.ensures.value)

pub returns-clause-none : goal.returns-clause-none
returns-clause-none c =
    subst (λ (structs : Structs). IfNone c.lent.result (fields_of structs c.args.tag.now ≡ None)) c.self.view_is
    (not_kept c.self.inside.structs.entries c.args.tag.now c.lent.result c.in_ok-kept.kept.now c.lent.ensures c.in_ok-kept.ensures.value)
