use Rattle.std.proofs.Common.{sym, ap, ◌∙◌, length, subst, bytes_eq}
use Rattle.std.specs.List.{IsDistinct}
use Rattle.floyd_ctypes.specs.Structs.{Structs, tags}
use Rattle.floyd_ctypes.proofs.Seen.{tags-seen, length-seen}
use Rattle.floyd_ctypes.proofs.table.StructTable.len.Goals as goal

pub returns-clause-value : goal.returns-clause-value
returns-clause-value c = c.len.ensures.len ∙ sym (length-seen c.self.inside.structs.entries) ∙ ap (λ (structs : Structs). length structs) c.self.view_is

pub returns-clause-unique : goal.returns-clause-unique
returns-clause-unique c =
    subst (λ (structs : Structs). IsDistinct bytes_eq (tags structs)) c.self.view_is
    (subst (IsDistinct bytes_eq) (sym (tags-seen c.self.inside.structs.entries)) c.len.ensures.unique)
