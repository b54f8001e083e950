use Rattle.std.proofs.Common.{sym, ap, ◌∙◌}
use Rattle.floyd_ctypes.specs.Structs.{Structs, has_tag}
use Rattle.floyd_ctypes.proofs.Seen.{has_tag-seen}
use Rattle.floyd_ctypes.proofs.table.StructTable.contains.Goals as goal

pub returns : goal.returns
returns c =
    c.contains_key.ensures
    ∙ sym (has_tag-seen c.self.inside.structs.entries c.args.tag.now)
    ∙ ap (λ (structs : Structs). has_tag structs c.args.tag.now) c.self.view_is
