use Rattle.std.proofs.Common.{Some, slice_get, ap, ◌∙◌}
use Rattle.floyd_ctypes.specs.Structs.{Structs, tags}
use Rattle.floyd_ctypes.proofs.Seen.{tag_read}
use Rattle.floyd_ctypes.proofs.table.StructTable.tag_at.Goals as goal

pub returns : goal.returns
returns c =
    tag_read c.self.inside.structs.entries c.args.index (Some (c.in_ok-tag.tag.now, c.in_ok-tag._kept.now)) c.in_ok-tag.ensures.entry
    ∙ ap (λ (structs : Structs). slice_get (tags structs) c.args.index) c.self.view_is
