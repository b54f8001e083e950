use Rattle.std.proofs.Common.{sym, ◌∙◌, bytes_eq}
use Rattle.indexmap.specs.IndexMap.{get}
use Rattle.floyd_ctypes.proofs.Places.{noted_before, noted_now}
use Rattle.floyd_ctypes.proofs.fields.note.Goals as goal

pub returns-in_ok-insert : goal.returns-in_ok-insert
returns-in_ok-insert c =
    noted_now (get bytes_eq c.args.places.now) c.args.name.now c.args.place (get bytes_eq c.insert.new.self) c.in_ok-share.field-0 c.in_ok-share.ensures c.in_ok-insert.ensures.updates.0
    (sym c.if-not-contains_key.true ∙ c.contains_key.ensures)

pub returns-else-not-contains_key : goal.returns-else-not-contains_key
returns-else-not-contains_key c =
    noted_before (get bytes_eq c.args.places.now) c.args.name.now c.args.place (sym c.if-not-contains_key.false ∙ c.contains_key.ensures)
