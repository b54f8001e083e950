use Rattle.floyd_ctypes.proofs.Copies.{copied_next}
use Rattle.floyd_ctypes.proofs.table.copied.Goals as goal

pub structs-preserved : goal.structs-preserved
structs-preserved c =
    copied_next c.structs.copy.entries c.structs.tag-iterator c.put_shared.new.structs.entries c.next.new.self c.args.structs.now.entries
    c.in-Some.tag.now c.in-Some.kept.now c.in_ok-shared.field-0 c.structs.invariant c.in-Some.ensures.steps c.iter-tag-items.ensures.unique
    c.in_ok-shared.ensures c.in_ok-put_shared.ensures.ok
