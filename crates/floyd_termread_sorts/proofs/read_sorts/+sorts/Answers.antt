use Rattle.std.proofs.Common.{◌+◌, sym, ◌∙◌}
use Rattle.floyd_cparse_tokens.proofs.ReadLemmas.{gives_next}
use Rattle.floyd_termread_sorts.proofs.SortShrinks.{item_eats}
use Rattle.floyd_termread_sorts.proofs.RoomLemmas.{sorts_none, sorts_some}
use Rattle.floyd_termread_sorts.proofs.read_sorts.+sorts.Goals as goal

pub read_sort-returns-then-room-eq0 : goal.read_sort-returns-then-room-eq0
read_sort-returns-then-room-eq0 t c = rw (sorts_none c.args.room c.args.count c.if-room-eq0.true) c.refuse_without_room.ensures

pub read_sort-returns : goal.read_sort-returns
read_sort-returns t c = rw (sorts_some c.args.room c.args.count c.if-room-eq0.false) c.read_row.ensures

pub read_parts-each-smaller : goal.read_parts-each-smaller
read_parts-each-smaller t c = (item_eats c.args.room c.args.count c.each.parts).law c.each.reader c.in_ok-item.item c.read_item.new.reader c.in_ok-item.ensures.value

pub read_parts-each-preserved : goal.read_parts-each-preserved
read_parts-each-preserved t c = rw c.in_ok-parts.ensures record {
  turning = gives_next c.each.invariant.turning (item_eats c.args.room c.args.count c.each.parts) (sym c.leads_sort.ensures ∙ c.each-test.true) c.in_ok-item.item c.read_item.new.reader c.in_ok-item.ensures.value;
  run = c.in_ok-item.ensures.room;
}
