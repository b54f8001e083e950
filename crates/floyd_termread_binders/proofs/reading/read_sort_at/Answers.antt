use Rattle.std.proofs.Common.{◌-◌, false, refl, sym, ◌∙◌, ap}
use Rattle.floyd_termread_sorts.specs.Sorts as g
use Rattle.floyd_termread_sorts.specs.SortClauses as r
use Rattle.floyd_termread_binders.proofs.ReadingLemmas.{left_small, answer_ok, answer_err, sort_reader, sort_stops}
use Rattle.floyd_termread_binders.proofs.reading.read_sort_at.Goals as goal

pub overflow_sub-next : goal.overflow_sub-next
overflow_sub-next c =
    rw (c.len.ensures, c.left.ensures)
    (left_small (r.sorts (201 - c.args.depth) 0) (g.sorts (201 - c.args.depth) 0) (λ t. false) (sort_reader c.args.depth) (sort_stops c.args.depth) c.args.bytes.now c.args.tokens.now c.args.at c.requires.at c.new-reader.result c.new-reader.ensures c.in-Ok.sort c.read_sort.new.reader
    (ap (λ n. r.sorts n 0 c.new-reader.result) (sym c.saturating_sub.ensures) ∙ c.in-Ok.ensures))

pub returns-in-Ok : goal.returns-in-Ok
returns-in-Ok c = record {
  exact =
      answer_ok (r.sorts (201 - c.args.depth) 0) (g.sorts (201 - c.args.depth) 0) (λ t. false) (sort_reader c.args.depth) (sort_stops c.args.depth) c.args.bytes.now c.args.tokens.now c.args.at c.requires.at c.new-reader.result c.new-reader.ensures c.in-Ok.sort c.read_sort.new.reader (c.len.result - c.left.result)
      (ap (λ n. r.sorts n 0 c.new-reader.result) (sym c.saturating_sub.ensures) ∙ c.in-Ok.ensures)
      (rw (c.len.ensures, c.left.ensures) refl);
}

pub returns-in-Err-Fault : goal.returns-in-Err-Fault
returns-in-Err-Fault c = record {
  exact =
      answer_err (r.sorts (201 - c.args.depth) 0) (g.sorts (201 - c.args.depth) 0) (λ t. false) (sort_reader c.args.depth) (sort_stops c.args.depth) c.args.bytes.now c.args.tokens.now c.args.at c.requires.at c.new-reader.result c.new-reader.ensures c.in-Err-Fault.fault c.refused.result
      (ap (λ n. r.sorts n 0 c.new-reader.result) (sym c.saturating_sub.ensures) ∙ rw c.in-Err-Fault.field-0-is at c.in-Err-Fault.ensures) c.refused.ensures;
}
