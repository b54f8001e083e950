use Rattle.std.proofs.Common.{◌-◌, refl, sym, ◌∙◌, ap}
use Rattle.floyd_termread_grammar.specs.TermClauses as r
use Rattle.floyd_termread_grammar.proofs.ReadingLemmas.{left_small, answer_ok, answer_err}
use Rattle.floyd_termread_grammar.proofs.reading.read_written.Goals as goal

pub overflow_sub-next : goal.overflow_sub-next
overflow_sub-next c =
    rw (c.len.ensures, c.left.ensures)
    (left_small c.args.depth c.args.bytes.now c.args.tokens.now c.args.at c.args.want c.requires.at c.new-reader.result c.new-reader.ensures c.in-Ok.read c.read_nested.new.reader
    (ap (λ n. r.nested n c.args.want 0 c.new-reader.result) (sym c.room_at.ensures) ∙ c.in-Ok.ensures))

pub returns-in-Ok : goal.returns-in-Ok
returns-in-Ok c = record {
  exact =
      answer_ok c.args.depth c.args.bytes.now c.args.tokens.now c.args.at c.args.want c.requires.at c.new-reader.result c.new-reader.ensures c.in-Ok.read c.read_nested.new.reader (c.len.result - c.left.result)
      (ap (λ n. r.nested n c.args.want 0 c.new-reader.result) (sym c.room_at.ensures) ∙ c.in-Ok.ensures)
      (rw (c.len.ensures, c.left.ensures) refl);
}

pub returns-in-Err-Fault : goal.returns-in-Err-Fault
returns-in-Err-Fault c = record {
  exact =
      answer_err c.args.depth c.args.bytes.now c.args.tokens.now c.args.at c.args.want c.requires.at c.new-reader.result c.new-reader.ensures c.in-Err-Fault.fault c.in_ok-tree-in-Err-Fault.tree c.refusal_before.result c.refused_number-end.result c.cut_off-front.result
      (ap (λ n. r.nested n c.args.want 0 c.new-reader.result) (sym c.room_at.ensures) ∙ rw c.in-Err-Fault.field-0-is at c.in-Err-Fault.ensures) c.refused_number-end.ensures.exact c.refusal_before.ensures c.cut_off-front.ensures c.in_ok-tree-in-Err-Fault.ensures.exact;
}
