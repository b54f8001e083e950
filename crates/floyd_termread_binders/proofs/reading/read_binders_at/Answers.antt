use Rattle.std.proofs.Common.{◌-◌, Ok, Err, refl, sym, ◌∙◌, ap}
use Rattle.floyd_lex.specs.declared.kinds.Punctuator.TheVariants as p
use Rattle.floyd_termread_tokens.specs.Tokens.{is_mark}
use Rattle.floyd_termread_sorts.specs.SortClauses as r
use Rattle.floyd_termread_binders.specs.Binders.{binder_list}
use Rattle.floyd_termread_binders.proofs.ReadingLemmas.{left_small, answer_ok, answer_err, list_parser, list_reader, list_stops, items_read}
use Rattle.floyd_termread_binders.proofs.reading.read_binders_at.Goals as goal

pub overflow_sub-next : goal.overflow_sub-next
overflow_sub-next c =
    rw (c.len.ensures, c.left.ensures)
    (left_small (list_parser c.args.depth) (binder_list c.args.depth) (is_mark p.Comma) (list_reader c.args.depth) (list_stops c.args.depth) c.args.bytes.now c.args.tokens.now c.args.at c.requires.at c.new-reader.result c.new-reader.ensures (c.in-Ok.all).items c.read_binders.new.reader
    (items_read c.args.depth c.new-reader.result (Ok (c.in-Ok.all, c.read_binders.new.reader)) (ap (λ n. r.binders n 0 0 c.new-reader.result) (sym c.saturating_sub.ensures) ∙ c.in-Ok.ensures)))

pub returns-in-Ok : goal.returns-in-Ok
returns-in-Ok c = record {
  exact =
      answer_ok (list_parser c.args.depth) (binder_list c.args.depth) (is_mark p.Comma) (list_reader c.args.depth) (list_stops c.args.depth) c.args.bytes.now c.args.tokens.now c.args.at c.requires.at c.new-reader.result c.new-reader.ensures (c.in-Ok.all).items c.read_binders.new.reader (c.len.result - c.left.result)
      (items_read c.args.depth c.new-reader.result (Ok (c.in-Ok.all, c.read_binders.new.reader)) (ap (λ n. r.binders n 0 0 c.new-reader.result) (sym c.saturating_sub.ensures) ∙ c.in-Ok.ensures))
      (rw (c.len.ensures, c.left.ensures) refl);
}

pub returns-in-Err-Fault : goal.returns-in-Err-Fault
returns-in-Err-Fault c = record {
  exact =
      answer_err (list_parser c.args.depth) (binder_list c.args.depth) (is_mark p.Comma) (list_reader c.args.depth) (list_stops c.args.depth) c.args.bytes.now c.args.tokens.now c.args.at c.requires.at c.new-reader.result c.new-reader.ensures c.in-Err-Fault.fault c.refused.result
      (items_read c.args.depth c.new-reader.result (Err c.in-Err-Fault.fault) (ap (λ n. r.binders n 0 0 c.new-reader.result) (sym c.saturating_sub.ensures) ∙ rw c.in-Err-Fault.field-0-is at c.in-Err-Fault.ensures)) c.refused.ensures;
}
