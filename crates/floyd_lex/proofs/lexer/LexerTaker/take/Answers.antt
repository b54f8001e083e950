use Rattle.std.proofs.Common.{◌≡◌, ◌+◌, ◌∙◌, ℕ, List, length, ap, sym, arith}
use Rattle.std.proofs.lemmas.List.{length-append}
use Rattle.floyd_lex.specs.Lexing.{whole_lines}
use Rattle.floyd_lex.proofs.LexerLemmas.{cut_whole, lines_before, whole_are_lines}
use Rattle.floyd_lex.proofs.lexer.LexerTaker.take.Goals as goal

pub cut_more-requires-clause-lines : goal.cut_more-requires-clause-lines
cut_more-requires-clause-lines c = rw (lines_before c.self.inside.bytes.items c.args.piece.now c.as_slice-2.result.now c.len-len.result c.self.inside.lines c.end_of_lines-lines.result (c.as_slice-2.ensures.value ∙ c.in_ok-extend_from_slice.ensures.items) (omega (arith, c.len-len.ensures, c.self.inside.bytes.ok)) c.self.invariant.lines c.end_of_lines-lines.ensures.after) (whole_are_lines c.self.inside.bytes.items)

pub cut_more-requires-clause-cut : goal.cut_more-requires-clause-cut
cut_more-requires-clause-cut c = rw (lines_before c.self.inside.bytes.items c.args.piece.now c.as_slice-2.result.now c.len-len.result c.self.inside.lines c.end_of_lines-lines.result (c.as_slice-2.ensures.value ∙ c.in_ok-extend_from_slice.ensures.items) (omega (arith, c.len-len.ensures, c.self.inside.bytes.ok)) c.self.invariant.lines c.end_of_lines-lines.ensures.after) c.self.invariant.cut

pub invariant_of-self-in-Ok : goal.invariant_of-self-in-Ok
invariant_of-self-in-Ok c =
    let len : length c.extend_from_slice.new.self.items ≡ length c.self.inside.bytes.items + length c.args.piece.now = ap length c.in_ok-extend_from_slice.ensures.items ∙ length-append c.self.inside.bytes.items c.args.piece.now in
    record {
      small = omega (arith, len, c.if-piece-len.false, c.len-len.ensures, c.self.inside.bytes.ok);
      lines = c.end_of_lines-lines.ensures.value ∙ ap (λ (xs : List ℕ). length (whole_lines xs)) c.as_slice.ensures.value;
      cut = cut_whole c.self.inside.kind c.self.inside.tokens.file c.as_slice-2.result.now c.extend_from_slice.new.self.items c.end_of_lines-lines.result c.cut_more.new.tokens c.in-Ok.stand c.as_slice-2.ensures.value (c.end_of_lines-lines.ensures.value ∙ ap (λ (xs : List ℕ). length (whole_lines xs)) (c.as_slice.ensures.value ∙ sym c.as_slice-2.ensures.value)) c.in-Ok.ensures.ok;
    }
