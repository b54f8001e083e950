use Rattle.std.proofs.Common.{◌∙◌, ap, sym, length, take, drop, ◌-◌, ◌+◌, ℕ}
use Rattle.std.proofs.lemmas.List.Sums.{suffix_len-le-length}
use Rattle.floyd_text.specs.Place.{is_other}
use Rattle.floyd_lex.proofs.LexerLemmas.{end_kept, end_moved}
use Rattle.floyd_lex.proofs.lexer.end_of_lines.Goals as goal

pub overflow_sub-result : goal.overflow_sub-result
overflow_sub-result c = rw c.bytes_on_last_line-tail.ensures (suffix_len-le-length is_other _)

pub returns-then-tail-piece-clause-value : goal.returns-then-tail-piece-clause-value
returns-then-tail-piece-clause-value c = end_kept c.args.bytes.now c.args.len c.args.lines c.requires.within c.requires.lines (sym c.bytes_on_last_line-tail.ensures ∙ c.if-tail-piece.true)

pub returns-else-tail-piece-clause-value : goal.returns-else-tail-piece-clause-value
returns-else-tail-piece-clause-value c =
    ap (λ (n : ℕ). c.args.len + (length (take (length c.args.bytes.now - c.args.len) (drop c.args.len c.args.bytes.now)) - n)) c.bytes_on_last_line-tail.ensures
    ∙ end_moved c.args.bytes.now c.args.len c.args.lines c.requires.within c.requires.lines (λ e. c.if-tail-piece.false (c.bytes_on_last_line-tail.ensures ∙ e))
