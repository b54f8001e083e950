use Rattle.floyd_lex.proofs.LexerLemmas.{whole_are_lines, whole_taken}
use Rattle.floyd_lex.proofs.lexer.Lexer.finish.Goals as goal

pub cut_more-requires-clause-lines : goal.cut_more-requires-clause-lines
cut_more-requires-clause-lines c = rw (c.as_slice.ensures.value, whole_taken c.self.inside.bytes.items c.self.inside.lines c.self.invariant.lines) (whole_are_lines c.self.inside.bytes.items)
