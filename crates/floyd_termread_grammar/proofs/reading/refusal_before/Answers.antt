use Rattle.std.proofs.Common.{sym}
use Rattle.floyd_termread_grammar.proofs.ReadingLemmas.{refusal_here}
use Rattle.floyd_termread_grammar.proofs.reading.refusal_before.Goals as goal

pub returns : goal.returns
returns c =
    rw (c.at-2.ensures, c.code_of.ensures)
    (sym (refusal_here c.args.bytes.now c.args.tokens.now c.args.tokens.now.file c.args.end c.args.cause c.place.result c.place.ensures))
