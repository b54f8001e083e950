use Rattle.floyd_lex.proofs.OrderLemmas.{texts_on_lines}
use Rattle.floyd_lex.proofs.laws.texts_stand_on_lines.Goals as goal

pub returns : goal.returns
returns c = texts_on_lines
