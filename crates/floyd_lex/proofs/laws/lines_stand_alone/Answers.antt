use Rattle.floyd_lex.proofs.LinesLemmas.{stand_alone}
use Rattle.floyd_lex.proofs.laws.lines_stand_alone.Goals as goal

pub returns : goal.returns
returns c = stand_alone
