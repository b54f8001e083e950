use Rattle.floyd_lex.proofs.OneCut.{same_answer}
use Rattle.floyd_lex.proofs.laws.has_one_cut.Goals as goal

pub returns : goal.returns
returns c = same_answer
