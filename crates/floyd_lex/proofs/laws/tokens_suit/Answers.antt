use Rattle.floyd_lex.proofs.OrderLemmas.{tokens_all_suit}
use Rattle.floyd_lex.proofs.laws.tokens_suit.Goals as goal

pub returns : goal.returns
returns c = tokens_all_suit
