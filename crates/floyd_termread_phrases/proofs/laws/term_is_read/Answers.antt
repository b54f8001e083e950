use Rattle.floyd_termread_phrases.proofs.PhraseLemmas.{term_is_read}
use Rattle.floyd_termread_phrases.proofs.laws.term_is_read.Goals as goal

pub returns : goal.returns
returns c = term_is_read
