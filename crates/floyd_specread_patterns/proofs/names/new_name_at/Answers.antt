use Rattle.floyd_termread_marks.specs.Marks.{tokens_at}
use Rattle.floyd_specread_patterns.specs.NameClauses.{names_of}
use Rattle.floyd_specread_patterns.proofs.NameLemmas.{found_new}
use Rattle.floyd_specread_patterns.proofs.names.new_name_at.Goals as goal

pub returns-clause-exact : goal.returns-clause-exact
returns-clause-exact c = rw (c.in_ok-name.ensures, c.in_ok-found.ensures, found_new (names_of c.args.others) (tokens_at c.args.text.bytes.now c.args.text.tokens.now c.args.spot.at)) at c.take.ensures.exact
