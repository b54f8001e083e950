use Rattle.floyd_script_tokens.proofs.SightLemmas.{takes_in}
use Rattle.floyd_script_tokens.proofs.reader.Reader.take.Goals as goal

pub returns : goal.returns
returns g c = rw (← c.self.view_is) (takes_in c.self.inside.count c.args.found c.take.result c.self.inside.tokens c.take.new.self c.take.ensures)
