use Rattle.floyd_links.proofs.Having.{links_have}
use Rattle.floyd_links.proofs.laws.links_have.Goals as goal

pub returns : goal.returns
returns c = λ L links own. links_have L links own
