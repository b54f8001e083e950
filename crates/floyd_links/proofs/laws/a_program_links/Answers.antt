use Rattle.floyd_links.proofs.Examples.{a_program_links}
use Rattle.floyd_links.proofs.laws.a_program_links.Goals as goal

pub returns : goal.returns
returns c = a_program_links
