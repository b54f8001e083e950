use Rattle.floyd_links.specs.Imports.{equations}
use Rattle.floyd_import_starts.proofs.ImportLemmas.{ended}
use Rattle.floyd_import_starts.proofs.instances.equations_of.Goals as goal

pub returns-in_default : goal.returns-in_default
returns-in_default g c = ended c.args.left.now c.args.right.now c.terms.i c.terms.all (equations c.args.left.now c.args.right.now) c.in_default.ensures.lookup.3 c.terms.invariant
