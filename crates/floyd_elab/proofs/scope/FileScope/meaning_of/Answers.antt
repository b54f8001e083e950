use Rattle.std.proofs.Common.{◌∙◌}
use Rattle.floyd_elab.proofs.ScopeLemmas.{meaning_in_one}
use Rattle.floyd_elab.proofs.scope.FileScope.meaning_of.Goals as goal

pub returns : goal.returns
returns c = c.meaning_of.ensures ∙ meaning_in_one c.self.inside.names c.args.self.now c.args.name.now c.self.invariant c.self.view_is
