use Rattle.floyd_elab.proofs.ScopeLemmas.{scopes_are}
use Rattle.floyd_elab.proofs.scope.FileScope.names.Goals as goal

pub returns : goal.returns
returns c = scopes_are c.self.inside.names c.args.self.now c.self.invariant c.self.view_is
