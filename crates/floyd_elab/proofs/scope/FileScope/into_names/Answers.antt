use Rattle.floyd_elab.proofs.ScopeLemmas.{scopes_are}
use Rattle.floyd_elab.proofs.scope.FileScope.into_names.Goals as goal

pub returns : goal.returns
returns c = scopes_are c.self.inside.names c.args.self c.self.invariant c.self.view_is
