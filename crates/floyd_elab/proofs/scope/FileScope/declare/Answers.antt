use Rattle.floyd_elab.proofs.ScopeLemmas.{one_declared, scope_declared}
use Rattle.floyd_elab.proofs.scope.FileScope.declare.Goals as goal

pub invariant_of-self-2 : goal.invariant_of-self-2
invariant_of-self-2 c = one_declared c.self.inside.names c.declare.new.self c.args.name.now c.args.meaning c.self.invariant c.in_ok-declare.ensures.ok

pub returns : goal.returns
returns c = scope_declared c.self.inside.names c.declare.new.self c.args.name.now c.args.meaning c.args.self.now c.self.invariant c.self.view_is c.in_ok-declare.ensures.ok
