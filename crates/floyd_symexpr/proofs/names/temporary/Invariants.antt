use Rattle.std.proofs.Common.{◌≡◌, drop}
use Rattle.floyd_symexpr.specs.Expressions.{temporary}
use Rattle.floyd_symexpr.proofs.names.temporary.Given as goal

abbrev pub invariant-locals : goal.invariant-locals
invariant-locals l = temporary (drop l.local-index l.locals) l.name ≡ temporary l.locals l.name
