use Rattle.std.proofs.Common.{◌≡◌, length}
use Rattle.floyd_cparse_expressions.specs.Expressions.{assign_all}
use Rattle.floyd_cparse_expressions.proofs.build_expressions.assign_all.Given as goal

abbrev pub invariant-each : goal.invariant-each
invariant-each l = assign_all l.targets l.value ≡ assign_all l.fn.targets l.fn.value

abbrev pub decreases-each : goal.decreases-each
decreases-each l = length l.targets
