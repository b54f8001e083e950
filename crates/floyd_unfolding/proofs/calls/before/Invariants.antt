use Rattle.std.proofs.Common.{◌≡◌, ◌++◌, take}
use Rattle.floyd_unfolding.proofs.calls.before.Given as goal

abbrev pub invariant-arguments : goal.invariant-arguments
invariant-arguments l = l.all.items ≡ l.fn.own.items ++ take l.argument-index l.arguments
