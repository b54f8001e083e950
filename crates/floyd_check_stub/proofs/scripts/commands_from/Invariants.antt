use Rattle.std.proofs.Common.{◌≡◌, [], length}
use Rattle.floyd_check_stub.specs.LeftClauses.{left}
use Rattle.floyd_check_stub.specs.ReadingClauses.{commands_of}
use Rattle.floyd_check_stub.proofs.scripts.commands_from.Given as goal

abbrev pub invariant-commands : goal.invariant-commands
invariant-commands l = commands_of l.commands (left l.rest) ≡ commands_of [] (left l.tokens)

abbrev pub decreases-commands : goal.decreases-commands
decreases-commands l = length (left l.rest)
