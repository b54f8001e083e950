use Rattle.std.proofs.Common.{◌≡◌, take}
use Rattle.floyd_stub_soundness.proofs.program.shared_statements.Given as goal

abbrev pub invariant-statements : goal.invariant-statements
invariant-statements l = l.all ≡ take l.statement-index l.statements
