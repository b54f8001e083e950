use Rattle.std.proofs.Common.{◌≡◌, drop}
use Rattle.floyd_clight.specs.Words.{first_of}
use Rattle.floyd_clight.proofs.word.+first.Given as goal

abbrev pub invariant-first_of-statements : goal.invariant-first_of-statements
invariant-first_of-statements l = first_of (drop l.s-index l.statements) ≡ first_of l.statements
