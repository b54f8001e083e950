use Rattle.std.proofs.Common.{◌≡◌, ◌-◌}
use Rattle.floyd_specread_recursion.specs.Structural.{first_wrong}
use Rattle.floyd_specread_recursion.proofs.judging.wrong_from.Given as goal

abbrev pub invariant-tokens : goal.invariant-tokens
invariant-tokens l = first_wrong l.text.bytes.now l.text.tokens.now l.own l.parts l.to (l.to - l.i) l.i ≡ first_wrong l.text.bytes.now l.text.tokens.now l.own l.parts l.to (l.to - l.from) l.from
