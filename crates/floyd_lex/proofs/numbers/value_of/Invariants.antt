use Rattle.std.proofs.Common.{◌≡◌, ◌^◌, min, take}
use Rattle.floyd_lex.specs.Numbers.{number_in, radix}
use Rattle.floyd_lex.proofs.numbers.value_of.Given as goal

abbrev pub invariant-each : goal.invariant-each
invariant-each l = l.value ≡ min (number_in (radix l.base) (take l.d-index l.digits)) (2 ^ 126)
