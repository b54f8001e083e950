use Rattle.std.proofs.Common.{◌≡◌, ◌++◌, drop}
use Rattle.floyd_termread_brackets.specs.Brackets.{types_in}
use Rattle.floyd_termread_brackets.proofs.types.types_in.Given as goal

abbrev pub invariant-parts : goal.invariant-parts
invariant-parts l = l.all ++ types_in (drop l.part-index l.parts) ≡ types_in l.parts
