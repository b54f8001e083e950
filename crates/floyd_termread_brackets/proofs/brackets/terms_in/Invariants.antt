use Rattle.std.proofs.Common.{◌≡◌, ◌++◌, drop}
use Rattle.floyd_termread_brackets.specs.Brackets.{terms_in}
use Rattle.floyd_termread_brackets.proofs.brackets.terms_in.Given as goal

abbrev pub invariant-parts : goal.invariant-parts
invariant-parts l = l.all.items ++ terms_in (drop l.part-index l.parts) ≡ terms_in l.parts
