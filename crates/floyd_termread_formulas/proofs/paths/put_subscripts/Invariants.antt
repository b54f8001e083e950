use Rattle.std.proofs.Common.{◌≡◌, ◌++◌, drop}
use Rattle.floyd_termread_forms.specs.Making.{subscripts_in}
use Rattle.floyd_termread_formulas.proofs.paths.put_subscripts.Given as goal

abbrev pub invariant-steps : goal.invariant-steps
invariant-steps l = l.all ++ subscripts_in (drop l.place l.path) ≡ l.initial.all ++ subscripts_in l.path
