use Rattle.std.proofs.Common.{◌≡◌, ◌++◌, drop}
use Rattle.floyd_entail.specs.Intros.{new_variables}
use Rattle.floyd_entail.proofs.intros.new_variables.Given as goal

abbrev pub invariant-existentials : goal.invariant-existentials
invariant-existentials l = l.all ++ new_variables (drop l.i l.existentials) (drop l.i l.names) ≡ new_variables l.existentials l.names
