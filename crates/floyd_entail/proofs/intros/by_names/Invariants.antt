use Rattle.std.proofs.Common.{◌≡◌, ◌++◌, drop}
use Rattle.floyd_entail.specs.Intros.{by_names}
use Rattle.floyd_entail.proofs.intros.by_names.Given as goal

abbrev pub invariant-existentials : goal.invariant-existentials
invariant-existentials g l = l.all.items ++ by_names (drop l.i l.existentials) (drop l.i l.names) ≡ by_names l.existentials l.names
