use Rattle.std.proofs.Common.{◌≡◌, ◌++◌, drop}
use Rattle.floyd_predicates.specs.Calls.{unhidden}
use Rattle.floyd_predicates.proofs.pred_calls.unhidden.Given as goal

abbrev pub invariant-parts : goal.invariant-parts
invariant-parts l = l.all.items ++ unhidden l.existentials (drop l.name-index l.parts) ≡ unhidden l.existentials l.parts
