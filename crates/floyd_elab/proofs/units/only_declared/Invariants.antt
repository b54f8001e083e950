use Rattle.std.proofs.Common.{◌≡◌, ◌++◌, length, reverse}
use Rattle.floyd_elab.specs.UnitClauses.{not_among}
use Rattle.floyd_elab.proofs.units.only_declared.Given as goal

abbrev pub decreases-mentioned : goal.decreases-mentioned
decreases-mentioned l = length l.mentioned

abbrev pub invariant-mentioned : goal.invariant-mentioned
invariant-mentioned l = not_among l.defined l.mentioned ++ reverse l.only ≡ not_among l.defined l.initial.mentioned
