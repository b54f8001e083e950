use Rattle.std.proofs.Common.{◌≡◌, take, drop, map}
use Rattle.floyd_assert_changes.specs.Changed.{local_after, local_terms}
use Rattle.floyd_assert_changes.specs.ChangesClauses.{changes}
use Rattle.floyd_assert_changes.specs.FittingClauses.{fit_after}
use Rattle.floyd_assert_changes.proofs.assertions.locals_after.Given as goal

abbrev pub invariant-locals : goal.invariant-locals
invariant-locals g l = record {
  items : l.all.items ≡ map (local_after (changes l.changing)) (take l.local-index l.locals);
  fits : fit_after (changes l.changing) (local_terms (drop l.local-index l.locals)) ≡ fit_after (changes l.changing) (local_terms l.locals);
}
