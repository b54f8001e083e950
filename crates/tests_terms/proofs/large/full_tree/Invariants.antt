use Rattle.std.proofs.Common.{◌≡◌}
use Rattle.tests_terms.specs.Full.{full}
use Rattle.tests_terms.proofs.large.full_tree.Given as goal

abbrev pub invariant-levels : goal.invariant-levels
invariant-levels g l = l.term ≡ full l._level l.leaf
