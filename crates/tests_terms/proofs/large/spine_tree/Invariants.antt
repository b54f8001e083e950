use Rattle.std.proofs.Common.{◌≡◌}
use Rattle.tests_terms.specs.Full.{full, spine}
use Rattle.tests_terms.proofs.large.spine_tree.Given as goal

abbrev pub invariant-levels : goal.invariant-levels
invariant-levels g l = (l.term ≡ spine l._level l.first l.leaf) × (l.rest ≡ full l._level l.leaf)
