use Rattle.floyd_assert_meaning.specs.Parts.{anything, predicate}
use Rattle.floyd_assert_meaning.proofs.Inversions.{predicate_of}
use Rattle.floyd_assert_meaning.proofs.laws.parts_of_assertions.Goals as goal

pub returns-clause-anything : goal.returns-clause-anything
returns-clause-anything c = λ S env h. anything

pub returns-clause-opened : goal.returns-clause-opened
returns-clause-opened c = λ S env name terms h. (λ m. predicate_of m, λ p. predicate {ds = p.arguments} {o = p.opened} p.mean p.is p.holds)
