use Rattle.floyd_assert_meaning.specs.Parts.{more}
use Rattle.floyd_assert_meaning.proofs.Inversions.{more_of}
use Rattle.floyd_assert_meaning.proofs.Orders.{apart, together, taken_out, put_back, any_order}
use Rattle.floyd_assert_meaning.proofs.laws.sums_of_parts.Goals as goal

pub returns-clause-sums : goal.returns-clause-sums
returns-clause-sums c = λ S env ps qs h. (λ m. apart S env ps qs h m, λ x. together S env ps qs x.0 x.1 h x.2 x.3 x.4)

pub returns-clause-taken_out : goal.returns-clause-taken_out
returns-clause-taken_out c = λ S env ps qs p h. (
  λ m. let x = more_of (taken_out S env ps qs p h m) in (x.here, x.others, x.joins, x.first, x.rest),
  λ x. put_back S env ps qs p h (more x.2 x.3 x.4),
)

pub returns-clause-no_order : goal.returns-clause-no_order
returns-clause-no_order c = λ S env ps qs h s m. any_order S env ps qs h s m
