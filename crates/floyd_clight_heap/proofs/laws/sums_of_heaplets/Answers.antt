use Rattle.floyd_clight_heap.proofs.Sums.{comm, assoc, assoc_back, right_empty, one_sum}
use Rattle.floyd_clight_heap.proofs.laws.sums_of_heaplets.Goals as goal

pub returns-clause-commutes : goal.returns-clause-commutes
returns-clause-commutes c = λ h g k j. comm j

pub returns-clause-associates : goal.returns-clause-associates
returns-clause-associates c = λ a b d ab abd j i. assoc j i

pub returns-clause-associates_back : goal.returns-clause-associates_back
returns-clause-associates_back c = λ a b d bd abd j i. assoc_back j i

pub returns-clause-unit : goal.returns-clause-unit
returns-clause-unit c = λ h k. (right_empty h, λ j. one_sum j (right_empty h))

pub returns-clause-one : goal.returns-clause-one
returns-clause-one c = λ h g k l j i. one_sum j i
