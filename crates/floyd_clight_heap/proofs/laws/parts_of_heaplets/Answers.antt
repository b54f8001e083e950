use Rattle.floyd_clight_heap.proofs.Sums.{part, within_more, owned_more}
use Rattle.floyd_clight_heap.proofs.laws.parts_of_heaplets.Goals as goal

pub returns-clause-fit : goal.returns-clause-fit
returns-clause-fit c = λ h F k m j f. part j f

pub returns-clause-within : goal.returns-clause-within
returns-clause-within c = λ h F k x y j w. within_more j w

pub returns-clause-owned : goal.returns-clause-owned
returns-clause-owned c = λ h F k x y j w. owned_more j w
