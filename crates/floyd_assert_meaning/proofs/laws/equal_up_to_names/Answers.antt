use Rattle.floyd_assert_meaning.proofs.Sames.{same_assertions, same_parts_hold, same_pre, same_post}
use Rattle.floyd_assert_meaning.proofs.laws.equal_up_to_names.Goals as goal

pub returns-clause-parts : goal.returns-clause-parts
returns-clause-parts c = λ S env p q h e. same_parts_hold S env p q h e

pub returns-clause-assertions : goal.returns-clause-assertions
returns-clause-assertions c = λ S env a b temps h e. same_assertions S env a b temps h e

pub returns-clause-preconditions : goal.returns-clause-preconditions
returns-clause-preconditions c = λ S s t ds args h e. same_pre S s t ds e args h

pub returns-clause-postconditions : goal.returns-clause-postconditions
returns-clause-postconditions c = λ S s t ds v h e k. same_post S s t ds e v h k
