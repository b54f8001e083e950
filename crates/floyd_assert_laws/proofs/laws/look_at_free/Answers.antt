use Rattle.floyd_assert_meaning.proofs.AlikeLaws.{alike_holds, alike_posts}
use Rattle.floyd_assert_laws.proofs.FreeLaws.{free_alike, free_posts_alike}
use Rattle.floyd_assert_laws.proofs.laws.look_at_free.Goals as goal

pub returns-clause-assertions : goal.returns-clause-assertions
returns-clause-assertions c = λ S env f g a temps h k m. (alike_holds S env f g a a (free_alike S env f g a k) temps h).0 m

pub returns-clause-postconditions : goal.returns-clause-postconditions
returns-clause-postconditions c = λ S env f g a v h k m. (alike_posts S env f g a a (free_posts_alike S env f g a k) v h).0 m
