use Rattle.floyd_assert_meaning.proofs.AlikeLaws.{alike_bodies, alike_holds, alike_posts}
use Rattle.floyd_assert_meaning.proofs.laws.say_alike.Goals as goal

pub returns-clause-assertions : goal.returns-clause-assertions
returns-clause-assertions c = λ S env f g a b temps h e. alike_holds S env f g a b e temps h

pub returns-clause-bodies : goal.returns-clause-bodies
returns-clause-bodies c = λ S env f g a b h e. alike_bodies S env f g a b e h

pub returns-clause-postconditions : goal.returns-clause-postconditions
returns-clause-postconditions c = λ S env f g a b v h e. alike_posts S env f g a b e v h
