use Rattle.floyd_assert_laws.proofs.BareLaws.{body_bare, holds_bare, post_bare}
use Rattle.floyd_assert_laws.proofs.laws.look_at_no_local.Goals as goal

pub returns-clause-assertions : goal.returns-clause-assertions
returns-clause-assertions c = λ S env local a temps h bare k x. holds_bare S bare env local a temps h k x

pub returns-clause-bodies : goal.returns-clause-bodies
returns-clause-bodies c = λ S env local a h bare k x. body_bare S bare x local k

pub returns-clause-postconditions : goal.returns-clause-postconditions
returns-clause-postconditions c = λ S env local a v h bare k x. post_bare S bare env local a v h k x
