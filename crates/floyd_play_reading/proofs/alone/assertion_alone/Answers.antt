use Rattle.std.proofs.Common.{refl}
use Rattle.floyd_termread_assertions.specs.Assertions.{assertion}
use Rattle.floyd_termread.proofs.ReadingLemmas.{alone}
use Rattle.floyd_termread_scope.specs.Scopes.{Env}
use Rattle.floyd_play_reading.proofs.alone.assertion_alone.Goals as goal

pub returns-clause-exact : goal.returns-clause-exact
returns-clause-exact c =
    alone (λ depth (e : Env). assertion c.args.text.bytes.now c.args.text.tokens.now 1 e) c.args.scope.now c.new-bound.result 0 c.args.at 0 c.args.at c.assertion_at.result c.new-bound.ensures refl refl c.assertion_at.ensures.exact
