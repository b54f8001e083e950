use Rattle.std.proofs.Common.{refl}
use Rattle.floyd_play_terms.specs.Terms.{enclosed}
use Rattle.floyd_termread.proofs.ReadingLemmas.{alone}
use Rattle.floyd_termread_scope.specs.Scopes.{Env}
use Rattle.floyd_play_reading.proofs.alone.enclosed_alone.Goals as goal

pub returns-clause-exact : goal.returns-clause-exact
returns-clause-exact c =
    alone (λ depth (e : Env). enclosed c.args.text.bytes.now c.args.text.tokens.now e c.args.sort) c.args.scope.now c.new-bound.result 0 c.args.at 0 c.args.at c.enclosed_at.result c.new-bound.ensures refl refl c.enclosed_at.ensures.exact
