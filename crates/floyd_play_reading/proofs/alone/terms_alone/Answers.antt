use Rattle.std.proofs.Common.{refl}
use Rattle.floyd_play_terms.specs.Terms.{terms}
use Rattle.floyd_termread.proofs.ReadingLemmas.{alone}
use Rattle.floyd_termread_scope.specs.Scopes.{Env}
use Rattle.floyd_play_reading.proofs.alone.terms_alone.Goals as goal

pub returns-clause-exact : goal.returns-clause-exact
returns-clause-exact c =
    alone (λ depth (e : Env). terms c.args.text.bytes.now c.args.text.tokens.now e c.args.expected) c.args.scope.now c.new-bound.result 0 c.args.at 0 c.args.at c.terms_at.result c.new-bound.ensures refl refl c.terms_at.ensures.exact
