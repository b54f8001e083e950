use Rattle.floyd_termread_scope.specs.Scopes.{Env}
use Rattle.floyd_termread_assertions.specs.Assertions.{assertion}
use Rattle.floyd_termread.specs.Brackets.{open_before}
use Rattle.floyd_termread.proofs.ReadingLemmas.{alone}
use Rattle.floyd_termread.proofs.reading.read_assertion.Goals as goal

pub returns : goal.returns
returns c = record {
  exact = alone (λ depth (e : Env). assertion c.args.bytes.now c.args.tokens.now depth e) c.args.scope.now c.new-bound.result c.spot_at.result.depth c.spot_at.result.at (open_before c.args.tokens.now c.args.at) c.args.at _
      c.new-bound.ensures c.spot_at.ensures.depth c.spot_at.ensures.at c.assertion_at.ensures.exact;
}
