use Rattle.std.proofs.Common.{◌∙◌, ap, drop}
use Rattle.floyd_termread_tokens.proofs.SeenLemmas.{until_next}
use Rattle.floyd_termread_tokens.proofs.reader.Reader.advance.Goals as goal

pub returns-then-self : goal.returns-then-self
returns-then-self c =
    until_next c.self.inside.bytes.now c.self.inside.tokens.now c.self.inside.at c.self.inside.end c.self.inside.cuts c.if-self.true c.self.invariant.1 ∙ ap (drop 1) c.self.view_is
