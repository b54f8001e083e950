use Rattle.std.proofs.Common.{sym}
use Rattle.floyd_termread_tokens.proofs.SeenLemmas.{seen_kind}
use Rattle.floyd_termread_tokens.proofs.seen.Seen.kind.Goals as goal

pub returns : goal.returns
returns c = rw (← c.self.view_is) (sym (seen_kind c.self.inside.bytes.now c.self.inside.tokens.now c.self.inside.at c.self.inside.kind c.self.invariant))
