use Rattle.std.proofs.Common.{sym}
use Rattle.floyd_termread_tokens.proofs.SeenLemmas.{seen_text}
use Rattle.floyd_termread_tokens.proofs.seen.Seen.text.Goals as goal

pub returns : goal.returns
returns c = rw (← c.self.view_is) (sym (seen_text c.self.inside.bytes.now c.self.inside.tokens.now c.self.inside.at c.text.result.now c.text.ensures))
