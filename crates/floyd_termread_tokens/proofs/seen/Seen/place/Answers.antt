use Rattle.std.proofs.Common.{sym}
use Rattle.floyd_termread_tokens.proofs.SeenLemmas.{seen_place}
use Rattle.floyd_termread_tokens.proofs.seen.Seen.place.Goals as goal

pub returns : goal.returns
returns c = rw (← c.self.view_is) (sym (seen_place c.self.inside.bytes.now c.self.inside.tokens.now c.self.inside.at c.place.result c.place.ensures))
