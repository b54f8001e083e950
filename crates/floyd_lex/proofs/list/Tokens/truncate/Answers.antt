use Rattle.std.proofs.Common.{refl}
use Rattle.floyd_lex.proofs.PackingLemmas.{AreWithin-take, lexemes_of-take}
use Rattle.floyd_lex.proofs.list.Tokens.truncate.Goals as goal

pub invariant_of-self : goal.invariant_of-self
invariant_of-self c = rw c.truncate.ensures.items (AreWithin-take _ c.args.len _ c.self.invariant)

pub returns : goal.returns
returns c = rw (c.truncate.ensures.items, lexemes_of-take c.self.inside.file c.self.inside.long.items c.args.len c.self.inside.packed.items, ← c.self.view_is) refl
