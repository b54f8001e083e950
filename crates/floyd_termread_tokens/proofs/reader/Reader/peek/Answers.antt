use Rattle.std.proofs.Common.{◌∷◌, List, drop, sym, ◌∙◌, ap, arith}
use Rattle.floyd_lex.specs.Token.{Token}
use Rattle.floyd_termread_tokens.specs.SeenClauses.{token_at}
use Rattle.floyd_termread_tokens.proofs.SeenLemmas.{end_first}
use Rattle.floyd_termread_tokens.proofs.reader.Reader.peek.Goals as goal

pub returns-clause-ok : goal.returns-clause-ok
returns-clause-ok c =
    let bytes = c.self.inside.bytes.now in
    let list = c.self.inside.tokens.now in
    let here = end_first bytes list c.self.inside.at c.self.inside.end c.self.inside.cuts (omega (arith, c.if-self.false)) c.if-self-eq0.false in
    rw (c.new-2.ensures, c.len-behind.ensures, ← c.self.view_is) here
