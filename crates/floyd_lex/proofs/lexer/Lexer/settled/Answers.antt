use Rattle.std.proofs.Common.{subst}
use Rattle.floyd_lex.specs.Lexing.{Lexing, AreSettled}
use Rattle.floyd_lex.proofs.lexer.Lexer.settled.Goals as goal

pub returns : goal.returns
returns c = subst (λ (l : Lexing). AreSettled l c.self.inside.tokens) c.self.view_is (record {
  outcome = record { pieces = c.self.invariant.cut.pieces; stop = c.self.inside.stand.flaw };
  cut = c.self.invariant.cut.cut;
  same = c.self.invariant.cut.items;
})
