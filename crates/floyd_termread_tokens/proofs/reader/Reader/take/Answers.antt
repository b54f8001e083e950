use Rattle.std.proofs.Common.{◌∙◌, sym, ap}
use Rattle.floyd_termread_tokens.proofs.SeenLemmas.{taken_here, refused_here}
use Rattle.floyd_termread_tokens.proofs.reader.Reader.take.Goals as goal

pub returns-in-Ok : goal.returns-in-Ok
returns-in-Ok g c = rw (c.in-Ok.is, c.advance.ensures) (taken_here c.in-Ok.value c.args.self.now (λ e. c.if-left-eq0.false (c.left-left.ensures ∙ e)))

pub returns-in-Err : goal.returns-in-Err
returns-in-Err g c = rw (c.in-Err.is, c.left-left.ensures) (refused_here c.in-Err.cause c.args.self.now (λ e. c.if-left-eq0.false (c.left-left.ensures ∙ e)))
