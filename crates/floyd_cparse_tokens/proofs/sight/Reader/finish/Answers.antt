use Rattle.std.proofs.Common.{◌-◌, ◌∙◌, ap}
use Rattle.floyd_cparse_tokens.proofs.LeftLemmas.{left_here}
use Rattle.floyd_cparse_tokens.proofs.sight.Reader.finish.Goals as goal

pub returns-else-left-eq0 : goal.returns-else-left-eq0
returns-else-left-eq0 g c =
    rw (← c.self.view_is, c.len.ensures)
    (left_here c.self.inside.bytes.now c.self.inside.tokens.now c.self.inside.at c.args.value (λ e. c.if-left-eq0.false (ap (λ z. z - c.self.inside.at) c.len.ensures ∙ e)))
