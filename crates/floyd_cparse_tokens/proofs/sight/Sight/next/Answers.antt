use Rattle.std.proofs.Common.{sym, ◌∙◌, arith}
use Rattle.floyd_cparse_tokens.proofs.SightLemmas.{within, seen_next, seen_last, seen_end}
use Rattle.floyd_cparse_tokens.proofs.sight.Sight.next.Goals as goal

pub returns-then-self-len : goal.returns-then-self-len
returns-then-self-len c =
    let bound = within c.self.inside.bytes.now c.self.inside.tokens.now c.self.inside.at c.self.inside.kind c.self.invariant in
    rw (← c.self.view_is) (seen_end c.self.inside.bytes.now c.self.inside.tokens.now c.self.inside.at c.self.inside.kind c.self.invariant (omega (arith, bound, c.len.ensures, c.if-self-len.true)))

pub overflow_add-at : goal.overflow_add-at
overflow_add-at c =
    let bound = within c.self.inside.bytes.now c.self.inside.tokens.now c.self.inside.at c.self.inside.kind c.self.invariant in
    omega (arith, bound, c.len.ensures, c.len.type_inv)

pub returns-in_err-kind : goal.returns-in_err-kind
returns-in_err-kind c =
    rw (c.from_residual.ensures, ← c.self.view_is)
    (seen_last c.self.inside.bytes.now c.self.inside.tokens.now c.self.inside.at c.self.inside.kind c.self.invariant (sym c.kind.ensures ∙ c.in_err-kind.was))

pub returns : goal.returns
returns c =
    rw (← c.self.view_is)
    (seen_next c.self.inside.bytes.now c.self.inside.tokens.now c.self.inside.at c.self.inside.kind c.in_ok-kind.field-0 c.self.invariant (sym c.kind.ensures ∙ c.in_ok-kind.was))
