use Rattle.std.proofs.Common.{List, drop, sym, subst, arith}
use Rattle.floyd_lex.specs.Token.{Token, tokens_in}
use Rattle.floyd_check_stub.specs.LeftClauses.{left, Begins}
use Rattle.floyd_check_stub.proofs.LeftLemmas.{none_left, begins, is_placed}
use Rattle.floyd_check_stub.proofs.left.placed_token.Goals as goal

pub returns-then-tokens-len-clause-tokens : goal.returns-then-tokens-len-clause-tokens
unfolding left
returns-then-tokens-len-clause-tokens c =
    let t = c.args.tokens in
    none_left t.bytes.now t.tokens.now t.at (omega (arith, c.len.ensures, c.if-tokens-len.true))

pub returns-clause-tokens : goal.returns-clause-tokens
unfolding left
returns-clause-tokens c =
    let t = c.args.tokens in
    subst (λ (ts : List Token). Begins (drop t.at (tokens_in t.bytes.now t.tokens.now)) c.text.result.now ts) (sym c.from_on.ensures)
    (begins t.bytes.now t.tokens.now t.at c.text.result.now c.text.ensures)

pub returns-clause-place : goal.returns-clause-place
unfolding left
returns-clause-place c =
    let t = c.args.tokens in
    is_placed t.bytes.now t.tokens.now t.at c.place.result c.place.ensures
