use Rattle.std.proofs.Common.{List, drop, ap, sym, subst, arith}
use Rattle.floyd_lex.specs.Token.{Token, tokens_in}
use Rattle.floyd_check_stub.specs.Forms.{texts}
use Rattle.floyd_check_stub.specs.LeftClauses.{left, Begins}
use Rattle.floyd_check_stub.proofs.LeftLemmas.{none_left, begins, begin_texts}
use Rattle.floyd_check_stub.proofs.left.first_token.Goals as goal

pub returns-then-tokens-len-clause-tokens : goal.returns-then-tokens-len-clause-tokens
unfolding left
returns-then-tokens-len-clause-tokens c =
    let t = c.args.tokens in
    none_left t.bytes.now t.tokens.now t.at (omega (arith, c.len.ensures, c.if-tokens-len.true))

pub returns-then-tokens-len-clause-texts : goal.returns-then-tokens-len-clause-texts
unfolding left
returns-then-tokens-len-clause-texts c =
    let t = c.args.tokens in
    ap texts (none_left t.bytes.now t.tokens.now t.at (omega (arith, c.len.ensures, c.if-tokens-len.true)))

pub returns-clause-tokens : goal.returns-clause-tokens
unfolding left
returns-clause-tokens c =
    let t = c.args.tokens in
    subst (λ (ts : List Token). Begins (drop t.at (tokens_in t.bytes.now t.tokens.now)) c.text.result.now ts) (sym c.from_on.ensures)
    (begins t.bytes.now t.tokens.now t.at c.text.result.now c.text.ensures)

pub returns-clause-texts : goal.returns-clause-texts
unfolding left
returns-clause-texts c =
    let t = c.args.tokens in
    let here = drop t.at (tokens_in t.bytes.now t.tokens.now) in
    begin_texts here (left c.from_on.result) c.text.result.now
    (subst (λ (ts : List Token). Begins here c.text.result.now ts) (sym c.from_on.ensures) (begins t.bytes.now t.tokens.now t.at c.text.result.now c.text.ensures))
