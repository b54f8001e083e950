use Rattle.std.proofs.Common.{sym, ◌∙◌, arith}
use Rattle.floyd_specread_recursion.proofs.RunLemmas.{still_open, closed_here, never_closed}
use Rattle.floyd_specread_recursion.proofs.brackets.is_closed.Goals as goal

pub tokens-preserved : goal.tokens-preserved
tokens-preserved c = record {
  few = omega (arith, c.open_behind_at-count.ensures.within, c.tokens.invariant.few);
  so_far = still_open c.args.text.bytes.now c.args.text.tokens.now c.args.to c.tokens.count c.open_behind_at-count.result c.tokens.i (omega arith) c.open_behind_at-count.ensures.value c.if-count-eq0.false ∙ c.tokens.invariant.so_far;
}

pub returns-then-count-eq0 : goal.returns-then-count-eq0
returns-then-count-eq0 c =
    sym (closed_here c.args.text.bytes.now c.args.text.tokens.now c.args.to c.tokens.count c.open_behind_at-count.result c.tokens.i (omega arith) c.open_behind_at-count.ensures.value c.if-count-eq0.true) ∙ c.tokens.invariant.so_far

pub returns : goal.returns
returns c = sym (never_closed c.args.text.bytes.now c.args.text.tokens.now c.args.to c.tokens.count c.tokens.i (omega arith)) ∙ c.tokens.invariant.so_far
