use Rattle.std.proofs.Common.{option_map, ap, sym, ◌∙◌, arith}
use Rattle.std.specs.Prelude.{slice_get}
use Rattle.floyd_lex.specs.Token.{Lexeme}
use Rattle.floyd_termread.specs.Brackets.{open_after}
use Rattle.floyd_termread.proofs.BracketLemmas.{one_more}
use Rattle.floyd_termread.proofs.brackets.open_before.Goals as goal

pub tokens-preserved : goal.tokens-preserved
tokens-preserved c = record {
  within = omega (arith, c.open_after-count.ensures.within, c.tokens.invariant.within);
  done = c.open_after-count.ensures.value
      ∙ ap (λ kind. open_after c.tokens.count kind) c.kind.ensures
      ∙ ap (λ n. open_after n (option_map (λ (x : Lexeme). x.kind) (slice_get c.args.tokens.now.items c.tokens.i))) c.tokens.invariant.done
      ∙ sym (one_more c.args.tokens.now c.tokens.i);
}
