use Rattle.std.proofs.Common.{[], refl, arith}
use Rattle.floyd_lex.specs.Cuts.{ends}
use Rattle.floyd_lex.proofs.GapLemmas.{none_left}
use Rattle.floyd_lex.proofs.SpotLemmas.{first_spot}
use Rattle.floyd_lex.proofs.lexer.start.Goals as goal

pub invariant_of-result : goal.invariant_of-result
invariant_of-result c = rw (c.new.ensures.items, c.new-2.ensures) (record {
  small = omega arith;
  lines = refl;
  cut = record { pieces = []; items = refl; cut = ends (none_left c.args.kind []); spot = first_spot []; ends = refl };
})
