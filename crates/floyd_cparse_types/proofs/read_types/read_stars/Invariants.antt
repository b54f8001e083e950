use Rattle.std.proofs.Common.{◌+◌, ◌≤◌, length, List}
use Rattle.floyd_lex.specs.declared.kinds.Punctuator.TheVariants as p
use Rattle.floyd_grammar.proofs.Turns.{Turning}
use Rattle.floyd_cparse_tokens.specs.Tokens.{is_mark}
use Rattle.floyd_cparse_types.specs.Types.{plus_star}
use Rattle.floyd_cparse_types.specs.TypeClauses.{star, stars}
use Rattle.floyd_cparse_trees.specs.declared.types.Star.{Star}
use Rattle.floyd_cparse_types.proofs.read_types.read_stars.Given as goal

abbrev pub invariant-each : goal.invariant-each
invariant-each l = record {
  turning : Turning (λ _. is_mark p.Star) plus_star (λ (all : List Star). star l.room (l.count + length all)) l.all l.reader (stars l.room l.count l.fn.reader);
  room : length l.all ≤ l.room + 2;
}

abbrev pub decreases-each : goal.decreases-each
decreases-each l = length l.reader
