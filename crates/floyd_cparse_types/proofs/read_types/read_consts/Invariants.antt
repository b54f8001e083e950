use Rattle.std.proofs.Common.{length, None}
use Rattle.floyd_lex.specs.declared.kinds.Keyword.TheVariants as w
use Rattle.floyd_grammar.specs.ParseClauses.{one}
use Rattle.floyd_grammar.proofs.Turns.{Turning}
use Rattle.floyd_cparse_tokens.specs.Tokens.{is_word}
use Rattle.floyd_cparse_types.specs.Types.{keep_first, const_token}
use Rattle.floyd_cparse_types.specs.TypeClauses.{consts}
use Rattle.floyd_cparse_types.proofs.read_types.read_consts.Given as goal

abbrev pub invariant-each : goal.invariant-each
invariant-each l = Turning (λ _. is_word w.Const) keep_first (λ _. one (const_token l.room l.count)) l.first l.reader (consts l.room l.count None l.fn.reader)

abbrev pub decreases-each : goal.decreases-each
decreases-each l = length l.reader
