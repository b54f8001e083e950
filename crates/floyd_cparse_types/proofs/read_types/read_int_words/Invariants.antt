use Rattle.std.proofs.Common.{length}
use Rattle.floyd_grammar.specs.ParseClauses.{one}
use Rattle.floyd_grammar.proofs.Turns.{Turning}
use Rattle.floyd_cparse_tokens.specs.Tokens.{is_there, Sight}
use Rattle.floyd_cparse_types.specs.Types.{latest, with_word, word_token}
use Rattle.floyd_cparse_types.specs.TypeClauses.{int_words}
use Rattle.floyd_cparse_types.specs.declared.values.IntWords.{IntWords}
use Rattle.floyd_cparse_types.proofs.read_types.read_int_words.Given as goal

abbrev pub invariant-each : goal.invariant-each
invariant-each l = Turning (λ (words : IntWords) (s : Sight). is_there (with_word s.token.kind words)) latest (λ (words : IntWords). one (word_token l.room l.count words)) l.words l.reader (int_words l.room l.count l.fn.first l.fn.reader)

abbrev pub decreases-each : goal.decreases-each
decreases-each l = length l.reader
