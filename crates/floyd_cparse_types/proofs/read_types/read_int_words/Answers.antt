use Rattle.std.proofs.Common.{sym, ◌∙◌}
use Rattle.floyd_grammar.specs.ParseClauses.{one}
use Rattle.floyd_grammar.proofs.Turns.{turning}
use Rattle.floyd_cparse_tokens.specs.Tokens.{is_there, Sight}
use Rattle.floyd_cparse_types.specs.Types.{latest, with_word, word_token}
use Rattle.floyd_cparse_types.specs.TypeClauses.{int_words}
use Rattle.floyd_cparse_types.specs.declared.values.IntWords.{IntWords}
use Rattle.floyd_cparse_tokens.proofs.Shrinks.{one_eats}
use Rattle.floyd_cparse_tokens.proofs.ReadLemmas.{gives_next, gives_fault, gives_from}
use Rattle.floyd_cparse_types.proofs.read_types.read_int_words.Goals as goal

pub each-init : goal.each-init
unfolding int_words
each-init c = turning (λ (words : IntWords) (s : Sight). is_there (with_word s.token.kind words)) latest (λ (words : IntWords). one (word_token c.args.room c.args.count words)) c.args.first c.args.reader.now

pub returns-in_err-words : goal.returns-in_err-words
returns-in_err-words c =
    gives_from c.from_residual.result c.in_err-words.field-0.0 c.take_word.new.reader (int_words c.args.room c.args.count c.args.first c.args.reader.now) c.from_residual.ensures.1
    (gives_fault c.each.invariant (sym c.leads_more.ensures ∙ c.each-test.true) c.in_err-words.field-0.0 c.take_word.new.reader c.in_err-words.ensures)

pub each-preserved : goal.each-preserved
each-preserved c =
    gives_next c.each.invariant (one_eats (word_token c.args.room c.args.count c.each.words)) (sym c.leads_more.ensures ∙ c.each-test.true) c.in_ok-words.words c.take_word.new.reader c.in_ok-words.ensures
