use Rattle.std.proofs.Common.{sym, ◌∙◌}
use Rattle.floyd_lex.specs.declared.kinds.Punctuator.TheVariants as p
use Rattle.floyd_cparse_tokens.proofs.ReadLemmas.{gives_next, gives_init}
use Rattle.floyd_script_tokens.specs.Sights.{is_mark}
use Rattle.floyd_script_arguments.specs.Grammar.{both}
use Rattle.floyd_script_arguments.specs.ArgumentClauses as r
use Rattle.floyd_script_arguments.proofs.ArgumentExact.{next_term_eats}
use Rattle.floyd_script_arguments.proofs.arguments.read_some_terms.Goals as goal

pub each-init : goal.each-init
unfolding r.some_terms
each-init c = gives_init (λ _. is_mark p.Semicolon) both (λ _. r.next_term) (λ _. tt) (r.phrase 198) c.in_ok-read_phrase.field-0 c.args.reader.now c.read_phrase.new.reader c.in_ok-read_phrase.ensures

pub each-smaller : goal.each-smaller
each-smaller c = next_term_eats.law c.each.reader c.in_ok-read_next_term.field-0 c.read_next_term.new.reader c.in_ok-read_next_term.ensures

pub each-preserved : goal.each-preserved
each-preserved c = gives_next c.each.invariant next_term_eats (sym c.leads_mark.ensures ∙ c.each-test.true) c.in_ok-read_next_term.field-0 c.read_next_term.new.reader c.in_ok-read_next_term.ensures
