use Rattle.std.proofs.Common.{false, sym, ◌∙◌}
use Rattle.floyd_cparse_tokens.proofs.ReadLemmas.{gives_next, gives_end, gives_fault, gives_from, gives_init}
use Rattle.floyd_script_tokens.specs.SightClauses.{goes_on}
use Rattle.floyd_script_arguments.specs.Grammar.{both}
use Rattle.floyd_script_arguments.specs.ArgumentClauses.{phrase, item_out}
use Rattle.floyd_script_arguments.proofs.PhraseExact.{item_out_eats}
use Rattle.floyd_script_arguments.proofs.phrases.read_phrase.Goals as goal

pub each-init : goal.each-init
unfolding phrase
each-init c = gives_init (λ _. goes_on false) both (λ _. item_out c.args.room) (λ _. tt) (item_out c.args.room) c.in_ok-read_outer.field-0 c.args.reader.now c.read_outer.new.reader c.in_ok-read_outer.ensures

pub each-smaller : goal.each-smaller
each-smaller c = (item_out_eats c.args.room).law c.each.reader c.in_ok-read_outer-2.field-0 c.read_outer-in-each.new.reader c.in_ok-read_outer-2.ensures

pub each-preserved : goal.each-preserved
each-preserved c =
    gives_next c.each.invariant (item_out_eats c.args.room) (sym c.leads_phrase.ensures ∙ c.each-test.true) c.in_ok-read_outer-2.field-0 c.read_outer-in-each.new.reader c.in_ok-read_outer-2.ensures

pub returns-in_err-read_outer-2 : goal.returns-in_err-read_outer-2
returns-in_err-read_outer-2 c =
    gives_from c.from_residual-in_err-read_outer-2.result c.in_err-read_outer-2.field-0.0 c.read_outer-in-each.new.reader (phrase c.args.room c.args.reader.now) c.from_residual-in_err-read_outer-2.ensures.1
    (gives_fault c.each.invariant (sym c.leads_phrase.ensures ∙ c.each-test.true) c.in_err-read_outer-2.field-0.0 c.read_outer-in-each.new.reader c.in_err-read_outer-2.ensures)

pub returns : goal.returns
returns c = gives_end c.each.invariant (sym c.leads_phrase.ensures ∙ c.each-test.false)
