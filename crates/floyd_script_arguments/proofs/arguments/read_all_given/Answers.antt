use Rattle.std.proofs.Common.{sym, ◌∙◌}
use Rattle.floyd_grammar.proofs.Turns.{turning}
use Rattle.floyd_cparse_tokens.proofs.ReadLemmas.{gives_next}
use Rattle.floyd_script_tokens.specs.Sights.{is_given}
use Rattle.floyd_script_arguments.specs.Grammar.{both}
use Rattle.floyd_script_arguments.specs.ArgumentClauses as r
use Rattle.floyd_script_arguments.proofs.ArgumentExact.{given_eats}
use Rattle.floyd_script_arguments.proofs.arguments.read_all_given.Goals as goal

pub each-init : goal.each-init
unfolding r.all_given
each-init c = turning (λ _. is_given) both (λ _. r.given) tt c.args.reader.now

pub each-smaller : goal.each-smaller
each-smaller c = given_eats.law c.each.reader c.in_ok-take_given.field-0 c.take_given.new.reader c.in_ok-take_given.ensures

pub each-preserved : goal.each-preserved
each-preserved c = gives_next c.each.invariant given_eats (sym c.leads_given.ensures ∙ c.each-test.true) c.in_ok-take_given.field-0 c.take_given.new.reader c.in_ok-take_given.ensures
