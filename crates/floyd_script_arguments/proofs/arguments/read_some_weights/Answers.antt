use Rattle.std.proofs.Common.{sym, ◌∙◌}
use Rattle.floyd_lex.specs.declared.kinds.Punctuator.TheVariants as p
use Rattle.floyd_cparse_tokens.proofs.ReadLemmas.{gives_next, gives_init}
use Rattle.floyd_script_tokens.specs.Sights.{is_mark}
use Rattle.floyd_script_arguments.specs.Grammar.{both}
use Rattle.floyd_script_arguments.specs.ArgumentClauses as r
use Rattle.floyd_script_arguments.proofs.ArgumentExact.{next_weight_eats}
use Rattle.floyd_script_arguments.proofs.arguments.read_some_weights.Goals as goal

pub each-init : goal.each-init
unfolding r.some_weights
each-init c = gives_init (λ _. is_mark p.Comma) both (λ _. r.next_weight) (λ _. tt) (r.weight) c.in_ok-read_weight.field-0 c.args.reader.now c.read_weight.new.reader c.in_ok-read_weight.ensures

pub each-smaller : goal.each-smaller
each-smaller c = next_weight_eats.law c.each.reader c.in_ok-read_next_weight.field-0 c.read_next_weight.new.reader c.in_ok-read_next_weight.ensures

pub each-preserved : goal.each-preserved
each-preserved c = gives_next c.each.invariant next_weight_eats (sym c.leads_mark.ensures ∙ c.each-test.true) c.in_ok-read_next_weight.field-0 c.read_next_weight.new.reader c.in_ok-read_next_weight.ensures
