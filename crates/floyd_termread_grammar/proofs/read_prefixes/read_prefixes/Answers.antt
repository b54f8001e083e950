use Rattle.std.proofs.Common.{sym, ◌∙◌}
use Rattle.floyd_grammar.proofs.Turns.{turning}
use Rattle.floyd_cparse_tokens.proofs.ReadLemmas.{gives_next}
use Rattle.floyd_termread_grammar.specs.Terms.{begins_prefix, plus_prefix, no_prefixes}
use Rattle.floyd_termread_grammar.specs.TermClauses.{nested, one_prefix, prefixes}
use Rattle.floyd_termread_grammar.proofs.TermShrinks.{prefix_eats}
use Rattle.floyd_termread_grammar.proofs.read_prefixes.read_prefixes.Goals as goal

pub each-init : goal.each-init
unfolding prefixes
each-init c = rw c.no_prefixes-all.ensures (turning begins_prefix plus_prefix (one_prefix c.args.room (nested c.args.room)) (no_prefixes c.args.want c.args.count) c.args.reader.now)

pub each-smaller : goal.each-smaller
each-smaller c = (prefix_eats c.args.room c.each.all).law c.each.reader c.in_ok-prefix.prefix c.read_prefix.new.reader c.in_ok-prefix.ensures

pub each-preserved : goal.each-preserved
each-preserved c =
    rw c.in_ok-all.ensures
    (gives_next c.each.invariant (prefix_eats c.args.room c.each.all) (sym c.leads_prefix.ensures ∙ c.each-test.true) c.in_ok-prefix.prefix c.read_prefix.new.reader c.in_ok-prefix.ensures)
