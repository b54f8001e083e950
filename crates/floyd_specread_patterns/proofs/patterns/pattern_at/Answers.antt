use Rattle.std.proofs.Common.{sym, ◌∙◌}
use Rattle.floyd_specread_patterns.proofs.PatternLemmas.{is_node, is_cons}
use Rattle.floyd_specread_patterns.proofs.patterns.pattern_at.Goals as goal

pub returns-then-leads_spec_word-3-clause-exact : goal.returns-then-leads_spec_word-3-clause-exact
returns-then-leads_spec_word-3-clause-exact c =
    is_node c.args.text.bytes.now c.args.text.tokens.now c.args.at c.node_at.result (sym c.leads_spec_word.ensures.value ∙ c.if-leads_spec_word.false) (sym c.leads_spec_word-2.ensures.value ∙ c.if-leads_spec_word-2.false) (sym c.leads_spec_word-3.ensures.value ∙ c.if-leads_spec_word-3.true) c.node_at.ensures.exact

pub returns-clause-exact : goal.returns-clause-exact
returns-clause-exact c =
    is_cons c.args.text.bytes.now c.args.text.tokens.now c.args.at c.cons_at.result (sym c.leads_spec_word.ensures.value ∙ c.if-leads_spec_word.false) (sym c.leads_spec_word-2.ensures.value ∙ c.if-leads_spec_word-2.false) (sym c.leads_spec_word-3.ensures.value ∙ c.if-leads_spec_word-3.false) c.cons_at.ensures.exact
