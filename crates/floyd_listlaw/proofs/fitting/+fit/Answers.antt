use Rattle.std.proofs.Common.{◌&&◌, ap, sym, ◌∙◌}
use Rattle.floyd_listlaw.proofs.SortsFit.{fit_more, fit_none, if_ok}
use Rattle.floyd_listlaw.proofs.fitting.+fit.Goals as goal

pub returns-in_default : goal.returns-in_default
returns-in_default t c = c.is_empty.ensures ∙ fit_none c.args.s.now c.args.forms.now c.args.terms.now c.in_default.len_below

pub returns : goal.returns
returns t c =
    if_ok c.fit.result
    (λ y g. ap (λ b. b && y) (sym c.if-not-matches.false)
    ∙ fit_more c.args.s.now c.args.forms.now _ c.args.terms.now c.term-item.result c.sort.result.now c.in_ok-written.field-0 c.matches.result y c.in-len1-up.len_at_least c.in-len1-up-terms.len_at_least c.term-item.is c.sort.ensures c.in_ok-written.ensures c.matches.ensures g)
    c.fit.ensures
