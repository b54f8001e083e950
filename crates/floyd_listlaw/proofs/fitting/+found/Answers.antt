use Rattle.floyd_listlaw.proofs.SortsFit.{found_more, if_ok}
use Rattle.floyd_listlaw.proofs.fitting.+found.Goals as goal

pub returns : goal.returns
returns t c =
    if_ok c.s_in.result
    (λ s g. found_more c.args.forms.now _ c.args.terms.now c.term-item.result c.sort.result.now c.in_ok-found.field-0 s c.in-len1-up.len_at_least c.in-len1-up-terms.len_at_least c.term-item.is c.sort.ensures c.in_ok-found.ensures g)
    c.s_in.ensures
