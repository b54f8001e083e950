use Rattle.std.proofs.Common.{sym, ◌∙◌}
use Rattle.floyd_termread_sorts.specs.SortClauses.{finish_sort}
use Rattle.floyd_termread_sorts.proofs.read_sorts.finish_sort.Goals as goal

pub returns : goal.returns
unfolding finish_sort
returns c = rw (sym c.wants_none.ensures ∙ c.if-wants_none.false) c.refuse_row.ensures
