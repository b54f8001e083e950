use Rattle.floyd_specread_items.proofs.variables.case_variables.Goals as goal

pub returns : goal.returns
returns c = rw (c.as_slice.ensures, c.in_ok-binders.ensures, c.in_ok-bound.ensures) at c.in_ok-bind_all.ensures
