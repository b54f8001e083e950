use Rattle.std.proofs.Common.{◌≡◌, map, take}
use Rattle.floyd_termread_brackets.specs.Brackets.{binder_sort}
use Rattle.floyd_termread_brackets.proofs.brackets.sorts_of.Given as goal

abbrev pub invariant-binders : goal.invariant-binders
invariant-binders l = l.all ≡ map binder_sort (take l.binder-index l.binders)
