use Rattle.std.proofs.Common.{◌≡◌, ◌++◌, drop}
use Rattle.floyd_show.specs.Goals.{binder_lines}
use Rattle.floyd_show.proofs.assertions.put_binders.Given as goal

-- what was put, and what is left to put
abbrev pub invariant-binders : goal.invariant-binders
invariant-binders l = l.out ++ binder_lines l.word (drop l.binder-index l.binders) ≡ l.initial.out ++ binder_lines l.word l.binders
