use Rattle.std.proofs.Common.{◌≡◌, ◌++◌, drop}
use Rattle.floyd_show.specs.Goals.{local_lines}
use Rattle.floyd_show.proofs.assertions.put_locals.Given as goal

-- what was put, and what is left to put
abbrev pub invariant-locals : goal.invariant-locals
invariant-locals l = l.out ++ local_lines (drop l.local-index l.locals) ≡ l.initial.out ++ local_lines l.locals
