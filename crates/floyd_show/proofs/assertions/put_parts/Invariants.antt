use Rattle.std.proofs.Common.{◌≡◌, ◌+◌, ◌++◌, drop}
use Rattle.floyd_show.specs.Goals.{part_lines}
use Rattle.floyd_show.proofs.assertions.put_parts.Given as goal

-- what was put, and what is left to put
abbrev pub invariant-parts : goal.invariant-parts
invariant-parts l = l.out ++ part_lines (l.place + 1) (drop l.place l.parts) ≡ l.initial.out ++ part_lines 1 l.parts
