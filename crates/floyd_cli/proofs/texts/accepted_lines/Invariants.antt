use Rattle.std.proofs.Common.{◌≡◌, ◌++◌, drop}
use Rattle.floyd_cli.specs.Texts.{proved_text}
use Rattle.floyd_cli.proofs.texts.accepted_lines.Given as goal

-- what was put, and what is left to put
abbrev pub invariant-each : goal.invariant-each
invariant-each l = l.out ++ proved_text (drop l.name-index l.proved) ≡ proved_text l.proved
