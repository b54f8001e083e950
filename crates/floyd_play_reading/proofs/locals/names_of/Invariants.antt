use Rattle.std.proofs.Common.{◌≡◌, drop}
use Rattle.floyd_play_reading.specs.Names.{names_behind, local_names}
use Rattle.floyd_play_reading.proofs.locals.names_of.Given as goal

abbrev pub invariant-each : goal.invariant-each
invariant-each l = names_behind l.names (drop l.block-index l.blocks) ≡ local_names l.blocks
