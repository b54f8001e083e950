use Rattle.std.proofs.Common.{◌≡◌, ◌+◌, ◌*◌, ◌≤◌, drop}
use Rattle.floyd_stub_play.specs.Derivation.{played_from, played}
use Rattle.floyd_stub_play.proofs.playing.play.Given as goal

abbrev pub invariant-commands : goal.invariant-commands
invariant-commands l = record {
  played : played_from (drop l.command-index l.command-items) l.proof.end l.goals ≡ played l.fn.proof l.fn.start;
  few : l.goals.next ≤ 2 + 2 * l.command-index;
}
