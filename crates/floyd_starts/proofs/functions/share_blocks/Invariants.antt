use Rattle.std.proofs.Common.{◌≡◌, take}
use Rattle.floyd_starts.proofs.functions.share_blocks.Given as goal

abbrev pub invariant-each : goal.invariant-each
invariant-each l = l.all ≡ take l.block-index l.blocks
