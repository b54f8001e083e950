use Rattle.std.proofs.Common.{◌≡◌, drop}
use Rattle.floyd_forward.specs.Return.{without_blocks}
use Rattle.floyd_forward.proofs.blocks.without_blocks.Given as goal

abbrev pub invariant-each : goal.invariant-each
invariant-each g l = without_blocks (drop l.block-index l.blocks) l.left ≡ without_blocks l.blocks l.fn.parts
