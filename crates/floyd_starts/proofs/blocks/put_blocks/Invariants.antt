use Rattle.std.proofs.Common.{◌≡◌, ◌++◌, map, drop}
use Rattle.floyd_goal_forms.specs.Starts.{block_part}
use Rattle.floyd_starts.proofs.blocks.put_blocks.Given as goal

abbrev pub invariant-each : goal.invariant-each
invariant-each g l = l.parts ++ map (block_part l.structs) (drop l.block-index l.blocks) ≡ l.initial.parts ++ map (block_part l.structs) l.blocks
