use Rattle.std.proofs.Common.{◌≡◌, ◌-◌, drop, length}
use Rattle.floyd_memval.specs.Decoding.{are_fragments}
use Rattle.floyd_memval.proofs.decoding.are_fragments.Given as goal

-- what is left decides
abbrev pub invariant-bytes : goal.invariant-bytes
invariant-bytes l =
    are_fragments (length l.from) l.block l.offset l.from ≡ are_fragments (length l.from - l.i) l.block l.offset (drop l.i l.from)
