use Rattle.std.proofs.Common.{◌≡◌, ◌-◌, drop, length}
use Rattle.floyd_memval.specs.Encoding.{fragments}
use Rattle.floyd_memval.proofs.encoding.put_fragments.Given as goal

-- the fragments so far stand at the highest places
abbrev pub invariant-fragments : goal.invariant-fragments
invariant-fragments l = (drop (8 - l.number) l.into ≡ fragments l.number l.v) × (length l.into ≡ 8)
