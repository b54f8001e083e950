use Rattle.std.proofs.Common.{◌≡◌, ◌++◌, map, drop}
use Rattle.std.specs.List.{AllByRecursion}
use Rattle.floyd_proved.specs.Claims.{IsProved}
use Rattle.floyd_soundness.specs.Keys.{key_of}
use Rattle.floyd_soundness.proofs.keys.keys_of.Given as goal

abbrev pub invariant-proofs : goal.invariant-proofs
invariant-proofs l = (l.keys ++ map (key_of l.linked) (drop l.proof-index l.proved) ≡ map (key_of l.linked) l.proved) × (AllByRecursion IsProved (drop l.proof-index l.proved) → AllByRecursion IsProved l.proved)
