use Rattle.std.proofs.Common.{◌≡◌, [], drop}
use Rattle.floyd_soundness.specs.KeyClauses.{with_keys}
use Rattle.floyd_soundness.proofs.keys.names_of.Given as goal

abbrev pub invariant-keys : goal.invariant-keys
invariant-keys l = with_keys l.kind l.number (drop l.key-index l.keys) l.names ≡ with_keys l.kind l.number l.keys []
