use Rattle.std.proofs.Common.{◌≡◌, take}
use Rattle.std.specs.Map.{keys_of}
use Rattle.floyd_play.proofs.naming.names_of.Given as goal

abbrev pub invariant-places : goal.invariant-places
invariant-places l = l.all.items ≡ keys_of (take l.place l.names)
