use Rattle.std.proofs.Common.{◌≡◌, drop}
use Rattle.floyd_listlaw.specs.Names.{named_among}
use Rattle.floyd_play_reading.proofs.laws.named_among.Given as goal

abbrev pub invariant-laws : goal.invariant-laws
invariant-laws l = named_among (drop l.law-index l.laws) l.name ≡ named_among l.laws l.name
