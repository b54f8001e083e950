use Rattle.std.proofs.Common.{◌≡◌, drop}
use Rattle.floyd_stub_entail.specs.Cancel.{equations}
use Rattle.floyd_stub_entail.proofs.EntailLaws.{put_front}
use Rattle.floyd_stub_entail.proofs.cancel.equations.Given as goal

abbrev pub invariant-temporaries : goal.invariant-temporaries
invariant-temporaries l = put_front l.all (equations l.source (drop l.at l.target)) ≡ equations l.source l.target
