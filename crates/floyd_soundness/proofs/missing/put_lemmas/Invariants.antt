use Rattle.std.proofs.Common.{◌≡◌, ◌++◌, drop}
use Rattle.std.specs.List.{flat_map}
use Rattle.floyd_soundness.specs.KeyClauses.{knows}
use Rattle.floyd_soundness.specs.Unproved.{missing_lemma}
use Rattle.floyd_soundness.proofs.missing.put_lemmas.Given as goal

abbrev pub invariant-items : goal.invariant-items
invariant-items l = l.all ++ flat_map (missing_lemma l.home (knows l.proved)) (drop l.i l.lemmas) ≡ l.initial.all ++ flat_map (missing_lemma l.home (knows l.proved)) l.lemmas
