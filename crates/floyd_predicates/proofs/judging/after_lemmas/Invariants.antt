use Rattle.std.proofs.Common.{◌≡◌, drop, map}
use Rattle.floyd_predicates.specs.WellFormed.{earliest, lemma_refusal}
use Rattle.floyd_predicates.proofs.judging.after_lemmas.Given as goal

abbrev pub invariant-items : goal.invariant-items
invariant-items l = earliest l.found (map (lemma_refusal l.defs l.file) (drop l.i l.defs.lemmas)) ≡ earliest l.fn.first (map (lemma_refusal l.defs l.file) l.defs.lemmas)
