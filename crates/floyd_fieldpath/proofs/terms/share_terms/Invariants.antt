use Rattle.std.proofs.Common.{◌≡◌, take}
use Rattle.floyd_fieldpath.proofs.terms.share_terms.Given as goal

abbrev pub invariant-terms : goal.invariant-terms
invariant-terms l = l.all.items ≡ take l.term-index l.terms
