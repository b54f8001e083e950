use Rattle.std.proofs.Common.{◌≡◌, ◌++◌, drop}
use Rattle.std.specs.Prelude.{codes}
use Rattle.floyd_show_terms.specs.Terms.{following}
use Rattle.floyd_show_terms.proofs.formulas.put_texts_behind.Given as goal

abbrev pub invariant-texts : goal.invariant-texts
invariant-texts l = l.out ++ following (codes ", ") (drop l.text-index l.texts) ≡ l.initial.out ++ following (codes ", ") l.texts
