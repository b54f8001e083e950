-- Words of the clauses of private functions.
use Rattle.std.specs.Prelude.{◌≡◌, ℕ, List, [], ◌∷◌, Some}
use Rattle.floyd_tree_sorts.specs.declared.sorts.Sort.{Sort}
use Rattle.floyd_tree.specs.Formulas.{PlainFormula}
use Rattle.floyd_tree.specs.Plain.{Plain}
use Rattle.floyd_tree.specs.WellSorted.{sort_of}
use Rattle.floyd_truth.specs.Replace.{FormulaSortsAgree, puts}

-- a term of sort s may stand for x in the body
abbrev pub Takes : List ℕ → Sort → PlainFormula → Type 0
Takes x s body = (t : Plain) → sort_of t ≡ Some s → FormulaSortsAgree (puts ((x, t) ∷ [])) body
