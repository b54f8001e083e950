-- Words of the clauses of private functions.
use Rattle.std.specs.Prelude.{◌≡◌, List, None, All}
use Rattle.floyd_tree_sorts.specs.declared.connectives.FormulaHead.{FormulaHead}
use Rattle.floyd_tree.specs.Formulas.{PlainFormula, Says, NoFormula}
use Rattle.floyd_tree.specs.MadeFormulas.{formula_fault_at}
use Rattle.floyd_tree.specs.Plain.{Plain, Done, More}

-- of two terms
abbrev pub two : FormulaHead → Plain → Plain → PlainFormula
two head a b = Says head (More a (More b Done)) NoFormula

-- each formula is well sorted and within the limits
abbrev pub AreMade : List PlainFormula → Type 0
AreMade fs = All (λ f. formula_fault_at f ≡ None) fs
