-- The occurrences of a term: each is of the whole term, and what stands in it is none. Under a binder of one of its variables there
-- is none.
use Rattle.std.specs.Prelude.{Bool, false, not, ◌&&◌, ◌||◌, List}
use Rattle.std.specs.List.{list_any}
use Rattle.floyd_tree_sorts.specs.declared.connectives.FormulaHead.{FormulaHead}
use Rattle.floyd_tree_sorts.specs.declared.connectives.FormulaHead.TheVariants.{Forall, Exists}
use Rattle.floyd_tree.specs.Formulas.{PlainFormula, PlainFormulas, Says, NoFormula, MoreFormulas, formulas}
use Rattle.floyd_tree.specs.Plain.{Plain, Plains, At, Done, More, mentions, plains}
use Rattle.floyd_arith.specs.Same.{same_term}
use Rattle.floyd_assert_trees.specs.declared.assertion.Assertion.{Assertion}
use Rattle.floyd_assert_trees.specs.declared.binder.Binder.{Binder}
use Rattle.floyd_assert_changes.specs.Changed.{terms_in}

module _ (from : Plain) where
  abbrev mutual
    pub occurs : Plain → Bool
    occurs (At head kids) = same_term (At head kids) from || occurs_in kids

    pub occurs_in : Plains → Bool
    occurs_in Done = false
    occurs_in (More t ts) = occurs t || occurs_in ts

  abbrev pub hides : FormulaHead → Bool
  hides (Forall x s) = mentions x from
  hides (Exists x s) = mentions x from
  hides head = false

  abbrev mutual
    pub formula_occurs : PlainFormula → Bool
    formula_occurs (Says head terms kids) = occurs_in terms || (not (hides head) && formulas_occur kids)

    pub formulas_occur : PlainFormulas → Bool
    formulas_occur NoFormula = false
    formulas_occur (MoreFormulas f fs) = formula_occurs f || formulas_occur fs

  abbrev pub hide : List Binder → Bool
  hide binders = list_any (λ (b : Binder). mentions b.name from) binders

  -- in PROP, in LOCAL and in SEP
  abbrev pub assertion_occurs : Assertion → Bool
  assertion_occurs a = not (hide a.existentials) && (formulas_occur (formulas a.props) || occurs_in (plains (terms_in a)))
