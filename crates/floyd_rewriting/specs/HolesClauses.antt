-- Words of the clauses of private functions: what has holes, where there is an occurrence.
use Rattle.std.specs.Prelude.{◌≡◌, Bool, true, false, if◌then◌else◌, List, map, Option, Some, None}
use Rattle.floyd_tree.specs.Formulas.{PlainFormula, formulas, formulas_of, form_of}
use Rattle.floyd_tree.specs.Plain.{Plain, height, plains, size}
use Rattle.floyd_tree.specs.WellSorted.{sort_of}
use Rattle.floyd_assert_trees.specs.declared.assertion.Assertion.{Assertion}
use Rattle.floyd_rewriting.specs.Holes.{assertion_opened, formula_opened, opened}
use Rattle.floyd_rewriting.specs.Occurrences.{assertion_occurs, formula_occurs, formulas_occur, hides, occurs, occurs_in}

-- a leaf of the term's sort
pub record IsHole (from hole : Plain) : Type 0 where
  pub sort : sort_of hole ≡ sort_of from
  pub size : size hole ≡ 1
  pub height : height hole ≡ 1

abbrev pub if_so : {T : Type 0} → Bool → T → Option T
if_so true x = Some x
if_so false x = None

module _ (from hole : Plain) where
  abbrev pub term_after : Plain → Option Plain
  term_after t = if_so (occurs from t) (opened from hole t)

  abbrev pub terms_after : List Plain → Option (List Plain)
  terms_after ts = if_so (occurs_in from (plains ts)) (map (opened from hole) ts)

  abbrev pub formula_after : PlainFormula → Option PlainFormula
  formula_after f = if_so (formula_occurs from f) (formula_opened from hole f)

  abbrev pub formulas_after : List PlainFormula → Option (List PlainFormula)
  formulas_after fs = if_so (formulas_occur from (formulas fs)) (map (formula_opened from hole) fs)

  -- of the formulas below a head
  abbrev pub kids_after : PlainFormula → Option (List PlainFormula)
  kids_after f = if hides from (form_of f) then None else formulas_after (formulas_of f)

  abbrev pub assertion_after : Assertion → Option Assertion
  assertion_after a = if_so (assertion_occurs from a) (assertion_opened from hole a)
