-- Assertions in which each call of a FUN is replaced by its meaning: in PROP, in LOCAL and in SEP.
use Rattle.std.specs.Prelude.{ℕ, List, map, Option, Some, None, Result, Ok, Err}
use Rattle.floyd_text.specs.declared.refusal.No.{No}
use Rattle.floyd_tree.specs.Formulas.{PlainFormula, PlainFormulas, formulas}
use Rattle.floyd_tree.specs.Plain.{Plain, Plains, plains}
use Rattle.floyd_assert_trees.specs.declared.assertion.Assertion.{Assertion}
use Rattle.floyd_assert_changes.specs.Changed.{terms_in}
use Rattle.floyd_assert_terms.specs.Mapped.{body_mapped}
use Rattle.floyd_assert_trees.specs.declared.items.Fun.{Fun}
use Rattle.floyd_simplifying.specs.Assertions.{changed_or}
use Rattle.floyd_unfolding.specs.Unfolded.{formula_unfolded, formulas_unfolded, unfolded, unfolded_in}

module _ (name : List ℕ) (own : Fun) where
  -- what becomes of it; where nothing changes it stays
  abbrev pub term_or : Plain → Plain
  term_or t = changed_or t (unfolded name own t)

  abbrev pub formula_or : PlainFormula → PlainFormula
  formula_or f = changed_or f (formula_unfolded name own f)

  abbrev pub with_both : Assertion → Result (Option PlainFormulas) No → Result (Option Plains) No → Result (Option Assertion) No
  with_both a (Err refusal) terms = Err refusal
  with_both a (Ok props) (Err refusal) = Err refusal
  with_both a (Ok None) (Ok None) = Ok None
  with_both a (Ok props) (Ok terms) = Ok (Some (body_mapped term_or (map formula_or a.props) a))

  abbrev pub assertion_unfolded : Assertion → Result (Option Assertion) No
  assertion_unfolded a = with_both a (formulas_unfolded name own (formulas a.props)) (unfolded_in name own (plains (terms_in a)))
