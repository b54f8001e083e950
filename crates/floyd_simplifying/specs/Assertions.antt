-- Assertions whose formulas and terms are simplified: in PROP, in LOCAL and in SEP.
use Rattle.std.specs.Prelude.{map, Option, Some, None, Result, Ok, Err}
use Rattle.floyd_text.specs.declared.refusal.No.{No}
use Rattle.floyd_tree.specs.Formulas.{PlainFormula, PlainFormulas, formulas}
use Rattle.floyd_tree.specs.Plain.{Plain, Plains, plains}
use Rattle.floyd_assert_trees.specs.declared.assertion.Assertion.{Assertion}
use Rattle.floyd_assert_changes.specs.Changed.{terms_in}
use Rattle.floyd_assert_terms.specs.Mapped.{body_mapped}
use Rattle.floyd_simplifying.specs.Simplified.{formula_simplified, formulas_simplified, simplified, simplified_in}

-- what becomes of it; where nothing changes it stays
abbrev pub changed_or : {T : Type 0} → T → Result (Option T) No → T
changed_or x (Ok (Some y)) = y
changed_or x made = x

abbrev pub term_or : Plain → Plain
term_or t = changed_or t (simplified t)

abbrev pub formula_or : PlainFormula → PlainFormula
formula_or f = changed_or f (formula_simplified f)

abbrev pub with_both : Assertion → Result (Option PlainFormulas) No → Result (Option Plains) No → Result (Option Assertion) No
with_both a (Err refusal) terms = Err refusal
with_both a (Ok props) (Err refusal) = Err refusal
with_both a (Ok None) (Ok None) = Ok None
with_both a (Ok props) (Ok terms) = Ok (Some (body_mapped term_or (map formula_or a.props) a))

abbrev pub assertion_simplified : Assertion → Result (Option Assertion) No
assertion_simplified a = with_both a (formulas_simplified (formulas a.props)) (simplified_in (plains (terms_in a)))
