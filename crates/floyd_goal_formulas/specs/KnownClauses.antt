-- What is known of a formula by its head and what stands below it.
use Rattle.std.specs.Prelude.{Bool, Option, Some, None, ℤ, int_le}
use Rattle.std.specs.Ordering.{int_eq}
use Rattle.floyd_tree_sorts.specs.declared.connectives.FormulaHead.{FormulaHead}
use Rattle.floyd_tree_sorts.specs.declared.connectives.FormulaHead.TheVariants as f
use Rattle.floyd_tree.specs.Formulas.{PlainFormula}
use Rattle.floyd_tree.specs.Plain.{Plain}
use Rattle.floyd_goal_formulas.specs.Known.{literal_of, compared, and_known, or_known, not_known}

abbrev pub compared_pair : (ℤ → ℤ → Bool) → Option (Plain × Plain) → Option Bool
compared_pair test None = None
compared_pair test (Some p) = compared test (literal_of p.0) (literal_of p.1)

-- of two terms
abbrev pub known_of_terms : FormulaHead → Option (Plain × Plain) → Option Bool
known_of_terms f.Equal p = compared_pair int_eq p
known_of_terms f.AtMost p = compared_pair int_le p
known_of_terms head p = None

-- of two formulas, of which this is known; the second is the conclusion of an implication
abbrev pub known_of_both : FormulaHead → PlainFormula → Option Bool → Option Bool → Option Bool
known_of_both f.And conclusion p q = and_known p q
known_of_both f.Or conclusion p q = or_known p q
known_of_both f.Implies conclusion p q = not_known conclusion p
known_of_both head conclusion p q = None
