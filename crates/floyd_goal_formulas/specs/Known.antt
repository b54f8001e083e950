-- The truth of a formula as far as it follows from the equations and inequalities in it that are between literals.
use Rattle.std.specs.Prelude.{Bool, true, false, not, if◌then◌else◌, Option, Some, None, option_map, ℤ, int_le}
use Rattle.std.specs.Ordering.{int_eq}
use Rattle.floyd_tree_sorts.specs.declared.connectives.FormulaHead.{FormulaHead}
use Rattle.floyd_tree_sorts.specs.declared.connectives.FormulaHead.TheVariants as f
use Rattle.floyd_tree_sorts.specs.declared.heads.Head.{Head}
use Rattle.floyd_tree_sorts.specs.declared.heads.Head.TheVariants.{Literal}
use Rattle.floyd_tree.specs.Formulas.{PlainFormula, Says, NoFormula, MoreFormulas, form_of}
use Rattle.floyd_tree.specs.Plain.{Plain, Done, More, head_of}

abbrev pub number_in : Head → Option ℤ
number_in (Literal z) = Some z
number_in head = None

-- the number of a literal
abbrev pub literal_of : Plain → Option ℤ
literal_of t = number_in (head_of t)

-- a test of two literals
abbrev pub compared : (ℤ → ℤ → Bool) → Option ℤ → Option ℤ → Option Bool
compared test None b = None
compared test (Some m) None = None
compared test (Some m) (Some n) = Some (test m n)

abbrev pub and_known : Option Bool → Option Bool → Option Bool
and_known (Some true) q = q
and_known (Some false) q = Some false
and_known None None = None
and_known None (Some true) = None
and_known None (Some false) = Some false

abbrev pub or_known : Option Bool → Option Bool → Option Bool
or_known (Some true) q = Some true
or_known (Some false) q = q
or_known None None = None
or_known None (Some true) = Some true
or_known None (Some false) = None

abbrev pub is_absurd : FormulaHead → Bool
is_absurd f.False = true
is_absurd head = false

-- `not F` is `F -> False`; of another implication, as of what else is no equation or inequality, nothing is known
abbrev pub not_known : PlainFormula → Option Bool → Option Bool
not_known conclusion p = if is_absurd (form_of conclusion) then option_map not p else None

abbrev pub known : PlainFormula → Option Bool
known (Says f.Equal (More a (More b Done)) NoFormula) = compared int_eq (literal_of a) (literal_of b)
known (Says f.AtMost (More a (More b Done)) NoFormula) = compared int_le (literal_of a) (literal_of b)
known (Says f.And terms (MoreFormulas a (MoreFormulas b NoFormula))) = and_known (known a) (known b)
known (Says f.Or terms (MoreFormulas a (MoreFormulas b NoFormula))) = or_known (known a) (known b)
known (Says f.Implies terms (MoreFormulas a (MoreFormulas b NoFormula))) = not_known b (known a)
known formula = None
