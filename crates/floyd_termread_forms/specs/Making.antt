-- Formulas that are made of terms and formulas that were read. What is beyond the limits is too large where it begins.
use Rattle.std.specs.Prelude.{Option, Some, None, List, [], ◌∷◌, ◌++◌, pos, Ok}
use Rattle.floyd_text.specs.declared.place.Place.{Place}
use Rattle.floyd_tree_sorts.specs.declared.connectives.FormulaHead.{FormulaHead}
use Rattle.floyd_tree_sorts.specs.declared.connectives.FormulaHead.TheVariants as f
use Rattle.floyd_tree_sorts.specs.declared.connectives.StepShape.{StepShape}
use Rattle.floyd_tree_sorts.specs.declared.connectives.StepShape.TheVariants as step_shape
use Rattle.floyd_tree_sorts.specs.declared.heads.Head.TheVariants as h
use Rattle.floyd_tree_sorts.specs.declared.operators.Operator.TheVariants as o
use Rattle.floyd_tree_sorts.specs.declared.sorts.Sort.{Sort, Z}
use Rattle.floyd_tree.specs.declared.paths.PathStep.{PathStep}
use Rattle.floyd_tree.specs.declared.paths.PathStep.TheVariants as step
use Rattle.floyd_tree.specs.declared.stop.MakeStop.{MakeStop}
use Rattle.floyd_tree.specs.declared.stop.MakeStop.TheVariants.{IllSorted, TooLarge, Memory}
use Rattle.floyd_tree.specs.Formulas.{PlainFormula, Says, NoFormula, MoreFormulas}
use Rattle.floyd_tree.specs.MadeFormulas.{formula_fault_at}
use Rattle.floyd_tree.specs.Plain.{Plain, Done, plains}
use Rattle.floyd_tree.specs.Types.{SizedType}
use Rattle.floyd_termread_trees.specs.declared.written.Infix.{Infix}
use Rattle.floyd_termread_trees.specs.declared.written.Infix.TheVariants as i
use Rattle.floyd_termread_wants.specs.declared.wants.Wanted.{Wanted}
use Rattle.floyd_termread_wants.specs.declared.wants.Wanted.TheVariants as w
use Rattle.floyd_termread_wants.specs.Judging.{Judged, ◌>>=◌, refuse, cut_off}
use Rattle.floyd_termread_wants.specs.Making.{placed, leaf, two}
use Rattle.floyd_termread_wants.specs.Refusals.{ill_sorted, too_large}

-- a formula, unless it has a fault
abbrev pub without : Place → PlainFormula → Option MakeStop → Judged PlainFormula
without place x None = Ok x
without place x (Some IllSorted) = refuse (ill_sorted place)
without place x (Some TooLarge) = refuse (too_large place)
without place x (Some Memory) = cut_off

abbrev pub written : Place → PlainFormula → Judged PlainFormula
written place x = without place x (formula_fault_at x)

abbrev pub on_terms : FormulaHead → List Plain → PlainFormula
on_terms head ts = Says head (plains ts) NoFormula

abbrev pub on_one : FormulaHead → PlainFormula → PlainFormula
on_one head x = Says head Done (MoreFormulas x NoFormula)

abbrev pub on_two : FormulaHead → PlainFormula → PlainFormula → PlainFormula
on_two head x y = Says head Done (MoreFormulas x (MoreFormulas y NoFormula))

-- `not F` is `F -> False`
abbrev pub negation : PlainFormula → PlainFormula
negation x = on_two f.Implies x (on_terms f.False [])

-- Relations of two terms. `<` and `>` add 1 to the side that is to be less, and `>=` and `>` exchange the sides.
abbrev pub same_wanted : Option Sort → Wanted
same_wanted None = w.Any None
same_wanted (Some s) = w.This s

abbrev pub equal : Place → Plain → Plain → Judged PlainFormula
equal place t u = written place (on_terms f.Equal (t ∷ u ∷ []))

abbrev pub at_most : Place → Plain → Plain → Judged PlainFormula
at_most place t u = written place (on_terms f.AtMost (t ∷ u ∷ []))

-- one more than a number that begins here
abbrev pub one_more : Place → Plain → Judged Plain
one_more place t = placed (w.Any None) place (two o.Add t (leaf (h.Literal (pos 1))))

abbrev pub first_wanted : Infix → Option Wanted
first_wanted i.Equal = Some (w.Any None)
first_wanted i.Unequal = Some (w.Any None)
first_wanted i.AtMost = Some (w.This Z)
first_wanted i.Less = Some (w.This Z)
first_wanted i.AtLeast = Some (w.This Z)
first_wanted i.Greater = Some (w.This Z)
first_wanted rest = None

-- what a relation makes of its sides, which begin at these places
abbrev pub related : Infix → Place → Place → Plain → Plain → Judged PlainFormula
related i.Equal place right t u = equal place t u
related i.Unequal place right t u = equal place t u >>= λ x. written place (negation x)
related i.AtMost place right t u = at_most place t u
related i.Less place right t u = one_more place t >>= λ s. at_most place s u
related i.AtLeast place right t u = at_most place u t
related i.Greater place right t u = one_more right u >>= λ s. at_most place s t
related rest place right t u = cut_off

-- Formulas on a type: the terms are the sizes of its arrays, the subscripts of a path, and a value.
abbrev pub hasty : Place → SizedType → Plain → Judged PlainFormula
hasty place x v = written place (on_terms (f.Hasty x.shape) (x.sizes ++ v ∷ []))

abbrev pub step_shape_of : PathStep → StepShape
step_shape_of (step.Field x) = step_shape.Field x
step_shape_of (step.Subscript t) = step_shape.Subscript

abbrev pub step_shapes : List PathStep → List StepShape
step_shapes [] = []
step_shapes (x ∷ xs) = step_shape_of x ∷ step_shapes xs

abbrev pub subscripts_in : List PathStep → List Plain
subscripts_in [] = []
subscripts_in (step.Field x ∷ xs) = subscripts_in xs
subscripts_in (step.Subscript t ∷ xs) = t ∷ subscripts_in xs

abbrev pub compatible : Place → SizedType → List PathStep → Plain → Judged PlainFormula
compatible place x path v = written place (on_terms (f.Compatible x.shape (step_shapes path)) (x.sizes ++ subscripts_in path ++ v ∷ []))
