-- Certificates: weights under which what the hypotheses and the negated goal say adds up to what is false.
use Rattle.std.specs.Prelude.{ℕ, zero, suc, ◌&&◌, not, if◌then◌else◌, List, [], ◌∷◌, Bool, true, Option, Some, None, is_some, option_and_then, slice_get, Result, Ok, Err, ℤ, pos, int_lt}
use Rattle.std.specs.Ordering.{int_eq}
use Rattle.floyd_text.specs.declared.code.Code.{Code}
use Rattle.floyd_text.specs.declared.code.Code.TheVariants as c
use Rattle.floyd_text.specs.declared.refusal.No.{No}
use Rattle.floyd_text.specs.declared.refusal.Shown.{Shown}
use Rattle.floyd_text.specs.declared.refusal.Shown.TheVariants.{Nothing, Hypothesis}
use Rattle.floyd_tree_sorts.specs.declared.connectives.FormulaHead.TheVariants as f
use Rattle.floyd_tree_sorts.specs.declared.heads.Head.TheVariants.{Literal, Operator}
use Rattle.floyd_tree_sorts.specs.declared.operators.Operator.TheVariants.{Sub}
use Rattle.floyd_tree_sorts.specs.declared.sorts.Sort.{Sort}
use Rattle.floyd_tree_sorts.specs.Sorts.{is_z}
use Rattle.floyd_tree.specs.declared.weights.Weight.{Weight}
use Rattle.floyd_tree.specs.Formulas.{PlainFormula, Says}
use Rattle.floyd_tree.specs.Plain.{Plain, At, Done, More}
use Rattle.floyd_tree.specs.WellSorted.{sort_of}
use Rattle.floyd_arith.specs.declared.unknowns.Linear.{Linear}
use Rattle.floyd_arith.specs.declared.unknowns.Unknown.{Unknown}
use Rattle.floyd_arith.specs.Linear.{constant, scaled, plus, within, linear_of}

abbrev pub difference : Plain → Plain → Plain
difference a b = At (Operator Sub) (More a (More b Done))

-- what a formula says of a difference: that it is at least 0, or that it is 0
pub data Fact : Type 0 where
  NotNegative : (difference : Plain) → Fact
  IsZero : (difference : Plain) → Fact

abbrev pub difference_of : Fact → Plain
difference_of (NotNegative d) = d
difference_of (IsZero d) = d

-- an equation of terms of this sort: only one of numbers says something
abbrev pub of_equation : Option Sort → Plain → Plain → Option Fact
of_equation None t u = None
of_equation (Some s) t u = if is_z s then Some (IsZero (difference t u)) else None

-- t <= u says u - t >= 0, and t = u says t - u = 0; another formula says nothing
abbrev pub fact_of : PlainFormula → Option Fact
fact_of (Says f.AtMost (More t (More u Done)) kids) = Some (NotNegative (difference u t))
fact_of (Says f.Equal (More t (More u Done)) kids) = of_equation (sort_of t) t u
fact_of formula = None

-- the negation of t <= u says t - u - 1 >= 0; that of False, or of another formula, says nothing
abbrev pub negation_of : PlainFormula → Option Fact
negation_of (Says f.AtMost (More t (More u Done)) kids) = Some (NotNegative (difference (difference t u) (At (Literal (pos 1)) Done)))
negation_of formula = None

-- what the hypothesis of that number says, from 1; 0 is the negated goal
abbrev pub fact_at : List PlainFormula → PlainFormula → ℕ → Option Fact
fact_at hypotheses target zero = negation_of target
fact_at hypotheses target (suc n) = option_and_then fact_of (slice_get hypotheses n)

-- the first weight whose formula is absent or says nothing
abbrev pub first_absent : List PlainFormula → PlainFormula → List Weight → Option ℕ
first_absent hypotheses target [] = None
first_absent hypotheses target (w ∷ weights) =
    if is_some (fact_at hypotheses target w.hypothesis) then first_absent hypotheses target weights else Some w.hypothesis

-- no inequality has a negative weight
abbrev pub may_weigh : Option Fact → ℤ → Bool
may_weigh (Some (NotNegative d)) weight = not (int_lt weight (pos 0))
may_weigh fact weight = true

abbrev pub first_negative : List PlainFormula → PlainFormula → List Weight → Option ℕ
first_negative hypotheses target [] = None
first_negative hypotheses target (w ∷ weights) =
    if may_weigh (fact_at hypotheses target w.hypothesis) w.weight then first_negative hypotheses target weights else Some w.hypothesis

-- the difference that a formula speaks of; there is none where a number of it reaches the bound
abbrev pub difference_at : List PlainFormula → PlainFormula → ℕ → Option Linear
difference_at hypotheses target n = option_and_then (λ fact. linear_of (difference_of fact)) (fact_at hypotheses target n)

-- a sum and a difference with its weight
abbrev pub onto : Linear → ℤ → Linear → Option Linear
onto sum weight d = within (plus sum (scaled weight d))

-- a sum with the differences of these weights, one after the other; there is none where a partial sum reaches the bound
abbrev pub summed : List PlainFormula → PlainFormula → Linear → List Weight → Option Linear
summed hypotheses target sum [] = Some sum
summed hypotheses target sum (w ∷ weights) =
    option_and_then (λ next. summed hypotheses target next weights) (option_and_then (onto sum w.weight) (difference_at hypotheses target w.hypothesis))

abbrev pub all_cancel : List Unknown → Bool
all_cancel [] = true
all_cancel (u ∷ unknowns) = int_eq u.coefficient (pos 0) && all_cancel unknowns

-- a constant below 0
abbrev pub is_false : Linear → Bool
is_false sum = all_cancel sum.unknowns && int_lt sum.constant (pos 0)

abbrev pub refused : {T : Type 0} → Code → Shown → Result T No
refused code shown = Err (record { code = code; shown = shown })

abbrev pub by_sum : Option Linear → Result (Unit {0}) No
by_sum None = refused c.Overflow Nothing
by_sum (Some sum) = if is_false sum then Ok tt else refused c.NotRefuted Nothing

abbrev pub by_signs : Option ℕ → Option Linear → Result (Unit {0}) No
by_signs (Some hypothesis) sum = refused c.Negative (Hypothesis hypothesis)
by_signs None sum = by_sum sum

abbrev pub by_names : Option ℕ → Option ℕ → Option Linear → Result (Unit {0}) No
by_names (Some hypothesis) negative sum = refused c.BadIndex (Hypothesis hypothesis)
by_names None negative sum = by_signs negative sum

-- the refusals in this order: a formula that is absent or says nothing, a negative weight on an inequality, a number that
-- reaches the bound, a sum that is not a constant below 0
abbrev pub certified : List PlainFormula → PlainFormula → List Weight → Result (Unit {0}) No
certified hypotheses target weights =
    by_names (first_absent hypotheses target weights) (first_negative hypotheses target weights) (summed hypotheses target (constant (pos 0)) weights)

abbrev pub or_refused : Option Linear → Result Linear No
or_refused None = refused c.Overflow Nothing
or_refused (Some a) = Ok a

-- the linear term, or the refusal where a number reaches the bound
abbrev pub linear_or_refused : Plain → Result Linear No
linear_or_refused t = or_refused (linear_of t)
