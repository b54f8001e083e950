-- Terms and formulas, simplified from their leaves up. There is nothing where nothing changes.
use Rattle.std.specs.Prelude.{ℤ, pos, Bool, true, false, if◌then◌else◌, length, List, reverse, Option, Some, None, option_and_then, option_map, Result, Ok, Err}
use Rattle.std.specs.Option.{unwrap_or}
use Rattle.floyd_text.specs.declared.refusal.No.{No}
use Rattle.floyd_tree_sorts.specs.declared.connectives.FormulaHead.{FormulaHead}
use Rattle.floyd_tree_sorts.specs.declared.connectives.FormulaHead.TheVariants as f
use Rattle.floyd_tree_sorts.specs.declared.heads.Head.{Head}
use Rattle.floyd_tree_sorts.specs.declared.heads.Head.TheVariants as h
use Rattle.floyd_tree_sorts.specs.declared.operators.Operator.{Operator}
use Rattle.floyd_tree_sorts.specs.declared.operators.Operator.TheVariants.{Len, Rev, Sum, Nth, Append}
use Rattle.floyd_tree.specs.Formulas.{PlainFormula, PlainFormulas, Says, NoFormula, MoreFormulas, well_sorted}
use Rattle.floyd_tree.specs.MadeFormulas.{formula_fits}
use Rattle.floyd_tree.specs.Plain.{Plain, Plains, At, Done, More}
use Rattle.floyd_arith.specs.Same.{same_term}
use Rattle.floyd_fieldpath.specs.Nested.{literal}
use Rattle.floyd_fieldpath.specs.Sums.{literal_in, small}
use Rattle.floyd_fieldpath.specs.Written.{ill_sorted, on_ok, too_large, written}
use Rattle.floyd_folding.specs.Folding.{number_of_one, number_of_two, of_literals}
use Rattle.floyd_simplifying.specs.WrittenLists.{chained, end_of, item_at, items_of, numbers_of, total}

-- what takes the place of a node, if anything does; what is made may be too large
abbrev pub Step : Type 0
Step = Result (Option Plain) No

abbrev pub literal_step : Option ℤ → Step
literal_step None = Ok None
literal_step (Some z) = Ok (Some (literal z))

abbrev pub some_of : Result Plain No → Step
some_of (Ok t) = Ok (Some t)
some_of (Err refusal) = Err refusal

-- what is made of the items, where the list is written out
abbrev pub of_items : Option (List Plain) → (List Plain → Result Plain No) → Step
of_items None make = Ok None
of_items (Some items) make = some_of (make items)

-- the literal that a head gives of a literal, if it gives one that is small
abbrev pub folded_one : Head → Plain → Step
folded_one head a = literal_step (small (option_and_then (number_of_one head) (literal_in a)))

abbrev pub folded_two : Operator → Plain → Plain → Step
folded_two operator a b = literal_step (small (of_literals (number_of_two operator) (literal_in a) (literal_in b)))

-- of one kid: `len` and `rev` of a list that is written out, `sum` of literals, and operators on a literal
abbrev pub step_of_operator : Operator → Plain → Step
step_of_operator Len a = of_items (items_of a) (λ items. Ok (literal (pos (length items))))
step_of_operator Rev a = of_items (items_of a) (λ items. chained (reverse items) (end_of a))
step_of_operator Sum a = literal_step (small (option_map total (option_and_then numbers_of (items_of a))))
step_of_operator operator a = folded_one (h.Operator operator) a

abbrev pub step_of_one : Head → Plain → Step
step_of_one (h.Operator operator) a = step_of_operator operator a
step_of_one head a = folded_one head a

-- the item at a place that is a literal
abbrev pub item_step : Option ℤ → Plain → Step
item_step None b = Ok None
item_step (Some z) b = of_items (items_of b) (λ items. item_at z items (end_of b))

-- of two kids: `++` with a left side that is written out, `nth` of a literal in such a list, and operators on literals
abbrev pub step_of_operators : Operator → Plain → Plain → Step
step_of_operators Append a b = of_items (items_of a) (λ items. chained items b)
step_of_operators Nth a b = item_step (literal_in a) b
step_of_operators operator a b = folded_two operator a b

abbrev pub step_of_two : Head → Plain → Plain → Step
step_of_two (h.Operator operator) a b = step_of_operators operator a b
step_of_two head a b = Ok None

abbrev pub step : Plain → Step
step (At head Done) = Ok None
step (At head (More a Done)) = step_of_one head a
step (At head (More a (More b Done))) = step_of_two head a b
step (At head (More a (More b (More c ts)))) = Ok None

-- a node over new kids, and what takes its place
abbrev pub behind : Plain → Step → Step
behind node (Ok None) = Ok (Some node)
behind node made = made

abbrev pub node_over : Head → Plains → Step
node_over head ts = on_ok (written (At head ts)) (λ node. behind node (step node))

abbrev pub over_kids : Head → Plains → Result (Option Plains) No → Step
over_kids head kids (Err refusal) = Err refusal
over_kids head kids (Ok None) = step (At head kids)
over_kids head kids (Ok (Some ts)) = node_over head ts

-- a first one and others, of which those that do not change stay
abbrev pub both : {A B C : Type 0} → (A → B → C) → A → B → Result (Option A) No → Result (Option B) No → Result (Option C) No
both make a b (Err refusal) rest = Err refusal
both make a b (Ok first) (Err refusal) = Err refusal
both make a b (Ok None) (Ok None) = Ok None
both make a b (Ok None) (Ok (Some rest)) = Ok (Some (make a rest))
both make a b (Ok (Some first)) (Ok rest) = Ok (Some (make first (unwrap_or rest b)))

abbrev mutual
  pub simplified : Plain → Step
  simplified (At head kids) = over_kids head kids (simplified_in kids)

  pub simplified_in : Plains → Result (Option Plains) No
  simplified_in Done = Ok None
  simplified_in (More t ts) = both More t ts (simplified t) (simplified_in ts)

-- an equation with identical sides is True
abbrev pub is_identity : PlainFormula → Bool
is_identity (Says f.Equal (More a (More b Done)) kids) = same_term a b
is_identity formula = false

abbrev pub truth : PlainFormula
truth = Says f.True Done NoFormula

-- the formula, or True in its place; where neither it nor what stands below it changes there is nothing
abbrev pub true_or : Bool → PlainFormula → Option PlainFormula
true_or changed formula = if is_identity formula then Some truth else (if changed then Some formula else None)

-- the formula, unless it cannot be made
abbrev pub formula_written : PlainFormula → Result PlainFormula No
formula_written formula = if well_sorted formula then (if formula_fits formula then Ok formula else Err too_large) else Err ill_sorted

abbrev pub formula_over : PlainFormula → Result (Option PlainFormula) No
formula_over formula = on_ok (formula_written formula) (λ made. Ok (true_or true made))

abbrev pub over_both : FormulaHead → Plains → PlainFormulas → Result (Option Plains) No → Result (Option PlainFormulas) No → Result (Option PlainFormula) No
over_both head terms kids (Err refusal) fs = Err refusal
over_both head terms kids (Ok ts) (Err refusal) = Err refusal
over_both head terms kids (Ok None) (Ok None) = Ok (true_or false (Says head terms kids))
over_both head terms kids (Ok None) (Ok (Some fs)) = formula_over (Says head terms fs)
over_both head terms kids (Ok (Some ts)) (Ok fs) = formula_over (Says head ts (unwrap_or fs kids))

-- those under binders too
abbrev mutual
  pub formula_simplified : PlainFormula → Result (Option PlainFormula) No
  formula_simplified (Says head terms kids) = over_both head terms kids (simplified_in terms) (formulas_simplified kids)

  pub formulas_simplified : PlainFormulas → Result (Option PlainFormulas) No
  formulas_simplified NoFormula = Ok None
  formulas_simplified (MoreFormulas f fs) = both MoreFormulas f fs (formula_simplified f) (formulas_simplified fs)
