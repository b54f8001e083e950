-- Formulas that a row writes.
use Rattle.std.specs.Prelude.{◌≡◌, Bool, true, if◌then◌else◌, is_some, List, Result, Ok, Err}
use Rattle.std.specs.List.{list_any}
use Rattle.floyd_text.specs.declared.refusal.No.{No}
use Rattle.floyd_text.specs.declared.refusal.RuleStop.{RuleStop}
use Rattle.floyd_text.specs.declared.refusal.RuleStop.TheVariants as r
use Rattle.floyd_tree_sorts.specs.declared.connectives.FormulaHead.TheVariants.{AtMost, Equal, IsPtr}
use Rattle.floyd_tree.specs.Formulas.{PlainFormula, Says, NoFormula}
use Rattle.floyd_tree.specs.MadeFormulas.{formula_fault_at}
use Rattle.floyd_tree.specs.Plain.{Plain, Done, More}
use Rattle.floyd_goal_formulas.specs.Keeping.{too_large}

abbrev pub is_pointer : Plain → PlainFormula
is_pointer v = Says IsPtr (More v Done) NoFormula

abbrev pub equation : Plain → Plain → PlainFormula
equation a b = Says Equal (More a (More b Done)) NoFormula

abbrev pub at_most : Plain → Plain → PlainFormula
at_most a b = Says AtMost (More a (More b Done)) NoFormula

-- whether the formula cannot be made of its terms
abbrev pub is_faulty : PlainFormula → Bool
is_faulty f = is_some (formula_fault_at f)

-- the formulas, unless one of them cannot be made
abbrev pub all_written : List PlainFormula → Result (List PlainFormula) No
all_written fs = if list_any is_faulty fs then Err too_large else Ok fs

-- what stopped a call is that this is so, unless memory ran out
abbrev pub StopsAs : RuleStop → Bool → Type 0
StopsAs (r.No why) faulty = (why ≡ too_large) × (faulty ≡ true)
StopsAs r.Memory faulty = Unit {0}
