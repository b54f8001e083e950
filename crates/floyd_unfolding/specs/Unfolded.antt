-- Terms and formulas in which each call of a FUN is replaced by its meaning, from the leaves up. There is nothing where nothing
-- changes.
use Rattle.std.specs.Prelude.{ℕ, bytes_eq, if◌then◌else◌, List, Option, Some, None, Result, Ok, Err}
use Rattle.std.specs.Option.{unwrap_or}
use Rattle.floyd_text.specs.declared.refusal.No.{No}
use Rattle.floyd_tree_sorts.specs.declared.connectives.FormulaHead.{FormulaHead}
use Rattle.floyd_tree_sorts.specs.declared.heads.Head.{Head}
use Rattle.floyd_tree_sorts.specs.declared.heads.Head.TheVariants as h
use Rattle.floyd_tree.specs.Formulas.{PlainFormula, PlainFormulas, Says, NoFormula, MoreFormulas}
use Rattle.floyd_tree.specs.Plain.{Plain, Plains, At, Done, More, listed}
use Rattle.floyd_assert_trees.specs.declared.items.Fun.{Fun}
use Rattle.floyd_fieldpath.specs.Written.{written}
use Rattle.floyd_simplifying.specs.Simplified.{Step, both, formula_written, some_of}
use Rattle.floyd_unfolding.specs.Calls.{meaning}

-- the node over changed kids, where it is no call with a meaning
abbrev pub or_node : Plain → Step → Step
or_node node (Ok None) = some_of (written node)
or_node node made = made

abbrev pub some_formula : Result PlainFormula No → Result (Option PlainFormula) No
some_formula (Ok f) = Ok (Some f)
some_formula (Err refusal) = Err refusal

-- of the FUN of this name
module _ (name : List ℕ) (own : Fun) where
  -- a call of it, whose kids are looked at already
  abbrev pub step : Head → List Plain → Step
  step (h.Fun n sorts s) kids = if bytes_eq n name then meaning own kids else Ok None
  step head kids = Ok None

  abbrev pub node_over : Head → Plains → Step
  node_over head ts = or_node (At head ts) (step head (listed ts))

  abbrev pub over_kids : Head → Plains → Result (Option Plains) No → Step
  over_kids head kids (Err refusal) = Err refusal
  over_kids head kids (Ok None) = step head (listed kids)
  over_kids head kids (Ok (Some ts)) = node_over head ts

  abbrev mutual
    pub unfolded : Plain → Step
    unfolded (At head kids) = over_kids head kids (unfolded_in kids)

    pub unfolded_in : Plains → Result (Option Plains) No
    unfolded_in Done = Ok None
    unfolded_in (More t ts) = both More t ts (unfolded t) (unfolded_in ts)

  abbrev pub over_both : FormulaHead → Plains → PlainFormulas → Result (Option Plains) No → Result (Option PlainFormulas) No → Result (Option PlainFormula) No
  over_both head terms kids (Err refusal) fs = Err refusal
  over_both head terms kids (Ok ts) (Err refusal) = Err refusal
  over_both head terms kids (Ok None) (Ok None) = Ok None
  over_both head terms kids (Ok None) (Ok (Some fs)) = some_formula (formula_written (Says head terms fs))
  over_both head terms kids (Ok (Some ts)) (Ok fs) = some_formula (formula_written (Says head ts (unwrap_or fs kids)))

  -- those under binders too
  abbrev mutual
    pub formula_unfolded : PlainFormula → Result (Option PlainFormula) No
    formula_unfolded (Says head terms kids) = over_both head terms kids (unfolded_in terms) (formulas_unfolded kids)

    pub formulas_unfolded : PlainFormulas → Result (Option PlainFormulas) No
    formulas_unfolded NoFormula = Ok None
    formulas_unfolded (MoreFormulas f fs) = both MoreFormulas f fs (formula_unfolded f) (formulas_unfolded fs)
