-- What a law says of given terms, or why it says nothing.
use Rattle.std.specs.Prelude.{ℕ, Bool, true, false, ◌&&◌, if◌then◌else◌, List, [], ◌∷◌, ◌++◌, map, length, nat_eq, Option, Some, None, option_and_then, Result, Ok, Err}
use Rattle.floyd_text.specs.declared.code.Code.{Code}
use Rattle.floyd_text.specs.declared.code.Code.TheVariants as c
use Rattle.floyd_text.specs.declared.refusal.No.{No}
use Rattle.floyd_text.specs.declared.refusal.Shown.{Shown}
use Rattle.floyd_text.specs.declared.refusal.Shown.TheVariants.{Nothing, Count, Name}
use Rattle.floyd_tree_sorts.specs.declared.operators.RowSort.{RowSort}
use Rattle.floyd_tree_sorts.specs.declared.sorts.Sort.{Sort, Z}
use Rattle.floyd_tree_sorts.specs.Sorts.{same_sort}
use Rattle.floyd_tree_sorts.specs.Table.{found, s_in, written}
use Rattle.floyd_tree.specs.declared.stop.MakeStop.{MakeStop}
use Rattle.floyd_tree.specs.declared.stop.MakeStop.TheVariants as m
use Rattle.floyd_tree.specs.Formulas.{PlainFormula, formulas}
use Rattle.floyd_tree.specs.MadeFormulas.{formula_faults}
use Rattle.floyd_tree.specs.Plain.{Plain, plains}
use Rattle.floyd_tree.specs.WellSorted.{sorts_of}
use Rattle.floyd_listlaw.specs.declared.instance.Law.{Law}
use Rattle.floyd_listlaw.specs.declared.list_law.ListLaw.{ListLaw}
use Rattle.floyd_listlaw.specs.Names.{law_named}
use Rattle.floyd_listlaw.specs.Table.{Row, row}
use Rattle.floyd_listlaw.specs.Terms.{formula_with}

abbrev pub refused : {T : Type 0} → Code → Shown → Result T No
refused code shown = Err (record { code = code; shown = shown })

-- why a formula of a law is not made; memory is no refusal
abbrev pub stop_code : MakeStop → Code
stop_code m.IllSorted = c.IllSorted
stop_code m.TooLarge = c.TermTooLarge
stop_code m.Memory = c.TermTooLarge

-- what the row says of these terms, where `s` stands for S
abbrev pub says : Row → Sort → List Plain → Law
says r s terms = record { premises = map (formula_with s terms) r.premises; conclusion = formula_with s terms r.conclusion }

-- the premises in order, then the conclusion
abbrev pub formulas_in : Law → List PlainFormula
formulas_in law = law.premises ++ law.conclusion ∷ []

abbrev pub within : Option MakeStop → Law → Result Law No
within None law = Ok law
within (Some stop) law = refused (stop_code stop) Nothing

-- whether the sorts are those that the row writes
abbrev pub fit_all : Sort → List RowSort → List Sort → Bool
fit_all s [] [] = true
fit_all s (form ∷ forms) (sort ∷ sorts) = same_sort (written s Z form) sort && fit_all s forms sorts
fit_all s forms sorts = false

-- what stands for S, which the first argument that has it fixes; nothing where the sorts are not those that the row writes
abbrev pub fixed_by : List RowSort → List Sort → Option Sort
fixed_by forms sorts = let s = found s_in forms sorts in if fit_all s forms sorts then Some s else None

abbrev pub in_sort : Row → List Plain → Option Sort → Result Law No
in_sort r terms None = refused c.IllSorted Nothing
in_sort r terms (Some s) = let law = says r s terms in within (formula_faults (formulas (formulas_in law))) law

abbrev pub by_row : Row → List Plain → Result Law No
by_row r terms =
    if nat_eq (length terms) (length r.arguments) then in_sort r terms (option_and_then (fixed_by r.arguments) (sorts_of (plains terms)))
    else refused c.WithMismatch (Count (length terms))

abbrev pub by_law : List ℕ → List Plain → Option ListLaw → Result Law No
by_law name terms None = refused c.UnknownName (Name name)
by_law name terms (Some law) = by_row (row law) terms

-- the law of that name of these terms
abbrev pub instance : List ℕ → List Plain → Result Law No
instance name terms = by_law name terms (law_named name)
