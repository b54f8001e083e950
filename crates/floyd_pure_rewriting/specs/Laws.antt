-- That rewriting keeps truth.
use Rattle.std.specs.Prelude.{◌≡◌, ◌↔◌, ℕ, Bool, true, List, Some, Ok}
use Rattle.floyd_int.specs.declared.kinds.Value.{Value}
use Rattle.floyd_tree_sorts.specs.declared.sorts.Sort.{Sort}
use Rattle.floyd_tree.specs.Formulas.{PlainFormula, well_sorted}
use Rattle.floyd_tree.specs.Made.{fits}
use Rattle.floyd_tree.specs.Plain.{Plain}
use Rattle.floyd_tree.specs.WellSorted.{sort_of}
use Rattle.floyd_tree_values.specs.BuiltIns.{Env}
use Rattle.floyd_tree_values.specs.Data.{Datum}
use Rattle.floyd_tree_values.specs.Means.{Defs, Means}
use Rattle.floyd_truth.specs.Truth.{Truth}
use Rattle.floyd_rewriting.specs.Rewritten.{formula_rewritten}

-- Where both terms are of one sort and within the limits, and have one value, a well-sorted formula is true after the rewriting
-- exactly where it was.
abbrev pub RewritingKeeps : Type 0
RewritingKeeps =
    (defs : Defs) (specs : List ℕ → Value → Bool) (env : Env) (from to : Plain) (s : Sort) (d : Datum) (f made : PlainFormula) → sort_of from ≡ Some s → sort_of to ≡ Some s → fits from ≡ true → fits to ≡ true → Means defs env from d → Means defs env to d → well_sorted f ≡ true → formula_rewritten from to f ≡ Ok (Some made) → Truth defs specs env made ↔ Truth defs specs env f
