-- That simplifying keeps truth.
use Rattle.std.specs.Prelude.{◌≡◌, ◌↔◌, ℕ, Bool, List, Some, Ok}
use Rattle.floyd_int.specs.declared.kinds.Value.{Value}
use Rattle.floyd_tree.specs.Formulas.{PlainFormula}
use Rattle.floyd_tree.specs.Plain.{Plain}
use Rattle.floyd_tree_sorts.specs.declared.sorts.Sort.{Sort}
use Rattle.floyd_tree_values.specs.BuiltIns.{Env}
use Rattle.floyd_tree_values.specs.Data.{Datum}
use Rattle.floyd_tree_values.specs.Means.{Defs, Means}
use Rattle.floyd_tree_values.specs.Rules.{CallsOf, DefsKeep, Scope, Suits}
use Rattle.floyd_tree_values.specs.Rules as ru
use Rattle.floyd_truth.specs.Truth.{Truth}
use Rattle.floyd_goal_formulas.specs.Fits.{Fits}
use Rattle.floyd_simplifying.specs.Simplified.{formula_simplified, simplified}

-- where the FUNs keep the rules, and the data suit the scope, a well-formed term has its value as what it is simplified to
abbrev pub KeepsValue : Type 0
KeepsValue =
    (defs : Defs) (scope : Scope) (env : Env) (s : Sort) (t made : Plain) (d : Datum) → DefsKeep defs → Suits scope env → ru.Fits defs.structs scope (CallsOf defs.funs) s t → simplified t ≡ Ok (Some made) → Means defs env made d ↔ Means defs env t d

-- and a well-formed formula is true as what it is simplified to exactly where it was
abbrev pub SimplifyingKeeps : Type 0
SimplifyingKeeps =
    (defs : Defs) (specs : List ℕ → Value → Bool) (scope : Scope) (env : Env) (f made : PlainFormula) → DefsKeep defs → Suits scope env → Fits defs scope f → formula_simplified f ≡ Ok (Some made) → Truth defs specs env made ↔ Truth defs specs env f
