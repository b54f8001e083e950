-- What holds of truth.
use Rattle.std.specs.Prelude.{◌≡◌, ◌↔◌, ℕ, Bool, true, ◌+◌, ◌<◌, ◌^◌, List, [], ◌∷◌, Option, Some, None, bytes_eq}
use Rattle.std.specs.Map.{lookup}
use Rattle.floyd_int.specs.declared.kinds.Value.{Value}
use Rattle.floyd_tree_sorts.specs.declared.sorts.Sort.{Sort}
use Rattle.floyd_tree.specs.Formulas.{PlainFormula, formula_size, well_sorted}
use Rattle.floyd_tree.specs.Plain.{Plain, size}
use Rattle.floyd_tree.specs.WellSorted.{sort_of}
use Rattle.floyd_tree_values.specs.BuiltIns.{Env}
use Rattle.floyd_tree_values.specs.Data.{Datum}
use Rattle.floyd_tree_values.specs.Means.{Defs, Means}
use Rattle.floyd_truth.specs.Replace.{puts, replaced, replaced_formula, SortsAgree, FormulaSortsAgree}
use Rattle.floyd_truth.specs.Same.{SameFormula}
use Rattle.floyd_truth.specs.Truth.{Truth}

-- Formulas that are equal up to bound names have one truth.
abbrev pub HaveOneTruth : Type 0
HaveOneTruth = (defs : Defs) (specs : List ℕ → Value → Bool) (env : Env) (f g : PlainFormula) → SameFormula f g → Truth defs specs env f ↔ Truth defs specs env g

-- the number of nodes of the terms
abbrev pub nodes : List (List ℕ × Plain) → ℕ
nodes [] = 0
nodes (p ∷ by) = size p.1 + nodes by

-- a datum is what a variable's term means, or what the variable means where it has no term
abbrev pub IsAfter : Defs → Env → Option Plain → Datum → Datum → Type 0
IsAfter defs env (Some t) before d = Means defs env t d
IsAfter defs env None before d = d ≡ before

-- the variables that have a term mean what it means, and the others what they meant
abbrev pub Changed : Defs → Env → List (List ℕ × Plain) → (List ℕ → Datum) → Type 0
Changed defs env by variables = (x : List ℕ) → IsAfter defs env (lookup (bytes_eq x) by) (env.variables x) (variables x)

-- The value of a well-sorted term after substitution is its value in the changed environment, where each new term has a
-- value and each occurrence of its variable has its sort.
abbrev pub MeansInChanged : Type 0
MeansInChanged = (defs : Defs) (env : Env) (by : List (List ℕ × Plain)) (variables : List ℕ → Datum) (t : Plain) (s : Sort) (d : Datum) → sort_of t ≡ Some s → Changed defs env by variables → SortsAgree (puts by) t → Means defs env (replaced (puts by) t) d ↔ Means defs (record env { variables = variables }) t d

-- The truth of a well-sorted formula after substitution is its truth in the changed environment, where each new term has a
-- value and each free occurrence of its variable has its sort. Fewer nodes than 2 ^ 63 stand in the formula and the terms.
abbrev pub TrueInChanged : Type 0
TrueInChanged = (defs : Defs) (specs : List ℕ → Value → Bool) (env : Env) (by : List (List ℕ × Plain)) (variables : List ℕ → Datum) (f : PlainFormula) → well_sorted f ≡ true → nodes by + formula_size f < 2 ^ 63 → Changed defs env by variables → FormulaSortsAgree (puts by) f → Truth defs specs env (replaced_formula (puts by) f) ↔ Truth defs specs (record env { variables = variables }) f
