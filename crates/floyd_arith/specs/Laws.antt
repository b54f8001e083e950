-- That a certificate proves its target.
use Rattle.std.specs.Prelude.{◌≡◌, ℕ, Bool, List, Ok}
use Rattle.floyd_int.specs.declared.kinds.Value.{Value}
use Rattle.floyd_tree_sorts.specs.declared.connectives.FormulaHead.TheVariants as f
use Rattle.floyd_tree_sorts.specs.declared.sorts.Sort.{Z}
use Rattle.floyd_tree.specs.declared.weights.Weight.{Weight}
use Rattle.floyd_tree.specs.Formulas.{PlainFormula, Says}
use Rattle.floyd_tree.specs.Plain.{Done, More}
use Rattle.floyd_tree_values.specs.BuiltIns.{Env}
use Rattle.floyd_tree_values.specs.Means.{Defs}
use Rattle.floyd_tree_values.specs.Rules.{Scope, Suits, Fits, CallsOf, DefsKeep}
use Rattle.floyd_truth.specs.Truth.{Truth, AllTrue}
use Rattle.floyd_arith.specs.Certificates.{certified}

-- an inequality whose sides are allowed terms of sort Z, or False
abbrev pub IsTarget : Defs → Scope → PlainFormula → Type 0
IsTarget defs scope (Says f.AtMost (More t (More u Done)) kids) =
    Fits defs.structs scope (CallsOf defs.funs) Z t × Fits defs.structs scope (CallsOf defs.funs) Z u
IsTarget defs scope (Says f.False Done kids) = Unit {0}
IsTarget defs scope formula = ⊥

-- Where the FUNs keep the rules, the target fits, the environment gives each variable a datum of its sort, and the
-- hypotheses are true, the target of a certificate is true.
abbrev pub CertificatesHold : Type 0
CertificatesHold =
    (defs : Defs) (specs : List ℕ → Value → Bool) (scope : Scope) (env : Env) (hypotheses : List PlainFormula) (target : PlainFormula) (weights : List Weight) → DefsKeep defs → Suits scope env → IsTarget defs scope target → certified hypotheses target weights ≡ Ok tt → AllTrue defs specs env hypotheses → Truth defs specs env target
