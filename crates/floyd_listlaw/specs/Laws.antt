-- That the laws are true.
use Rattle.std.specs.Prelude.{◌≡◌, ℕ, Bool, List, All, Ok}
use Rattle.floyd_int.specs.declared.kinds.Value.{Value}
use Rattle.floyd_tree_sorts.specs.declared.sorts.Sort.{Sort}
use Rattle.floyd_tree.specs.Plain.{Plain}
use Rattle.floyd_tree_values.specs.BuiltIns.{Env}
use Rattle.floyd_tree_values.specs.Means.{Defs}
use Rattle.floyd_tree_values.specs.Rules.{Scope, Suits, Fits, CallsOf, DefsKeep}
use Rattle.floyd_truth.specs.Truth.{Truth, AllTrue}
use Rattle.floyd_listlaw.specs.declared.instance.Law.{Law}
use Rattle.floyd_listlaw.specs.Instances.{instance}

-- the term is of some sort, and each of its nodes is allowed
abbrev pub IsTerm : Defs → Scope → Plain → Type 0
IsTerm defs scope t = (s : Sort) × Fits defs.structs scope (CallsOf defs.funs) s t

-- Where the FUNs keep the rules, the terms fit, the environment gives each variable a datum of its sort, and the premises are
-- true, the conclusion is true.
abbrev pub HoldsFor : List Plain → Law → Type 0
HoldsFor terms law =
    (defs : Defs) (specs : List ℕ → Value → Bool) (scope : Scope) (env : Env) → DefsKeep defs → Suits scope env → All (IsTerm defs scope) terms → AllTrue defs specs env law.premises → Truth defs specs env law.conclusion

-- what a law says of terms holds
abbrev pub LawsHold : Type 0
LawsHold = (name : List ℕ) (terms : List Plain) (law : Law) → instance name terms ≡ Ok law → HoldsFor terms law
