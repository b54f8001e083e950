-- That formulas that need no proof are true, and that others need be proved alone.
use Rattle.std.specs.Prelude.{ℕ, Bool, List, All}
use Rattle.floyd_int.specs.declared.kinds.Value.{Value}
use Rattle.floyd_tree.specs.Formulas.{PlainFormula}
use Rattle.floyd_tree_values.specs.BuiltIns.{Env}
use Rattle.floyd_tree_values.specs.Means.{Defs}
use Rattle.floyd_tree_values.specs.Rules.{Scope, Suits, DefsKeep}
use Rattle.floyd_truth.specs.Truth.{Truth, AllTrue}
use Rattle.floyd_goal_formulas.specs.Drops.{Drops}
use Rattle.floyd_goal_formulas.specs.Fits.{Fits}
use Rattle.floyd_goal_formulas.specs.Keeping.{Kept}

-- Where the FUNs keep the rules, the environment gives each variable a datum of its sort, and the hypotheses are true, a
-- well-formed formula that needs no proof under them is true.
abbrev pub DropsHold : Type 0
DropsHold =
    (defs : Defs) (specs : List ℕ → Value → Bool) (scope : Scope) (env : Env) (hs : List PlainFormula) (f : PlainFormula) → DefsKeep defs → Suits scope env → Fits defs scope f → Drops hs f → AllTrue defs specs env hs → Truth defs specs env f

-- So all of the formulas are true where those that need a proof are.
abbrev pub KeptHold : Type 0
KeptHold =
    (defs : Defs) (specs : List ℕ → Value → Bool) (scope : Scope) (env : Env) (hs fs kept : List PlainFormula) → DefsKeep defs → Suits scope env → All (Fits defs scope) fs → Kept hs fs kept → AllTrue defs specs env hs → AllTrue defs specs env kept → AllTrue defs specs env fs
