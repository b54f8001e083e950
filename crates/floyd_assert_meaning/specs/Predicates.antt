-- What a call of a predicate (PRED) stands for: one assertion, or one for each constructor of the first argument.
use Rattle.std.specs.Prelude.{ℕ, List, [], ◌∷◌, ◌++◌, map, Option, Some, None, option_map, option_and_then, bytes_eq}
use Rattle.std.specs.Map.{lookup}
use Rattle.std.specs.Option.{option_or}
use Rattle.floyd_tree_values.specs.Data.{Datum}
use Rattle.floyd_tree_values.specs.Funs.{Bindings, bound, parts}
use Rattle.floyd_assert_trees.specs.declared.assertion.Assertion.{Assertion}
use Rattle.floyd_assert_trees.specs.declared.binder.Binder.{Binder}
use Rattle.floyd_assert_trees.specs.declared.items.Pred.{Pred}
use Rattle.floyd_assert_trees.specs.declared.items.PredBody.{PredBody}
use Rattle.floyd_assert_trees.specs.declared.items.PredBody.TheVariants.{Whole, Cases}
use Rattle.floyd_assert_trees.specs.declared.items.PredCase.{PredCase}
use Rattle.floyd_assert_trees.specs.Meanings.{pattern_of}

-- an assertion to be read with data for its variables
pub record Opened : Type 0 where
  pub bindings : Bindings
  pub body : Assertion

-- the case whose pattern fits the first argument
abbrev pub chosen : List PredCase → Datum → Bindings → Option Opened
chosen [] d arguments = None
chosen (c ∷ cases) d arguments =
    option_or (option_map (λ own. record { bindings = own ++ arguments; body = c.body }) (parts (pattern_of c.pattern) d)) (chosen cases d arguments)

abbrev pub opened_by : PredBody → List Datum → Bindings → Option Opened
opened_by (Whole a) ds arguments = Some (record { bindings = arguments; body = a })
opened_by (Cases cases) [] arguments = None
opened_by (Cases cases) (d ∷ ds) arguments = chosen cases d arguments

-- the arguments' names with these data
abbrev pub arguments_of : Pred → List Datum → Bindings
arguments_of p ds = bound (map (λ (b : Binder). (b.name, b.sort)) p.arguments) ds

abbrev pub opened : Pred → List Datum → Option Opened
opened p ds = opened_by p.body ds (arguments_of p ds)

-- what the predicate of that name stands for, of these data
abbrev pub called : List (List ℕ × Pred) → List ℕ → List Datum → Option Opened
called preds name ds = option_and_then (λ p. opened p ds) (lookup (bytes_eq name) preds)
