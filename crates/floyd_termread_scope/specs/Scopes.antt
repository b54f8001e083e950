-- What names stand for.
use Rattle.std.specs.Prelude.{ℕ, Bool, false, cond, List, Option, Some, None, option_map, is_some, bytes_eq}
use Rattle.std.specs.Option.{option_or}
use Rattle.std.specs.Map.{lookup}
use Rattle.indexmap.specs.IndexMap.{get}
use Rattle.floyd_tree_sorts.specs.declared.sorts.Sort.{Sort}
use Rattle.floyd_assert_trees.specs.declared.items.Defs.{Defs}
use Rattle.floyd_assert_trees.specs.declared.spec.Funspec.{Funspec}
use Rattle.floyd_termread_scope.specs.declared.scope.Scope.{Scope}
use Rattle.floyd_termread_scope.specs.declared.variables.Variables.{Variables}

abbrev pub Named : Type 0 → Type 0
Named A = List (List ℕ × A)

abbrev pub is_among : {A : Type 0} → Named A → List ℕ → Bool
is_among names x = is_some (lookup (bytes_eq x) names)

-- whether `lv` may take the name; it may not where it may not stand
abbrev pub is_local : Option (Named (Unit {0})) → List ℕ → Bool
is_local None x = false
is_local (Some names) x = is_among names x

-- the sort of a variable
abbrev pub sort_of : Variables → List ℕ → Option Sort
sort_of variables x = get bytes_eq variables.sorts x

-- what the names of a term or a formula stand for
pub record Env : Type 0 where
  pub variable : List ℕ → Option Sort
  pub defs : Defs
  pub specs : Named Funspec
  pub locals : Option (Named (Unit {0}))

-- .. where some variables are bound, which hide others
abbrev pub env : Scope → Variables → Env
env scope bound = record {
  variable = λ x. option_or (sort_of bound x) (sort_of scope.variables x);
  defs = scope.defs.now;
  specs = scope.specs.now;
  locals = option_map (λ names. names.now) scope.locals;
}

-- with one more variable, which hides one of the same name
abbrev pub with_variable : List ℕ → Sort → Env → Env
with_variable x s e = record e { variable = λ y. cond (bytes_eq x y) (Some s) (e.variable y) }
