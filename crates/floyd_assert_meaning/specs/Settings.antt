-- What assertions speak about beside data, temporaries and memory.
use Rattle.std.specs.Prelude.{ℕ, Bool, List, [], ◌∷◌, map, pos, if◌then◌else◌, bytes_eq}
use Rattle.floyd_int.specs.declared.kinds.Value.{Value}
use Rattle.floyd_tree_sorts.specs.declared.sorts.Sort.{Sort}
use Rattle.floyd_tree_values.specs.BuiltIns.{Env}
use Rattle.floyd_tree_values.specs.Data.{Datum, Number, HaveSorts}
use Rattle.floyd_tree_values.specs.Means.{Defs}
use Rattle.floyd_truth.specs.Truth.{with_datum}
use Rattle.floyd_assert_trees.specs.declared.binder.Binder.{Binder}
use Rattle.floyd_assert_trees.specs.declared.items.Pred.{Pred}

-- The structs and FUNs, the PREDs by name, the block of each name of the file, which blocks are functions', and which
-- values are functions that were declared with the SPEC of a name.
pub record Setting : Type 0 where
  pub defs : Defs
  pub preds : List (List ℕ × Pred)
  pub block_of : List ℕ → ℕ
  pub is_function : ℕ → Bool
  pub has_spec : List ℕ → Value → Bool

-- data for variables, and the blocks of local variables
abbrev pub env_in : Setting → (List ℕ → Datum) → (List ℕ → ℕ) → Env
env_in S variables local = record { variables = variables; global = S.block_of; local = local }

abbrev pub binder_sorts : List Binder → List Sort
binder_sorts binders = map (λ (b : Binder). b.sort) binders

-- there is a datum for each variable, of its sort
abbrev pub AreFor : List Binder → List Datum → Type 0
AreFor binders ds = HaveSorts (binder_sorts binders) ds

-- with these data for the variables, one by one
abbrev pub with_data : Env → List Binder → List Datum → Env
with_data env [] ds = env
with_data env (b ∷ binders) [] = env
with_data env (b ∷ binders) (d ∷ ds) = with_data (with_datum env b.name d) binders ds

-- data for variables, with these for some of them, one by one
abbrev pub with_each : (List ℕ → Datum) → List Binder → List Datum → List ℕ → Datum
with_each f [] ds = f
with_each f (b ∷ binders) [] = f
with_each f (b ∷ binders) (d ∷ ds) = with_each (λ y. if bytes_eq y b.name then d else f y) binders ds

-- no variable, and no local variable of a function: what stands in a specification file mentions none
abbrev pub bare_env : Setting → Env
bare_env S = env_in S (λ x. Number (pos 0)) (λ x. 0)

-- data for the variables of an item of a specification file
abbrev pub item_env : Setting → List Binder → List Datum → Env
item_env S binders ds = with_data (bare_env S) binders ds
