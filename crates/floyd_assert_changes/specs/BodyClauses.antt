-- What a new existential would capture, and the names that are collected for it.
use Rattle.std.specs.Prelude.{ℕ, Bool, not, ◌&&◌, List, [], ◌∷◌, bytes_eq}
use Rattle.std.specs.Map.{lookup}
use Rattle.floyd_truth.specs.Capture.{Becomes, Changes, brings}
use Rattle.floyd_assert_trees.specs.declared.assertion.Assertion.{Assertion}
use Rattle.floyd_assert_trees.specs.declared.binder.Binder.{Binder}
use Rattle.floyd_assert_changes.specs.Changed.{body_mentions, has_name}
use Rattle.floyd_assert_changes.specs.NamesClauses.{Names, with_name}

-- the variable is replaced by a term in which x is free, and is free in the assertion and another one than x
abbrev pub captured_in : Changes → Assertion → List ℕ → List ℕ → Bool
captured_in whole a x v = brings x (lookup (bytes_eq v) whole) && (not (bytes_eq x v) && (body_mentions a v && not (has_name v a.existentials)))

abbrev pub body_capturing : Changes → Assertion → List ℕ → List ℕ × Becomes → Bool
body_capturing whole a x change = captured_in whole a x change.0

abbrev pub binders_names : List Binder → Names → Names
binders_names [] names = names
binders_names (b ∷ binders) names = binders_names binders (with_name b.name names)
