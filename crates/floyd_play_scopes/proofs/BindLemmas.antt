-- What one variable makes of all.
use Rattle.std.proofs.Common.{◌≡◌, ℕ, cond, List, Some, None, bytes_eq, ap, ◌∙◌}
use Rattle.std.proofs.Math.Path.{fun_ext}
use Rattle.floyd_tree_sorts.specs.declared.sorts.Sort.{Sort}
use Rattle.floyd_assert_trees.specs.declared.binder.Binder.{Binder}
use Rattle.floyd_play_scopes.specs.GoalScopes.{Sorts, no_sorts, with_binder}

pub one_bound : (old new : Sorts) (x : Binder) (name : List ℕ) (s : Sort) → name ≡ x.name → s ≡ x.sort → ((y : List ℕ) → new y ≡ cond (bytes_eq name y) (Some s) (old y)) → new ≡ with_binder x old
one_bound old new x name s same sort h =
    fun_ext (λ y. h y ∙ ap (λ (z : List ℕ). cond (bytes_eq z y) (Some s) (old y)) same ∙ ap (λ (z : Sort). cond (bytes_eq x.name y) (Some z) (old y)) sort)

pub none_bound : (sorts : Sorts) → ((y : List ℕ) → sorts y ≡ None) → sorts ≡ no_sorts
none_bound sorts h = fun_ext h
