-- What names stand for where binders are bound.
use Rattle.std.proofs.Common.{◌≡◌, ℕ, Bool, true, false, cond, List, [], ◌∷◌, Option, Some, option_map, bytes_eq, refl, ap, ◌∙◌}
use Rattle.std.proofs.Math.Path.{fun_ext}
use Rattle.std.specs.Option.{option_or}
use Rattle.floyd_tree_sorts.specs.declared.sorts.Sort.{Sort}
use Rattle.floyd_assert_trees.specs.declared.binder.Binder.{Binder}
use Rattle.floyd_termread_scope.specs.declared.scope.Scope.{Scope}
use Rattle.floyd_termread_scope.specs.declared.variables.Variables.{Variables}
use Rattle.floyd_termread_scope.specs.Scopes.{Env, env, sort_of, with_variable}
use Rattle.floyd_termread_assertions.specs.Assertions.{under}
use Rattle.floyd_termread_assertions.specs.BoundClauses.{Sorts, bound_by, bound_by_all}

abbrev pub env_of : Scope → Sorts → Env
env_of s sorts = record {
  variable = λ x. option_or (sorts x) (sort_of s.variables x);
  defs = s.defs.now;
  specs = s.specs.now;
  locals = option_map (λ names. names.now) s.locals;
}

-- equal variables are one scope
pub same_env : (s : Scope) (b c : Variables) → sort_of b ≡ sort_of c → env s b ≡ env s c
same_env s b c e = ap (env_of s) e

or_of : (t : Bool) (s : Sort) (a b : Option Sort) → option_or (cond t (Some s) a) b ≡ cond t (Some s) (option_or a b)
or_of true s a b = refl
or_of false s a b = refl

under_one : (s : Scope) (x : Binder) (sorts : Sorts) → env_of s (bound_by x sorts) ≡ with_variable x.name x.sort (env_of s sorts)
under_one s x sorts =
    ap (λ (v : Sorts). record (env_of s sorts) { variable = v }) (fun_ext (λ y. or_of (bytes_eq x.name y) x.sort (sorts y) (sort_of s.variables y)))

pub under_all : (s : Scope) (xs : List Binder) (sorts : Sorts) → env_of s (bound_by_all xs sorts) ≡ under xs (env_of s sorts)
under_all s [] sorts = refl
under_all s (x ∷ xs) sorts = under_all s xs (bound_by x sorts) ∙ ap (under xs) (under_one s x sorts)

-- the scope under existentials
pub under_is : (s : Scope) (xs : List Binder) (b c : Variables) → sort_of c ≡ bound_by_all xs (sort_of b) → env s c ≡ under xs (env s b)
under_is s xs b c e = ap (env_of s) e ∙ under_all s xs (sort_of b)

-- what one variable makes of all
pub one_bound : (old new : Sorts) (x : Binder) (name : List ℕ) (s : Sort) → name ≡ x.name → s ≡ x.sort → ((y : List ℕ) → new y ≡ cond (bytes_eq name y) (Some s) (old y)) → new ≡ bound_by x old
one_bound old new x name s same sort h =
    fun_ext (λ y. h y ∙ ap (λ (z : List ℕ). cond (bytes_eq z y) (Some s) (old y)) same ∙ ap (λ (z : Sort). cond (bytes_eq x.name y) (Some z) (old y)) sort)
