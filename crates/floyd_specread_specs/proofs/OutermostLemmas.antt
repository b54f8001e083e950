-- What names stand for under binders around which nothing is bound.
use Rattle.std.proofs.Common.{◌≡◌, ℕ, List, Option, None, ap, ◌∙◌}
use Rattle.std.proofs.Math.Path.{fun_ext}
use Rattle.std.specs.Option.{option_or}
use Rattle.floyd_tree_sorts.specs.declared.sorts.Sort.{Sort}
use Rattle.floyd_assert_trees.specs.declared.binder.Binder.{Binder}
use Rattle.floyd_termread.specs.Brackets.{outermost}
use Rattle.floyd_termread_scope.specs.declared.scope.Scope.{Scope}
use Rattle.floyd_termread_scope.specs.declared.variables.Variables.{Variables}
use Rattle.floyd_termread_scope.specs.Scopes.{env, sort_of}
use Rattle.floyd_termread_assertions.specs.Assertions.{under}
use Rattle.floyd_termread_assertions.specs.BoundClauses.{bound_by_all}
use Rattle.floyd_termread_assertions.proofs.BoundLemmas.{under_is}

unbound : (s : Scope) (b : Variables) → ((x : List ℕ) → sort_of b x ≡ None) → env s b ≡ outermost s
unbound s b nothing =
    ap (λ (v : List ℕ → Option Sort). record (outermost s) { variable = v })
    (fun_ext (λ x. ap (λ (o : Option Sort). option_or o (sort_of s.variables x)) (nothing x)))

pub under_outermost : (s : Scope) (xs : List Binder) (b c : Variables) → ((x : List ℕ) → sort_of b x ≡ None) → sort_of c ≡ bound_by_all xs (sort_of b) → env s c ≡ under xs (outermost s)
under_outermost s xs b c nothing bound = under_is s xs b c bound ∙ ap (under xs) (unbound s b nothing)
