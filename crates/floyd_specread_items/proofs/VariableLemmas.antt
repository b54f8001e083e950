-- What names stand for among the variables of an item.
use Rattle.std.proofs.Common.{◌≡◌, ℕ, List, None, refl, ap, ◌∙◌}
use Rattle.std.proofs.Math.Path.{fun_ext}
use Rattle.floyd_assert_trees.specs.declared.binder.Binder.{Binder}
use Rattle.floyd_assert_trees.specs.declared.pattern.Pattern.{Pattern}
use Rattle.floyd_termread.specs.Brackets.{outermost}
use Rattle.floyd_termread_scope.specs.declared.scope.Scope.{Scope}
use Rattle.floyd_termread_scope.specs.declared.variables.Variables.{Variables}
use Rattle.floyd_termread_scope.specs.Scopes.{env, sort_of}
use Rattle.floyd_termread_assertions.specs.Assertions.{under}
use Rattle.floyd_termread_assertions.specs.BoundClauses.{bound_by_all}
use Rattle.floyd_termread_assertions.proofs.BoundLemmas.{env_of, under_all}
use Rattle.floyd_specread_patterns.specs.Binders.{pattern_binders}
use Rattle.floyd_specread_items.specs.VariableClauses.{nothing, argument_sorts, case_sorts}

-- binders that are bound where nothing is
pub from_nothing : (xs : List Binder) (b c : Variables) → ((x : List ℕ) → sort_of b x ≡ None) → sort_of c ≡ bound_by_all xs (sort_of b) → sort_of c ≡ argument_sorts xs
from_nothing xs b c none bound = bound ∙ ap (bound_by_all xs) (fun_ext none)

outermost_is : (s : Scope) → env_of s nothing ≡ outermost s
outermost_is s = refl

under_arguments : (s : Scope) (xs : List Binder) → env_of s (argument_sorts xs) ≡ under xs (outermost s)
under_arguments s xs = under_all s xs nothing ∙ ap (under xs) (outermost_is s)

pub argument_env : (s : Scope) (xs : List Binder) (b : Variables) → sort_of b ≡ argument_sorts xs → env s b ≡ under xs (outermost s)
argument_env s xs b is = ap (env_of s) is ∙ under_arguments s xs

pub case_env : (s : Scope) (xs : List Binder) (which : Pattern) (b : Variables) → sort_of b ≡ case_sorts xs which → env s b ≡ under (pattern_binders xs which) (under xs (outermost s))
case_env s xs which b is =
    ap (env_of s) is ∙ under_all s (pattern_binders xs which) (argument_sorts xs) ∙ ap (under (pattern_binders xs which)) (under_arguments s xs)
