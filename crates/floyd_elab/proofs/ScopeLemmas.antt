-- The one scope of a file.
use Rattle.std.proofs.Common.{◌≡◌, ℕ, List, [], ◌∷◌, ◌++◌, Option, None, Some, bytes_eq, refl, ap, sym, ◌∙◌}
use Rattle.std.specs.Option.{option_or}
use Rattle.std.specs.Map.{lookup}
use Rattle.floyd_ctypes.specs.declared.ctype.CType.{CType}
use Rattle.floyd_elab_names.specs.declared.meaning.Meaning.{Meaning}
use Rattle.floyd_elab_names.specs.declared.meaning.Meaning.TheVariants as m
use Rattle.floyd_elab_names.specs.declared.meaning.Storage.TheVariants as kept
use Rattle.floyd_elab_names.specs.Scopes.{Scope, Scopes, meaning_of, enter, with_meaning}
use Rattle.floyd_elab.specs.Files.{is_again}
use Rattle.floyd_elab.specs.TableClauses.{innermost}

-- the first scope that is entered is the only one
pub one_entered : (now : Scopes) → now ≡ enter [] → now ≡ innermost now ∷ []
one_entered now is = is ∙ sym (ap (λ (s : Scopes). innermost s ∷ []) is)

module _ (before now : Scopes) (x : List ℕ) (m : Meaning) where
  in_one : before ≡ innermost before ∷ [] → now ≡ with_meaning x m before → now ≡ (innermost before ++ (x, m) ∷ []) ∷ []
  in_one one is = is ∙ ap (with_meaning x m) one

  -- a name more leaves one scope
  pub one_declared : before ≡ innermost before ∷ [] → now ≡ with_meaning x m before → now ≡ innermost now ∷ []
  one_declared one is = in_one one is ∙ sym (ap (λ (s : Scopes). innermost s ∷ []) (in_one one is))

  pub scope_declared : (scope : Scope) → before ≡ innermost before ∷ [] → innermost before ≡ scope → now ≡ with_meaning x m before → innermost now ≡ scope ++ (x, m) ∷ []
  scope_declared scope one view is = ap innermost (in_one one is) ∙ ap (λ (s : Scope). s ++ (x, m) ∷ []) view

-- what a name stands for in one scope
pub meaning_in_one : (names : Scopes) (scope : Scope) (x : List ℕ) → names ≡ innermost names ∷ [] → innermost names ≡ scope → meaning_of names x ≡ lookup (bytes_eq x) scope
meaning_in_one names scope x one view = ap (λ (s : Scopes). meaning_of s x) (one ∙ ap (λ (s : Scope). s ∷ []) view) ∙ by (lookup (bytes_eq x) scope)
  where
    by : (o : Option Meaning) → option_or o None ≡ o
    by None = refl
    by (Some m) = refl

pub scopes_are : (names : Scopes) (scope : Scope) → names ≡ innermost names ∷ [] → innermost names ≡ scope → names ≡ scope ∷ []
scopes_are names scope one view = one ∙ ap (λ (s : Scope). s ∷ []) view

-- whether a variable is declared again does not depend on its name
pub same_variable : (x : List ℕ) (t : CType) (before : Meaning) → is_again (m.Variable x t kept.Global) (Some before) ≡ is_again (m.Variable [] t kept.Global) (Some before)
same_variable x t (m.Type u constant) = refl
same_variable x t (m.Variable y u other) = refl
same_variable x t (m.Function u) = refl
