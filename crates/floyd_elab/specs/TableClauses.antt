-- Names of the file as the program keeps them.
use Rattle.std.specs.Prelude.{◌≡◌, ℕ, Bool, ◌||◌, List, [], ◌∷◌, bytes_eq}
use Rattle.std.specs.List.{list_any}
use Rattle.floyd_clight.specs.declared.unit.Local.{Local}
use Rattle.floyd_clight.specs.declared.unit.Variable.{Variable}
use Rattle.floyd_elab_names.specs.declared.meaning.Meaning.TheVariants as m
use Rattle.floyd_elab_names.specs.declared.meaning.Storage.TheVariants as kept
use Rattle.floyd_elab_names.specs.Scopes.{Scope, Scopes, is_among, with_meaning}

-- the innermost scope
abbrev pub innermost : Scopes → Scope
innermost [] = []
innermost (scope ∷ outer) = scope

-- whether one of the items, each of which has a name, has this one
abbrev pub is_named : {A : Type 0} → (A → List ℕ) → List ℕ → List A → Bool
is_named name_of x items = list_any (λ item. bytes_eq x (name_of item)) items

-- whether a variable has the name
abbrev pub is_variable : List ℕ → List Variable → Bool
is_variable = is_named (λ (v : Variable). v.name)

-- the names are the same, and one more
abbrev pub AddsName : List ℕ → List (List ℕ) → List (List ℕ) → Type 0
AddsName x before now = (q : List ℕ) → is_among q now ≡ (bytes_eq q x || is_among q before)

-- with a parameter more in the innermost scope
abbrev pub with_parameter : Local → Scopes → Scopes
with_parameter p scopes = with_meaning p.name (m.Variable p.name p.ctype kept.Parameter) scopes
