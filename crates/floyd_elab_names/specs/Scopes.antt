-- The names that are declared.
use Rattle.std.specs.Prelude.{ℕ, Bool, List, [], ◌∷◌, ◌++◌, map, Option, None, bytes_eq}
use Rattle.std.specs.List.{list_any}
use Rattle.std.specs.Option.{option_or}
use Rattle.std.specs.Map.{lookup}
use Rattle.floyd_elab_names.specs.declared.meaning.Meaning.{Meaning}

-- the names of one scope, and what each stands for
abbrev pub Scope : Type 0
Scope = List (List ℕ × Meaning)

-- the scopes around a place, the innermost first
abbrev pub Scopes : Type 0
Scopes = List Scope

-- what a name stands for: what the innermost scope says that has it
abbrev pub meaning_of : Scopes → List ℕ → Option Meaning
meaning_of [] name = None
meaning_of (scope ∷ scopes) name = option_or (lookup (bytes_eq name) scope) (meaning_of scopes name)

-- inside a scope more, which has no names yet
abbrev pub enter : Scopes → Scopes
enter scopes = [] ∷ scopes

-- outside the innermost scope
abbrev pub leave : Scopes → Scopes
leave [] = []
leave (scope ∷ outer) = outer

-- with a name more in the innermost scope
abbrev pub with_meaning : List ℕ → Meaning → Scopes → Scopes
with_meaning name meaning [] = []
with_meaning name meaning (scope ∷ outer) = (scope ++ (name, meaning) ∷ []) ∷ outer

-- the names of the innermost scope
abbrev pub names_in : Scopes → List (List ℕ)
names_in [] = []
names_in (scope ∷ outer) = map (λ e. e.0) scope

abbrev pub is_among : List ℕ → List (List ℕ) → Bool
is_among name names = list_any (bytes_eq name) names
