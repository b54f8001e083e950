-- Words of private clauses: how the names in scope are kept, as the changes that led to them, each of which can be undone.
use Rattle.std.specs.Prelude.{◌≡◌, ℕ, nat_lt, Bool, ◌&&◌, not, List, [], ◌∷◌, length, Option, None, option_map, bytes_eq}
use Rattle.std.specs.Option.{option_or}
use Rattle.std.specs.Map.{lookup}
use Rattle.floyd_elab_names.specs.declared.names.Seen.{Seen}
use Rattle.floyd_elab_names.specs.declared.names.Change.{Change}
use Rattle.floyd_elab_names.specs.declared.names.Change.TheVariants.{Entered, Declared}
use Rattle.floyd_elab_names.specs.Scopes.{Scopes, enter, with_meaning, names_in, is_among}

-- the scopes after a change
abbrev pub after : Scopes → Change → Scopes
after scopes Entered = enter scopes
after scopes (Declared name meaning before) = with_meaning name meaning scopes

abbrev pub after_all : Scopes → List Change → Scopes
after_all scopes [] = scopes
after_all scopes (c ∷ cs) = after_all (after scopes c) cs

-- what a name stands for, and how many scopes there were where it was declared
abbrev pub seen_in : Scopes → List ℕ → Option Seen
seen_in [] name = None
seen_in (scope ∷ outer) name =
    option_or (option_map (λ meaning. record { depth = length (scope ∷ outer); meaning = meaning }) (lookup (bytes_eq name) scope)) (seen_in outer name)

-- whether there is an innermost scope, which has not the name
abbrev pub is_new : Scopes → List ℕ → Bool
is_new scopes name = nat_lt 0 (length scopes) && not (is_among name (names_in scopes))

-- a declaration keeps what its name stood for before
abbrev pub Keeps : Scopes → Change → Type 0
Keeps scopes Entered = Unit {0}
Keeps scopes (Declared name meaning before) = before ≡ seen_in scopes name

abbrev pub KeepAll : Scopes → List Change → Type 0
KeepAll scopes [] = Unit {0}
KeepAll scopes (c ∷ cs) = Keeps scopes c × KeepAll (after scopes c) cs

-- Each name is found that is in scope, and each change can be undone.
pub record IsKept (changes : List Change) (visible : List ℕ → Option Seen) (depth : ℕ) : Type 0 where
  pub deep : depth ≡ length (after_all [] changes)
  pub found : (name : List ℕ) → visible name ≡ seen_in (after_all [] changes) name
  pub undone : KeepAll [] changes
