-- The names of what is proved of one kind, as a table.
use Rattle.std.specs.Prelude.{ℕ, ◌==◌, ◌&&◌, Bool, if◌then◌else◌, List, [], ◌∷◌, ◌++◌, is_some, bytes_eq}
use Rattle.std.specs.Map.{lookup}
use Rattle.floyd_soundness.specs.declared.keys.Key.{Key}
use Rattle.floyd_soundness.specs.declared.keys.Kind.{Kind}
use Rattle.floyd_soundness.specs.Keys.{same_kind}

abbrev pub Names : Type 0
Names = List (List ℕ × Unit {0})

abbrev pub knows : Names → List ℕ → Bool
knows names x = is_some (lookup (bytes_eq x) names)

abbrev pub with_name : List ℕ → Names → Names
with_name x names = if knows names x then names else names ++ (x, tt) ∷ []

abbrev pub is_of : Kind → ℕ → Key → Bool
is_of kind number k = same_kind kind k.kind && number == k.number

abbrev pub with_key : Kind → ℕ → Key → Names → Names
with_key kind number k names = if is_of kind number k then with_name k.name names else names

abbrev pub with_keys : Kind → ℕ → List Key → Names → Names
with_keys kind number [] names = names
with_keys kind number (k ∷ keys) names = with_keys kind number keys (with_key kind number k names)
