-- Tables of items by name, each of which stands once.
use Rattle.std.specs.Prelude.{ℕ, if◌then◌else◌, List, [], ◌∷◌, ◌++◌}
use Rattle.floyd_termread_scope.specs.Scopes.{Named, is_among}

-- with one more item behind the others, unless one of its name is there
abbrev pub put_new : {A : Type 0} → List ℕ → A → Named A → Named A
put_new name item table = if is_among table name then table else table ++ (name, item) ∷ []

-- with the items of another table, in order
abbrev pub joined : {A : Type 0} → Named A → Named A → Named A
joined [] table = table
joined (p ∷ more) table = joined more (put_new p.0 p.1 table)
