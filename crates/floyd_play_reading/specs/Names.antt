-- The names of local variables, each once.
use Rattle.std.specs.Prelude.{ℕ, List, [], ◌∷◌, ◌++◌, if◌then◌else◌}
use Rattle.floyd_clight.specs.declared.unit.Local.{Local}
use Rattle.floyd_termread_scope.specs.Scopes.{Named, is_among}

abbrev pub with_name : Named (Unit {0}) → List ℕ → Named (Unit {0})
with_name names x = if is_among names x then names else names ++ (x, tt) ∷ []

abbrev pub names_behind : Named (Unit {0}) → List Local → Named (Unit {0})
names_behind names [] = names
names_behind names (b ∷ bs) = names_behind (with_name names b.name) bs

abbrev pub local_names : List Local → Named (Unit {0})
local_names blocks = names_behind [] blocks
