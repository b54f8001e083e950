-- Words of private clauses: the names of a pattern before another.
use Rattle.std.specs.Prelude.{ℕ, List, [], ◌∷◌}
use Rattle.floyd_specread_patterns.specs.declared.names.Others.{Others}
use Rattle.floyd_specread_patterns.specs.declared.names.Others.TheVariants.{Nothing, One, Two}

abbrev pub names_of : Others → List (List ℕ)
names_of Nothing = []
names_of (One a) = a.now ∷ []
names_of (Two a b) = a.now ∷ b.now ∷ []
