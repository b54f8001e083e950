-- What an accepted program is, and the names that its text has.
use Rattle.std.specs.Prelude.{◌≡◌, ℕ, ◌&&◌, Bool, true, false, List, [], ◌∷◌, is_none, is_some}
use Rattle.std.specs.List.{flat_map}
use Rattle.floyd_goal_meaning.specs.declared.linked.Linked.{Linked}
use Rattle.floyd_goal_meaning.specs.declared.linked.LinkedFunction.{LinkedFunction}
use Rattle.floyd_goal_meaning.specs.Worlds.{Sound}

abbrev pub name_if : Bool → List ℕ → List (List ℕ)
name_if true name = name ∷ []
name_if false name = []

-- each function with a body, in link order
abbrev pub proved_name : LinkedFunction → List (List ℕ)
proved_name f = name_if (is_some f.body) f.name

abbrev pub proved_names : Linked → List (List ℕ)
proved_names L = flat_map proved_name L.functions

-- each external function that has a specification, in link order
abbrev pub trusted_name : LinkedFunction → List (List ℕ)
trusted_name f = name_if (is_none f.body && is_some f.own) f.name

abbrev pub trusted_names : Linked → List (List ℕ)
trusted_names L = flat_map trusted_name L.functions

-- No run of the program is ever stuck, and each call that returns meets its specification.
pub record IsSoundProgram (L : Linked) : Type 0 where
  pub sound : Sound L

-- the program is sound, and these are its names
pub record IsAccepted (L : Linked) (proved trusted : List (List ℕ)) : Type 0 where
  pub program : IsSoundProgram L
  pub proved_are : proved ≡ proved_names L
  pub trusted_are : trusted ≡ trusted_names L
