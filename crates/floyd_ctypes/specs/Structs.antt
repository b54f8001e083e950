-- What a table of structs stands for.
use Rattle.std.specs.Prelude.{Bool, ℕ, ◌+◌, List, [], ◌∷◌, Option, is_some, option_and_then, find, map, if◌then◌else◌, bytes_eq}
use Rattle.std.specs.Map.{lookup}
use Rattle.floyd_ctypes.specs.declared.field.Field.{Field}

-- structs by their tags in first-seen order, each with its fields where it is complete
abbrev pub Structs : Type 0
Structs = List (List ℕ × Option (List Field))

abbrev pub tags : Structs → List (List ℕ)
tags structs = map (λ s. s.0) structs

-- whether the tag was declared
abbrev pub has_tag : Structs → List ℕ → Bool
has_tag structs tag = is_some (lookup (bytes_eq tag) structs)

-- the fields of a complete struct; a tag that is not there counts as incomplete
abbrev pub fields_of : Structs → List ℕ → Option (List Field)
fields_of structs tag = option_and_then (λ fields. fields) (lookup (bytes_eq tag) structs)

abbrev pub is_complete : Structs → List ℕ → Bool
is_complete structs tag = is_some (fields_of structs tag)

-- the first field of that name in a complete struct
abbrev pub field_of : Structs → List ℕ → List ℕ → Option Field
field_of structs tag name = option_and_then (find (λ f. bytes_eq name f.name)) (fields_of structs tag)

-- how many structs are complete
abbrev pub completes : Structs → ℕ
completes [] = 0
completes (s ∷ ss) = (if is_some s.1 then 1 else 0) + completes ss
