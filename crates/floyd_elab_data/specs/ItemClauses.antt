-- Words of private clauses: the contents that the items of a list give, as the program has them.
use Rattle.std.specs.Prelude.{ℕ, ◌+◌, nat_le, List, [], ◌∷◌, length}
use Rattle.floyd_text.specs.declared.place.Place.{Place}
use Rattle.floyd_ctypes.specs.declared.ctype.CType.{CType}
use Rattle.floyd_cparse_trees.specs.declared.declarations.Initialiser.{Initialiser}
use Rattle.floyd_clight.specs.declared.initial.Initial as initial
use Rattle.floyd_clight.specs.declared.initial.Initial.{Initial}
use Rattle.floyd_elab_names.specs.Refusals.{ill_typed}
use Rattle.floyd_elab_names.specs.Refusing.{◌>>=◌, ◌>>◌, pure, unless, or_refuse}
use Rattle.floyd_elab_names.specs.Typing.{Typing, the_structs}
use Rattle.floyd_elab_names.specs.Scopes.{Scopes}
use Rattle.floyd_elab_data.specs.Contents.{contents, part_type, parts_of}

module _ (scopes : Scopes) (brace : Place) (t : CType) where
  -- the contents of items, the first of which is for the part at this number
  abbrev pub parts_in : ℕ → List Initialiser → Typing (List Initial)
  parts_in at [] = pure []
  parts_in at (item ∷ rest) = do
    structs ← the_structs
    u ← or_refuse (ill_typed brace) (part_type structs t at)
    part ← contents scopes brace u item
    more ← parts_in (at + 1) rest
    pure (part ∷ more)

  -- the contents that a list gives what is no number or pointer
  abbrev pub list_parts : List Initialiser → Typing Initial
  list_parts items = do
    structs ← the_structs
    unless (ill_typed brace) (nat_le (length items) (parts_of structs t))
    parts ← parts_in 0 items
    pure (initial.Parts parts)

-- where there are no parts
abbrev pub no_parts : Place → List Initialiser → Typing Initial
no_parts brace items = do
  unless (ill_typed brace) (nat_le (length items) 0)
  pure (initial.Parts [])
