-- Elaboration of initial data. An array or a struct takes a list, and a number or a pointer takes a constant. What does
-- not fit is ill typed at the `=`, or at the brace of the list that it stands in.
use Rattle.std.specs.Prelude.{ℕ, ◌*◌, ◌==◌, Bool, true, false, ◌&&◌, ◌||◌, not, nat_le, slice_get, option_map, ◌+◌, List, [], ◌∷◌, length, Option, Some, None}
use Rattle.std.specs.Option.{unwrap_or}
use Rattle.floyd_text.specs.declared.place.Place.{Place}
use Rattle.floyd_ctypes.specs.declared.ctype.CType.{CType, Int, Pointer', Array', Struct, more_of-CType, end_of-CType}
use Rattle.floyd_ctypes.specs.Structs.{Structs, fields_of}
use Rattle.floyd_ctypes.specs.Layout.{size}
use Rattle.floyd_cparse_trees.specs.declared.types.Identifier.{Identifier}
use Rattle.floyd_cparse_trees.specs.declared.types.Literal.{Literal}
use Rattle.floyd_cparse_trees.specs.declared.declarations.Constant.{Constant}
use Rattle.floyd_cparse_trees.specs.declared.declarations.Constant.TheVariants as c
use Rattle.floyd_cparse_trees.specs.declared.declarations.Initialiser as i
use Rattle.floyd_elab_names.specs.Refusals.{ill_typed}
use Rattle.floyd_elab_names.specs.Refusing.{◌>>=◌, ◌>>◌, pure, refuse, unless, or_refuse}
use Rattle.floyd_elab_names.specs.Typing.{Typing, the_structs}
use Rattle.floyd_elab_names.specs.Scopes.{Scopes, meaning_of}
use Rattle.floyd_elab_names.specs.Types.{pointer_to, is_function, is_scalar, has_size}
use Rattle.floyd_ctyping.specs.Operators as o
use Rattle.floyd_ctyping.specs.Expressions.{name_operand}
use Rattle.floyd_ctyping.specs.Switches.{constant_bits}
use Rattle.floyd_clight.specs.declared.initial.Initial as initial
use Rattle.floyd_clight.specs.declared.initial.Initial.{Initial}

-- a literal for a number is cast to its kind; for a pointer only 0 will do, and `-0` is not it
abbrev pub literal_contents : Place → CType → Bool → Literal → Typing Initial
literal_contents place (Int k) negative l = pure (initial.Int k (constant_bits k negative l))
literal_contents place (Pointer' p t) negative l = unless (ill_typed place) (not negative && l.value == 0) >> pure initial.Null
literal_contents place t negative l = refuse (ill_typed place)

abbrev pub element_of : CType → Option CType
element_of (Array' p (more_of-CType t end_of-CType) n) = Some t
element_of t = None

abbrev pub is_array : CType → Bool
is_array (Array' p t n) = true
is_array t = false

-- how many parts an array or a struct has; nothing else has any
abbrev pub parts_of : Structs → CType → ℕ
parts_of structs (Array' p t n) = n
parts_of structs (Struct tag) = length (unwrap_or (fields_of structs tag) [])
parts_of structs t = 0

-- the type of the part at a number from 0 on: of an array its element's, of a struct that field's
abbrev pub part_type : Structs → CType → ℕ → Option CType
part_type structs (Array' p (more_of-CType t end_of-CType) n) at = Some t
part_type structs (Struct tag) at = option_map (λ f. f.ty) (slice_get (unwrap_or (fields_of structs tag) []) at)
part_type structs t at = None

module _ (scopes : Scopes) where
  -- the type of the elements of the array of that name, which has a size as in `a[i]`
  abbrev pub element_type : Place → Identifier → Typing CType
  element_type bracket i = do
    a ← name_operand i (meaning_of scopes i.name)
    u ← or_refuse (ill_typed bracket) (element_of a.ctype)
    structs ← the_structs
    unless (ill_typed bracket) (has_size structs u)
    pure u

  -- A name alone is that of an array or a function.
  abbrev pub constant : Place → CType → Constant → Typing Initial
  constant place t (c.Literal negative l) = literal_contents place t negative l
  constant place t (c.Name i) = do
    a ← name_operand i (meaning_of scopes i.name)
    unless (ill_typed place) ((is_array a.ctype || is_function a.ctype) && o.fits_into t a)
    pure (initial.Address i.name)
  constant place t (c.Address i) = do
    a ← name_operand i (meaning_of scopes i.name)
    unless (ill_typed place) (o.fits_into t (o.value_of_type (pointer_to a.ctype)))
    pure (initial.Address i.name)
  constant place t (c.Element i bracket index) = do
    u ← element_type bracket i
    unless (ill_typed place) (o.fits_into t (o.value_of_type (pointer_to u)))
    structs ← the_structs
    pure (initial.Element i.name (index.value * unwrap_or (size structs u) 0))

  abbrev mutual
    -- the contents of an object of a type
    pub contents : Place → CType → i.Initialiser → Typing Initial
    contents place t (i.Constant c) = unless (ill_typed place) (is_scalar t) >> constant place t c
    contents place t (i.List' brace shape rows) = do
      structs ← the_structs
      unless (ill_typed place) (not (is_scalar t))
      unless (ill_typed brace) (nat_le (length shape) (parts_of structs t))
      parts ← parts_from brace t 0 rows
      pure (initial.Parts parts)

    pub parts_from : {m : _} → Place → CType → ℕ → i.Row_of-Initialiser m → Typing (List Initial)
    parts_from brace t at i.end_of-Initialiser = pure []
    parts_from brace t at (i.more_of-Initialiser item rest) = do
      structs ← the_structs
      u ← or_refuse (ill_typed brace) (part_type structs t at)
      part ← contents brace u item
      more ← parts_from brace t (at + 1) rest
      pure (part ∷ more)
