-- What specifiers and declarators declare. The types in a declarator, those of its parameters and of the fields of its
-- structs, come before its name, in the order of the text. At one name what is left out comes first, then what is ill
-- typed, then what was declared before.
use Rattle.std.specs.Prelude.{ℕ, zero, suc, nat_lt, Bool, true, false, ◌&&◌, ◌||◌, not, List, [], ◌∷◌, ◌++◌, length, map, Option, Some, None, is_some}
use Rattle.floyd_ctypes.specs.declared.ctype.CType.{CType, Void, Int, Struct, Function}
use Rattle.floyd_ctypes.specs.declared.field.Field.{Field}
use Rattle.floyd_ctypes.specs.Structs.{is_complete}
use Rattle.floyd_ctypes.specs.Define.{declared, completed}
use Rattle.floyd_text.specs.declared.place.Place.{Place}
use Rattle.floyd_cparse_trees.specs.declared.types.Identifier.{Identifier}
use Rattle.floyd_cparse_trees.specs.declared.types.Literal.{Literal}
use Rattle.floyd_cparse_trees.specs.declared.types.Star.{Star}
use Rattle.floyd_cparse_trees.specs.declared.types.TypeName.{TypeName}
use Rattle.floyd_cparse_trees.specs.declared.types.Base as b
use Rattle.floyd_cparse_trees.specs.declared.types.Declarator as d
use Rattle.floyd_elab_names.specs.declared.meaning.Meaning.{Meaning}
use Rattle.floyd_elab_names.specs.declared.meaning.Meaning.TheVariants as m
use Rattle.floyd_elab_names.specs.Refusals.{Site, site_of, left_out, ill_typed, undeclared, redeclared}
use Rattle.floyd_elab_names.specs.Refusing.{◌>>=◌, ◌>>◌, pure, unless, or_refuse, modify, in_turn}
use Rattle.floyd_elab_names.specs.Typing.{Typing, the_structs}
use Rattle.floyd_elab_names.specs.Scopes.{Scopes, meaning_of, is_among}
use Rattle.floyd_elab_names.specs.Types.{pointer_to, array_of, decay, is_within, is_object_within, returns_well, is_object_type, is_parameter_type}

-- The name that a declarator declares.
abbrev pub name_of : d.Declarator → Option Identifier
name_of (d.Name i) = Some i
name_of d.Absent = None
name_of (d.Parenthesised' place p (d.more_of-Declarator inner d.end_of-Declarator)) = name_of inner
name_of (d.Pointer' stars p (d.more_of-Declarator inner d.end_of-Declarator)) = name_of inner
name_of (d.Array' p (d.more_of-Declarator inner d.end_of-Declarator) place size) = name_of inner
name_of (d.Function' p (d.more_of-Declarator inner d.end_of-Declarator) place shape ps) = name_of inner

-- the texts of "(", "*" and "["
abbrev pub parenthesis : Place → Site
parenthesis place = record { place = place; text = 40 ∷ [] }

abbrev pub bracket : Place → Site
bracket place = record { place = place; text = 91 ∷ [] }

-- and those of "&" and "sizeof"
abbrev pub ampersand : Place → Site
ampersand place = record { place = place; text = 38 ∷ [] }

abbrev pub sizeof_site : Place → Site
sizeof_site place = record { place = place; text = 115 ∷ 105 ∷ 122 ∷ 101 ∷ 111 ∷ 102 ∷ [] }

abbrev pub first_star : Site → List Star → Site
first_star site [] = site
first_star site (s ∷ ss) = record { place = s.place; text = 42 ∷ [] }

-- the first token of a declarator, or the given one where it has none
abbrev pub first_token : Site → d.Declarator → Site
first_token site (d.Name i) = site_of i
first_token site d.Absent = site
first_token site (d.Parenthesised' place p inner) = parenthesis place
first_token site (d.Pointer' stars p inner) = first_star site stars
first_token site (d.Array' p (d.more_of-Declarator inner d.end_of-Declarator) place size) = first_token (bracket place) inner
first_token site (d.Function' p (d.more_of-Declarator inner d.end_of-Declarator) place shape ps) = first_token (parenthesis place) inner

abbrev pub site_or : Site → Option Identifier → Site
site_or site (Some i) = site_of i
site_or site None = site

-- Where a declarator's type is ill typed: its name, or else the name of the nearest declarator around it that has one, or
-- the token before the type name that it stands in.
abbrev pub name_site : Site → d.Declarator → Site
name_site site d = site_or site (name_of d)

-- Where it is too large or too deep: its name, or else its first token, or else as before.
abbrev pub limit_site : Site → d.Declarator → Site
limit_site site d = site_or (first_token site d) (name_of d)

-- Whether no array in it leaves out its size, but for the one that is nearest to its name: a parameter may have that,
-- since it becomes a pointer.
abbrev pub is_bare : d.Declarator → Bool
is_bare (d.Name i) = true
is_bare d.Absent = true
is_bare (d.Parenthesised' place p (d.more_of-Declarator inner d.end_of-Declarator)) = is_bare inner
is_bare d = false

abbrev pub has_sizes : d.Declarator → Bool
has_sizes (d.Name i) = true
has_sizes d.Absent = true
has_sizes (d.Parenthesised' place p (d.more_of-Declarator inner d.end_of-Declarator)) = has_sizes inner
has_sizes (d.Pointer' stars p (d.more_of-Declarator inner d.end_of-Declarator)) = has_sizes inner
has_sizes (d.Array' p (d.more_of-Declarator inner d.end_of-Declarator) place size) = (is_some size || is_bare inner) && has_sizes inner
has_sizes (d.Function' p (d.more_of-Declarator inner d.end_of-Declarator) place shape ps) = has_sizes inner

-- the number of elements. A size that is left out does not count, since what has it becomes a pointer.
abbrev pub number_in : Option Literal → ℕ
number_in (Some literal) = literal.value
number_in None = 0

-- behind so many stars
abbrev pub pointers : ℕ → CType → CType
pointers zero t = t
pointers (suc stars) t = pointers stars (pointer_to t)

-- A struct's tag holds from its first mention.
abbrev pub mention : Identifier → Typing (Unit {0})
mention tag = modify (λ tags. record tags { structs = declared tags.structs tag.name })

-- A struct is completed once. The `{` of a second time is refused, and so is the `}` where the struct's own fields have
-- completed it.
abbrev pub begin_fields : Identifier → Typing (Unit {0})
begin_fields tag = do
  mention tag
  structs ← the_structs
  unless (redeclared tag) (not (is_complete structs tag.name))

-- A struct has a field. The grammar sees to that, and the size of a file to the other limit.
abbrev pub may_have : List Field → Bool
may_have fields = nat_lt 0 (length fields) && nat_lt (length fields) 2147483648

abbrev pub complete : Identifier → List Field → Typing (Unit {0})
complete tag fields = do
  structs ← the_structs
  unless (left_out (site_of tag)) (may_have fields)
  unless (redeclared tag) (not (is_complete structs tag.name))
  modify (λ tags. record { structs = completed tags.structs tag.name fields; completed = tags.completed ++ tag ∷ [] })

-- the struct of a tag with its fields
abbrev pub struct_with : Identifier → Typing (List Field) → Typing CType
struct_with tag body = do
  begin_fields tag
  fields ← body
  complete tag fields
  pure (Struct tag.name)

-- a typedef name's type
abbrev pub typedef_type : Option Meaning → Option CType
typedef_type (Some (m.Type t constant)) = Some t
typedef_type meaning = None

-- refuses a name that is among these
abbrev pub unless_among : List (List ℕ) → Option Identifier → Typing (Unit {0})
unless_among names None = pure tt
unless_among names (Some i) = unless (redeclared i) (not (is_among i.name names))

abbrev pub name_or_none : Option Identifier → List ℕ
name_or_none None = []
name_or_none (Some i) = i.name

-- A field has a size.
abbrev pub new_field : Site → List (List ℕ) → d.Declarator → CType → Typing Field
new_field site names d t = do
  structs ← the_structs
  unless (left_out (limit_site site d)) (is_object_within structs t)
  unless (ill_typed (name_site site d).place) (is_object_type structs t)
  unless_among names (name_of d)
  pure (record { name = name_or_none (name_of d); ty = t })

-- A parameter is a field of its own kind: one that is an array is a pointer to its elements, and one that is a function is
-- a pointer to it.
abbrev pub new_parameter : Site → List (List ℕ) → d.Declarator → CType → Typing Field
new_parameter site names d t = do
  structs ← the_structs
  unless (left_out (limit_site site d)) (is_object_within structs (decay t))
  unless (ill_typed (name_site site d).place) (has_sizes d && is_parameter_type structs t)
  unless_among names (name_of d)
  pure (record { name = name_or_none (name_of d); ty = decay t })

-- the names of fields, and their types
abbrev pub field_names : List Field → List (List ℕ)
field_names fields = map (λ f. f.name) fields

abbrev pub field_types : List Field → List CType
field_types fields = map (λ f. f.ty) fields

-- What a declarator, a parameter and the fields of one base add to the fields or parameters before them, where it is known
-- how their specifiers and declarators are read.
abbrev pub Adding : Type 0
Adding = List Field → Typing (List Field)

abbrev pub field_after : Site → d.Declarator → Typing (CType → CType) → CType → Adding
field_after site d made t fields = do
  make ← made
  field ← new_field site (field_names fields) d (make t)
  pure (fields ++ field ∷ [])

abbrev pub fields_after : Typing CType → (CType → List Adding) → Adding
fields_after base declarators fields = do
  t ← base
  in_turn (declarators t) fields

abbrev pub parameter_after : Site → d.Declarator → Typing CType → Typing (CType → CType) → Adding
parameter_after site d base made parameters = do
  t ← base
  make ← made
  parameter ← new_parameter site (field_names parameters) d (make t)
  pure (parameters ++ parameter ∷ [])

module _ (scopes : Scopes) where
  abbrev mutual
    -- the type that specifiers name, where `site` is the token to blame
    pub base_type : Site → b.Base → Typing CType
    base_type site b.Void = pure Void
    base_type site (b.Int k) = pure (Int k)
    base_type site (b.Struct tag) = do
      mention tag
      pure (Struct tag.name)
    base_type site (b.StructWith' tag shape rows) = struct_with tag (in_turn (field_rows site rows) [])
    base_type site (b.Typedef i) = or_refuse (undeclared i) (typedef_type (meaning_of scopes i.name))

    -- A declarator makes of its specifiers' type that of its name.
    pub made_by : Site → d.Declarator → Typing (CType → CType)
    made_by site (d.Name i) = pure (λ t. t)
    made_by site d.Absent = pure (λ t. t)
    made_by site (d.Parenthesised' place p (d.more_of-Declarator inner d.end_of-Declarator)) = made_by site inner
    made_by site (d.Pointer' stars p (d.more_of-Declarator inner d.end_of-Declarator)) = do
      make ← made_by site inner
      pure (λ t. make (pointers (length stars) t))
    made_by site (d.Array' p (d.more_of-Declarator inner d.end_of-Declarator) place size) = do
      make ← made_by site inner
      pure (λ t. make (array_of t (number_in size)))
    made_by site (d.Function' p (d.more_of-Declarator inner d.end_of-Declarator) place shape ps) = do
      make ← made_by site inner
      parameters ← in_turn (parameter_rows site ps) []
      pure (λ t. make (Function (field_types parameters) t))

    -- what each parameter adds
    pub parameter_rows : {m : _} → Site → d.Row_of-Parameter m → List Adding
    parameter_rows site d.end_of-Parameter = []
    parameter_rows site (d.more_of-Parameter constant base d rest) =
        parameter_after site d (base_type site base) (made_by (name_site site d) d) ∷ parameter_rows site rest

    -- what the fields of each base add
    pub field_rows : {m : _} → Site → b.Row_of-FieldDeclaration m → List Adding
    field_rows site b.end_of-FieldDeclaration = []
    field_rows site (b.more_of-FieldDeclaration constant base shape ds rest) =
        fields_after (base_type site base) (λ t. declarator_rows site t ds) ∷ field_rows site rest

    -- what each declarator of a field adds
    pub declarator_rows : {m : _} → Site → CType → d.Row_of-Declarator m → List Adding
    declarator_rows site t d.end_of-Declarator = []
    declarator_rows site t (d.more_of-Declarator d rest) = field_after site d (made_by (name_site site d) d) t ∷ declarator_rows site t rest

  -- the type of a declarator that has a name
  abbrev pub declarator_type : Site → CType → d.Declarator → Typing CType
  declarator_type site t d = do
    make ← made_by (name_site site d) d
    pure (make t)

  -- The type that a cast or `sizeof` names, where `site` is the cast's parenthesis or `sizeof`. A struct named alone has
  -- no declarator, and may be too large.
  abbrev pub type_named : Site → TypeName → Typing CType
  type_named site n = do
    t ← base_type site n.specifiers.base
    made ← declarator_type site t n.declarator
    structs ← the_structs
    unless (left_out (limit_site site n.declarator)) (is_within structs made)
    unless (ill_typed site.place) (returns_well made)
    pure made
