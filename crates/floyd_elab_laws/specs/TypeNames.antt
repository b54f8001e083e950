-- The types that the type names of casts and `sizeof` name.
use Rattle.std.specs.Prelude.{List, [], ◌∷◌, length, Option, Some, None, option_map, option_and_then}
use Rattle.floyd_ctypes.specs.declared.ctype.CType.{CType, Void, Int, Struct, Function}
use Rattle.floyd_cparse_trees.specs.declared.types.TypeName.{TypeName}
use Rattle.floyd_cparse_trees.specs.declared.types.Base as b
use Rattle.floyd_cparse_trees.specs.declared.types.Declarator as d
use Rattle.floyd_elab_names.specs.declared.meaning.Meaning.{Meaning}
use Rattle.floyd_elab_names.specs.declared.meaning.Meaning.TheVariants as m
use Rattle.floyd_elab_names.specs.Scopes.{Scopes, meaning_of}
use Rattle.floyd_elab_names.specs.Types.{array_of, decay}
use Rattle.floyd_elab_names.specs.Declarators.{pointers, number_in}

-- the type that a typedef name stands for
abbrev pub typedef : Option Meaning → Option CType
typedef (Some (m.Type t constant)) = Some t
typedef meaning = None

module _ (scopes : Scopes) where
  abbrev mutual
    pub base : b.Base → Option CType
    base b.Void = Some Void
    base (b.Int k) = Some (Int k)
    base (b.Struct tag) = Some (Struct tag.name)
    base (b.StructWith' tag shape rows) = Some (Struct tag.name)
    base (b.Typedef i) = typedef (meaning_of scopes i.name)

    -- what a declarator makes of a type
    pub made : CType → d.Declarator → Option CType
    made t (d.Name i) = Some t
    made t d.Absent = Some t
    made t (d.Parenthesised' place p (d.more_of-Declarator inner d.end_of-Declarator)) = made t inner
    made t (d.Pointer' stars p (d.more_of-Declarator inner d.end_of-Declarator)) = made (pointers (length stars) t) inner
    made t (d.Array' p (d.more_of-Declarator inner d.end_of-Declarator) place size) = made (array_of t (number_in size)) inner
    made t (d.Function' p (d.more_of-Declarator inner d.end_of-Declarator) place shape ps) =
        option_and_then (λ us. made (Function us t) inner) (parameters ps)

    -- the types of parameters; arrays and functions are pointers there
    pub parameters : {m : _} → d.Row_of-Parameter m → Option (List CType)
    parameters d.end_of-Parameter = Some []
    parameters (d.more_of-Parameter constant first d rest) =
        option_and_then (λ t. option_and_then (λ u. option_map (λ us. decay u ∷ us) (parameters rest)) (made t d)) (base first)

  abbrev pub type_named : TypeName → Option CType
  type_named n = option_and_then (λ t. made t n.declarator) (base n.specifiers.base)
