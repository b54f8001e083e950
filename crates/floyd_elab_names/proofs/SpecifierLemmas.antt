-- Specifiers and declarators as the program has them.
use Rattle.std.proofs.Common.{◌≡◌, List, [], ◌∷◌, ◌++◌, map, length, Option, Result, Ok, refl, ap, sym, ◌∙◌}
use denote.Hole.Carrier.{hidden}
use Rattle.floyd_text.specs.declared.place.Place.{Place}
use Rattle.floyd_text.specs.declared.refusal.Refusal.{Refusal}
use Rattle.floyd_ctypes.specs.declared.ctype.CType.{CType, Function}
use Rattle.floyd_cparse_trees.specs.declared.types.Base as b
use Rattle.floyd_cparse_trees.specs.declared.types.Base.TheBlock.{shape-the_row-FieldDeclaration-1, hidden-the_row-FieldDeclaration-1, items_hidden-the_row-FieldDeclaration-1, shown-the_row-Declarator-0, items_shown-the_row-Declarator-0, shape-the_row-Declarator-2, hidden-the_row-Declarator-2, shape-the_row-Parameter-3, hidden-the_row-Parameter-3, items_hidden-the_row-Parameter-3}
use Rattle.floyd_cparse_trees.specs.declared.types.Declarator as d
use Rattle.floyd_cparse_trees.specs.declared.types.FieldDeclaration.{FieldDeclaration}
use Rattle.floyd_cparse_trees.specs.declared.types.Identifier.{Identifier}
use Rattle.floyd_cparse_trees.specs.declared.types.Literal.{Literal}
use Rattle.floyd_cparse_trees.specs.declared.types.Parameter.{Parameter}
use Rattle.floyd_cparse_trees.specs.declared.types.Star.{Star}
use Rattle.floyd_elab_names.specs.declared.tags.Tags.{Tags}
use Rattle.floyd_elab_names.specs.declared.wraps.Wrap.{Wrap}
use Rattle.floyd_elab_names.specs.Refusals.{Site}
use Rattle.floyd_elab_names.specs.Refusing.{and_then, in_turn}
use Rattle.floyd_elab_names.specs.Scopes.{Scopes}
use Rattle.floyd_elab_names.specs.Types.{array_of}
use Rattle.floyd_elab_names.specs.Declarators.{Adding, base_type, made_by, parameter_rows, field_rows, declarator_rows, fields_after, struct_with, field_types, pointers, number_in}
use Rattle.floyd_elab_names.specs.DeclaratorClauses.{add_field, add_fields, add_parameter}
use Rattle.floyd_elab_names.specs.WrapClauses.{around, wrap_all}
use Rattle.floyd_elab_names.proofs.WrapLemmas.{wrapped_last}

module _ (scopes : Scopes) (site : Site) where
  declarators_are : {m : _} (t : CType) (row : d.Row_of-Declarator m) → declarator_rows scopes site t row ≡ map (add_field scopes site t) (d.items-the_row-Declarator m row)
  declarators_are t d.end_of-Declarator = refl
  declarators_are t (d.more_of-Declarator d rest) = ap (λ steps. add_field scopes site t d ∷ steps) (declarators_are t rest)

  fields_are : {m : _} (row : b.Row_of-FieldDeclaration m) → field_rows scopes site row ≡ map (add_fields scopes site) (b.items-the_row-FieldDeclaration m row)
  fields_are b.end_of-FieldDeclaration = refl
  fields_are (b.more_of-FieldDeclaration constant base shape ds rest) =
      ap (λ (steps : CType → List Adding). fields_after (base_type scopes site base) steps ∷ field_rows scopes site rest) (λ i t. (declarators_are t ds ∙ ap (map (add_field scopes site t)) (sym (items_shown-the_row-Declarator-0 shape ds))) i)
      ∙ ap (λ steps. fields_after (base_type scopes site base) (λ t. map (add_field scopes site t) (shown-the_row-Declarator-0 shape ds)) ∷ steps) (fields_are rest)

  parameters_are : {m : _} (row : d.Row_of-Parameter m) → parameter_rows scopes site row ≡ map (add_parameter scopes site) (d.items-the_row-Parameter m row)
  parameters_are d.end_of-Parameter = refl
  parameters_are (d.more_of-Parameter constant base d rest) =
      ap (λ steps. add_parameter scopes site (record { specifiers = record { constant = constant; base = base }; declarator = d }) ∷ steps) (parameters_are rest)

  pub rows_are : (rows : List FieldDeclaration) → field_rows scopes site (hidden-the_row-FieldDeclaration-1 rows) ≡ map (add_fields scopes site) rows
  rows_are rows = fields_are (hidden-the_row-FieldDeclaration-1 rows) ∙ ap (map (add_fields scopes site)) (items_hidden-the_row-FieldDeclaration-1 rows)

  pub of_struct_with : (tag : Identifier) (rows : List FieldDeclaration) → base_type scopes site (b.StructWith tag rows) ≡ struct_with tag (in_turn (map (add_fields scopes site) rows) [])
  unfolding shape-the_row-FieldDeclaration-1 hidden
  of_struct_with tag rows = ap (λ steps. struct_with tag (in_turn steps [])) (rows_are rows)

  module _ (inner : d.Declarator) (s : Tags) where
    pub of_parentheses : (place : Place) → made_by scopes site (d.Parenthesised place inner) s ≡ made_by scopes site inner s
    unfolding shape-the_row-Declarator-2 hidden-the_row-Declarator-2 hidden
    of_parentheses place = refl

    pub of_pointer : (stars : List Star) → made_by scopes site (d.Pointer stars inner) s ≡ and_then (made_by scopes site inner s) (λ make s1. Ok (λ t. make (pointers (length stars) t), s1))
    unfolding shape-the_row-Declarator-2 hidden-the_row-Declarator-2 hidden
    of_pointer stars = refl

    pub of_array : (place : Place) (size : Option Literal) → made_by scopes site (d.Array inner place size) s ≡ and_then (made_by scopes site inner s) (λ make s1. Ok (λ t. make (array_of t (number_in size)), s1))
    unfolding shape-the_row-Declarator-2 hidden-the_row-Declarator-2 hidden
    of_array place size = refl

    abbrev pub function_behind : List Parameter → (CType → CType) → Tags → Result ((CType → CType) × Tags) Refusal
    function_behind ps make s1 =
        and_then (in_turn (map (add_parameter scopes site) ps) [] s1) (λ parameters s2. Ok ((λ t. make (Function (field_types parameters) t)), s2))

    pub of_function : (place : Place) (ps : List Parameter) → made_by scopes site (d.Function inner place ps) s ≡ and_then (made_by scopes site inner s) (function_behind ps)
    unfolding shape-the_row-Declarator-2 hidden-the_row-Declarator-2 shape-the_row-Parameter-3 hidden
    of_function place ps =
        ap (λ (steps : List Adding). and_then (made_by scopes site inner s) (λ make s1. and_then (in_turn steps [] s1) (λ parameters s2. Ok ((λ t. make (Function (field_types parameters) t)), s2))))
        (parameters_are (hidden-the_row-Parameter-3 ps) ∙ ap (map (add_parameter scopes site)) (items_hidden-the_row-Parameter-3 ps))

-- With one more around the type.

pub with_wrap : (ws all : List Wrap) (w : Wrap) → all ≡ ws ++ w ∷ [] → (λ t. wrap_all ws (around w t)) ≡ wrap_all all
with_wrap ws all w is = (λ i t. sym (wrapped_last ws w t) i) ∙ ap wrap_all (sym is)
