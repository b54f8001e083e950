-- A type name that typing accepts names its type.
use Rattle.std.proofs.Common.{◌≡◌, ℕ, ◌&&◌, List, [], ◌∷◌, ◌++◌, length, Option, Some, None, refl, sym, ◌∙◌, ap}
use Rattle.std.specs.Prelude.{option_and_then, option_map}
use Rattle.std.proofs.lemmas.List.{append_assoc, append-nil, map-append}
use Rattle.floyd_ctypes.specs.declared.ctype.CType.{CType, Function}
use Rattle.floyd_ctypes.specs.declared.field.Field.{Field}
use Rattle.floyd_cparse_trees.specs.declared.types.Identifier.{Identifier}
use Rattle.floyd_cparse_trees.specs.declared.types.TypeName.{TypeName}
use Rattle.floyd_cparse_trees.specs.declared.types.Base as b
use Rattle.floyd_cparse_trees.specs.declared.types.Declarator as d
use Rattle.floyd_elab_names.specs.declared.meaning.Meaning.{Meaning}
use Rattle.floyd_elab_names.specs.declared.meaning.Meaning.TheVariants as m
use Rattle.floyd_elab_names.specs.declared.tags.Tags.{Tags}
use Rattle.floyd_elab_names.specs.Refusing.{unless, or_refuse, in_turn}
use Rattle.floyd_elab_names.specs.Refusals.{Site, left_out, ill_typed, undeclared}
use Rattle.floyd_elab_names.specs.Scopes.{Scopes, meaning_of}
use Rattle.floyd_elab_names.specs.Types.{decay, array_of, is_within, is_object_within, returns_well, is_parameter_type}
use Rattle.floyd_elab_names.specs.Declarators as typing
use Rattle.floyd_elab_laws.specs.TypeNames.{typedef, base, made, parameters, type_named}
use Rattle.floyd_elab_laws.proofs.GivesLemmas.{Gives, after, here, refused, passing, thus}

typedef_named : (i : Identifier) (meaning : Option Meaning) (tags : Tags) → Gives (or_refuse (undeclared i) (typing.typedef_type meaning) tags) (λ r. typedef meaning ≡ Some r.0)
typedef_named i (Some (m.Type t constant)) tags = here refl
typedef_named i (Some (m.Variable called t storage)) tags = refused
typedef_named i (Some (m.Function t)) tags = refused
typedef_named i None tags = refused

parameter_type : (site : Site) (names : List (List ℕ)) (d : d.Declarator) (t : CType) (tags : Tags) → Gives (typing.new_parameter site names d t tags) (λ r. r.0.ty ≡ decay t)
parameter_type site names d t tags =
    passing (unless (left_out (typing.limit_site site d)) (is_object_within tags.structs (decay t)) tags) (λ x s.
    passing (unless (ill_typed (typing.name_site site d).place) (typing.has_sizes d && is_parameter_type tags.structs t) s) (λ y u.
    passing (typing.unless_among names (typing.name_of d) u) (λ z v. here refl)))

-- what is known of parameters that were put behind others: their types
record Behind (before after : List Field) (named : Option (List CType)) : Type 0 where
  types : List CType
  found : named ≡ Some types
  behind : typing.field_types after ≡ typing.field_types before ++ types

-- and of one that was
record Added (scopes : Scopes) (first : b.Base) (d : d.Declarator) (before after : List Field) : Type 0 where
  base_type : CType
  made_type : CType
  base_is : base scopes first ≡ Some base_type
  made_is : made scopes base_type d ≡ Some made_type
  behind : typing.field_types after ≡ typing.field_types before ++ decay made_type ∷ []

module _ (scopes : Scopes) where
  base_named : (site : Site) (first : b.Base) (tags : Tags) → Gives (typing.base_type scopes site first tags) (λ r. base scopes first ≡ Some r.0)
  base_named site b.Void tags = here refl
  base_named site (b.Int k) tags = here refl
  base_named site (b.Struct tag) tags = here refl
  base_named site (b.StructWith' tag shape rows) tags =
      passing (typing.begin_fields tag tags) (λ v w.
      passing (in_turn (typing.field_rows scopes site rows) [] w) (λ fields s.
      passing (typing.complete tag fields s) (λ x u. here refl)))
  base_named site (b.Typedef i) tags = typedef_named i (meaning_of scopes i.name) tags

  parameter_named : (site : Site) (first : b.Base) (d : d.Declarator) (before : List Field) (tags : Tags) → ((tags : Tags) → Gives (typing.made_by scopes (typing.name_site site d) d tags) (λ r. (t : CType) → made scopes t d ≡ Some (r.0 t))) →
      Gives (typing.parameter_after site d (typing.base_type scopes site first) (typing.made_by scopes (typing.name_site site d) d) before tags) (λ r. Added scopes first d before r.0)
  parameter_named site first d before tags named =
      after (typing.base_type scopes site first tags) (base_named site first tags) (λ t s h.
      after (typing.made_by scopes (typing.name_site site d) d s) (named s) (λ make u g.
      after (typing.new_parameter site (typing.field_names before) d (make t) u) (parameter_type site (typing.field_names before) d (make t) u) (λ c v e.
      here (record {
        base_type = t;
        made_type = make t;
        base_is = h;
        made_is = g t;
        behind = map-append (λ f. f.ty) before (c ∷ []) ∙ ap (λ x. typing.field_types before ++ x ∷ []) e;
      }))))

  mutual
    made_named : (site : Site) (d : d.Declarator) (tags : Tags) → Gives (typing.made_by scopes site d tags) (λ r. (t : CType) → made scopes t d ≡ Some (r.0 t))
    made_named site (d.Name i) tags = here (λ t. refl)
    made_named site d.Absent tags = here (λ t. refl)
    made_named site (d.Parenthesised' place p (d.more_of-Declarator inner d.end_of-Declarator)) tags = made_named site inner tags
    made_named site (d.Pointer' stars p (d.more_of-Declarator inner d.end_of-Declarator)) tags =
        after (typing.made_by scopes site inner tags) (made_named site inner tags) (λ make s h. here (λ t. h (typing.pointers (length stars) t)))
    made_named site (d.Array' p (d.more_of-Declarator inner d.end_of-Declarator) place size) tags =
        after (typing.made_by scopes site inner tags) (made_named site inner tags) (λ make s h. here (λ t. h (array_of t (typing.number_in size))))
    made_named site (d.Function' p (d.more_of-Declarator inner d.end_of-Declarator) place shape ps) tags =
        after (typing.made_by scopes site inner tags) (made_named site inner tags) (λ make s h.
        after (in_turn (typing.parameter_rows scopes site ps) [] s) (parameters_named site ps [] s) (λ us u g.
        here (λ t. ap (option_and_then (λ us. made scopes (Function us t) inner)) (g.found ∙ ap Some (sym g.behind)) ∙ h (Function (typing.field_types us) t))))

    parameters_named : {m : _} (site : Site) (ps : d.Row_of-Parameter m) (before : List Field) (tags : Tags) → Gives (in_turn (typing.parameter_rows scopes site ps) before tags) (λ r. Behind before r.0 (parameters scopes ps))
    parameters_named site d.end_of-Parameter before tags = here (record { types = []; found = refl; behind = sym (append-nil (typing.field_types before)) })
    parameters_named site (d.more_of-Parameter constant first d rest) before tags =
        after (typing.parameter_after site d (typing.base_type scopes site first) (typing.made_by scopes (typing.name_site site d) d) before tags) (parameter_named site first d before tags (λ s. made_named (typing.name_site site d) d s)) (λ fs s e.
        thus (in_turn (typing.parameter_rows scopes site rest) fs s) (parameters_named site rest fs s) (λ r f.
        record {
          types = decay e.made_type ∷ f.types;
          found = ap (option_and_then (λ t. option_and_then (λ u. option_map (λ us. decay u ∷ us) (parameters scopes rest)) (made scopes t d))) e.base_is
              ∙ ap (option_and_then (λ u. option_map (λ us. decay u ∷ us) (parameters scopes rest))) e.made_is
              ∙ ap (option_map (λ us. decay e.made_type ∷ us)) f.found;
          behind = f.behind ∙ ap (λ ts. ts ++ f.types) e.behind ∙ append_assoc (typing.field_types before) (decay e.made_type ∷ []) f.types;
        }))

  declarator_named : (site : Site) (t : CType) (d : d.Declarator) (tags : Tags) → Gives (typing.declarator_type scopes site t d tags) (λ r. made scopes t d ≡ Some r.0)
  declarator_named site t d tags =
      after (typing.made_by scopes (typing.name_site site d) d tags) (made_named (typing.name_site site d) d tags) (λ make s h. here (h t))

  pub type_is_named : (site : Site) (n : TypeName) (tags : Tags) → Gives (typing.type_named scopes site n tags) (λ r. type_named scopes n ≡ Some r.0)
  type_is_named site n tags =
      after (typing.base_type scopes site n.specifiers.base tags) (base_named site n.specifiers.base tags) (λ t s h.
      after (typing.declarator_type scopes site t n.declarator s) (declarator_named site t n.declarator s) (λ made_type u g.
      passing (unless (left_out (typing.limit_site site n.declarator)) (is_within u.structs made_type) u) (λ x v.
      passing (unless (ill_typed site.place) (returns_well made_type) v) (λ y w.
      here (ap (option_and_then (λ t. made scopes t n.declarator)) h ∙ g)))))
