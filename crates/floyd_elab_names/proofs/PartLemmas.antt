-- Specifiers and declarators, part by part: what is left once the first parts gave what they give.
use Rattle.std.proofs.Common.{◌≡◌, ℕ, ◌<◌, ◌≤◌, Bool, true, false, not, ◌⊎◌, inl, inr, List, [], ◌∷◌, ◌++◌, map, length, get_or, drop, Result, Ok, Err, ap, sym, ◌∙◌, subst}
use Rattle.floyd_text.specs.declared.refusal.Halt.{Halt}
use Rattle.floyd_text.specs.declared.refusal.Refusal.{Refusal}
use Rattle.floyd_text.specs.Gives.{Stops}
use Rattle.floyd_ctypes.specs.declared.ctype.CType.{CType, Struct}
use Rattle.floyd_ctypes.specs.declared.field.Field.{Field}
use Rattle.floyd_ctypes.specs.Define.{declared}
use Rattle.floyd_ctypes.specs.Structs.{has_tag, is_complete}
use Rattle.floyd_cparse_trees.specs.declared.types.Base as b
use Rattle.floyd_cparse_trees.specs.declared.types.Declarator as d
use Rattle.floyd_cparse_trees.specs.declared.types.FieldDeclaration.{FieldDeclaration}
use Rattle.floyd_cparse_trees.specs.declared.types.Identifier.{Identifier}
use Rattle.floyd_cparse_trees.specs.declared.types.Parameter.{Parameter}
use Rattle.floyd_elab_names.specs.declared.tags.Tags.{Tags}
use Rattle.floyd_elab_names.specs.declared.wraps.Wrap.{Wrap}
use Rattle.floyd_elab_names.specs.Refusals.{Site, redeclared}
use Rattle.floyd_elab_names.specs.Refusing.{and_then, unless, in_turn}
use Rattle.floyd_elab_names.specs.Scopes.{Scopes}
use Rattle.floyd_elab_names.specs.StoredClauses.{AllStored}
use Rattle.floyd_elab_names.specs.Typing.{Typing}
use Rattle.floyd_elab_names.specs.Declarators.{base_type, made_by, begin_fields, complete, name_site, new_field, field_names, new_parameter}
use Rattle.floyd_elab_names.specs.DeclaratorClauses.{add_field, add_fields, add_parameter}
use Rattle.floyd_elab_names.specs.WrapClauses.{wrap_all}
use Rattle.floyd_elab_names.proofs.Growing.{declared_there, fields_ready}
use Rattle.floyd_elab_names.proofs.SpecifierLemmas.{of_struct_with}
use Rattle.floyd_elab_names.proofs.TurnLemmas.{first_done, turn_stops, turn_done}

-- where a struct's fields begin, its tag holds
begin_declares : (tag : Identifier) (s t : Tags) → begin_fields tag s ≡ Ok (tt, t) → t ≡ record { structs = declared s.structs tag.name; completed = s.completed }
begin_declares tag s t = by (not (is_complete (declared s.structs tag.name) tag.name))
  where
    after : Result (Unit {0} × Tags) Refusal → Tags
    after (Ok r) = r.1
    after (Err e) = record { structs = declared s.structs tag.name; completed = s.completed }

    by : (b : Bool) → unless (redeclared tag) b (record { structs = declared s.structs tag.name; completed = s.completed }) ≡ Ok (tt, t) → t ≡ record { structs = declared s.structs tag.name; completed = s.completed }
    by true e = sym (ap after e)
    by false e = sym (ap after e)

module _ (scopes : Scopes) (site : Site) (s t u : Tags) where
  -- a struct with its fields

  abbrev pub behind_fields : Identifier → List Field → Typing CType
  behind_fields tag fields = λ t. and_then (complete tag fields t) (λ done u. Ok (Struct tag.name, u))

  module _ (base : b.Base) (tag : Identifier) (rows all : List FieldDeclaration) (is : base ≡ b.StructWith tag rows) (same : all ≡ rows)
      (begun : begin_fields tag s ≡ Ok (tt, t)) where
    pub of_struct : base_type scopes site base s ≡ and_then (in_turn (map (add_fields scopes site) all) [] t) (behind_fields tag)
    of_struct =
        ap (λ b. base_type scopes site b s) is
        ∙ ap (λ f. f s) (of_struct_with scopes site tag rows)
        ∙ first_done (λ u s1. and_then (in_turn (map (add_fields scopes site) rows) [] s1) (behind_fields tag)) (begin_fields tag s) tt t begun
        ∙ sym (ap (λ (xs : List FieldDeclaration). and_then (in_turn (map (add_fields scopes site) xs) [] t) (behind_fields tag)) same)

    module _ (fields : List Field) (ready : in_turn (map (add_fields scopes site) all) [] t ≡ Ok (fields, u)) where
      pub of_struct_fields : base_type scopes site base s ≡ behind_fields tag fields u
      of_struct_fields = of_struct ∙ first_done (behind_fields tag) (in_turn (map (add_fields scopes site) all) [] t) fields u ready

      pub tag_there : has_tag u.structs tag.name ≡ true
      tag_there =
          (fields_ready scopes site all t fields u ready).0.there tag.name
          (ap (λ x. has_tag x.structs tag.name) (begin_declares tag s t begun) ∙ declared_there tag.name s.structs)

      pub all_stored : (given : List Field) → given ≡ fields → AllStored u.structs given
      all_stored given e = subst (AllStored u.structs) (sym e) (fields_ready scopes site all t fields u ready).1

  -- a field

  abbrev pub behind_type : List Field → Field → Typing (List Field)
  behind_type fields field = λ s. Ok (fields ++ field ∷ [], s)

  pub of_field : (d : d.Declarator) (inner : Site) (wraps : List Wrap) (fields : List Field) (base given whole : CType)
      → inner ≡ name_site site d → made_by scopes inner d s ≡ Ok (wrap_all wraps, t) → given ≡ base → whole ≡ wrap_all wraps given
      → add_field scopes site base d fields s ≡ and_then (new_field site (field_names fields) d whole t) (behind_type fields)
  of_field d inner wraps fields base given whole at made same is =
      first_done (λ make s1. and_then (new_field site (field_names fields) d (make base) s1) (behind_type fields)) (made_by scopes (name_site site d) d s) (wrap_all wraps) t
      (ap (λ i. made_by scopes i d s) (sym at) ∙ made)
      ∙ ap (λ x. and_then (new_field site (field_names fields) d x t) (behind_type fields)) (ap (wrap_all wraps) (sym same) ∙ sym is)

  -- a parameter

  pub of_parameter : (p : Parameter) (inner : Site) (wraps : List Wrap) (ps : List Field) (base whole : CType)
      → base_type scopes site p.specifiers.base s ≡ Ok (base, t) → inner ≡ name_site site p.declarator → made_by scopes inner p.declarator t ≡ Ok (wrap_all wraps, u)
      → whole ≡ wrap_all wraps base
      → add_parameter scopes site p ps s ≡ and_then (new_parameter site (field_names ps) p.declarator whole u) (behind_type ps)
  of_parameter p inner wraps ps base whole first at made is =
      let d = p.declarator in
      first_done (λ x s1. and_then (made_by scopes (name_site site d) d s1) (λ make s2. and_then (new_parameter site (field_names ps) d (make x) s2) (behind_type ps)))
      (base_type scopes site p.specifiers.base s) base t first
      ∙ first_done (λ make s2. and_then (new_parameter site (field_names ps) d (make base) s2) (behind_type ps)) (made_by scopes (name_site site d) d t) (wrap_all wraps) u
      (ap (λ i. made_by scopes i d t) (sym at) ∙ made)
      ∙ ap (λ x. and_then (new_parameter site (field_names ps) d x u) (behind_type ps)) (sym is)

  -- the fields of one base

  module _ (row : FieldDeclaration) (all : List d.Declarator) (base : CType) (fields last : List Field) (i : ℕ)
      (first : base_type scopes site row.specifiers.base s ≡ Ok (base, t)) (same : all ≡ row.declarators)
      (so_far : in_turn (map (add_field scopes site base) (drop i all)) last u ≡ in_turn (map (add_field scopes site base) all) fields t) where
    of_row : add_fields scopes site row fields s ≡ in_turn (map (add_field scopes site base) (drop i all)) last u
    of_row =
        first_done (λ x. in_turn (map (add_field scopes site x) row.declarators) fields) (base_type scopes site row.specifiers.base s) base t first
        ∙ ap (λ (ds : List d.Declarator). in_turn (map (add_field scopes site base) ds) fields t) (sym same)
        ∙ sym so_far

    pub row_done : length all ≤ i → add_fields scopes site row fields s ≡ Ok (last, u)
    row_done h = of_row ∙ turn_done (add_field scopes site base) all i h last u

    pub row_stops : (d : d.Declarator) (given : CType) (halt : Halt) → i < length all → d ≡ get_or all i d → given ≡ base
        → Stops halt (add_field scopes site given d last u) → Stops halt (add_fields scopes site row fields s)
    row_stops d given halt h is same e =
        subst (Stops halt) (sym of_row)
        (turn_stops (add_field scopes site base) all i d h is last u halt (subst (λ (x : CType). Stops halt (add_field scopes site x d last u)) same e))

  -- a declarator that is a name or none
  pub of_bare : (one : d.Declarator) (ws : List Wrap) → ((i : Identifier) × (one ≡ d.Name i)) ⊎ (one ≡ d.Absent) → ws ≡ [] → made_by scopes site one s ≡ Ok (wrap_all ws, s)
  of_bare one ws (inl h) e = ap (λ x. made_by scopes site x s) h.1 ∙ ap (λ (xs : List Wrap). Ok (wrap_all xs, s)) (sym e)
  of_bare one ws (inr h) e = ap (λ x. made_by scopes site x s) h ∙ ap (λ (xs : List Wrap). Ok (wrap_all xs, s)) (sym e)
