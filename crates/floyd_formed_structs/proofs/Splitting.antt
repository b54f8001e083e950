-- The goal of `split_struct` is well formed.
use Rattle.std.proofs.Common.{◌≡◌, ℕ, Bool, true, false, List, [], ◌∷◌, Option, Some, None, Ok, refl, sym, ap, subst, ◌∙◌}
use Rattle.std.specs.Prelude.{if◌then◌else◌}
use Rattle.std.proofs.lemmas.List.Elements.{All-cons, All-nil}
use Rattle.std.proofs.lemmas.Option.{same_Some}
use Rattle.floyd_ctypes.specs.declared.field.Field as d
use Rattle.floyd_ctypes.specs.Structs.{Structs, fields_of}
use Rattle.floyd_tree_sorts.specs.declared.shape.Shape.{Struct}
use Rattle.floyd_tree.specs.declared.paths.PathStep.TheVariants.{Field}
use Rattle.floyd_tree.specs.Plain.{Plain}
use Rattle.floyd_tree.specs.Types.{SizedType}
use Rattle.floyd_tree_values.specs.Defaults.{value_sort}
use Rattle.floyd_tree_values.specs.Rules.{Scope}
use Rattle.floyd_assert_trees.specs.declared.items.Defs.{Defs}
use Rattle.floyd_assert_trees.specs.declared.sep.Sep.{Sep}
use Rattle.floyd_assert_trees.specs.declared.sep.Sep.TheVariants.{FieldAt, Padding}
use Rattle.floyd_assert_trees.specs.declared.spec.SpecTable.{SpecTable}
use Rattle.floyd_fieldpath.specs.Addresses.{on_type}
use Rattle.floyd_fieldpath.specs.Nested.{type_at}
use Rattle.floyd_fieldpath.specs.Projections.{item_at, project}
use Rattle.floyd_fieldpath.specs.Written.{on_ok}
use Rattle.floyd_fieldpath_laws.specs.Conditions.{IsStep}
use Rattle.floyd_fieldpath_laws.proofs.AddressMeanings.{answered}
use Rattle.floyd_fieldpath_laws.proofs.Meanings.{on_ok_is}
use Rattle.floyd_fieldpath_laws.proofs.SortedItems.{projects_have_sorts}
use Rattle.floyd_goal_trees.specs.declared.args.Args.{Args}
use Rattle.floyd_goal_trees.specs.declared.goal.Goal.{Goal}
use Rattle.floyd_goal_forms.specs.Assertions.{IsStruct, ObjectFits, PartFits, PartsFit, PredicatesOf}
use Rattle.floyd_goal_forms.specs.Goals.{IsWellFormed}
use Rattle.floyd_goal_parts.specs.Sources.{part_number}
use Rattle.floyd_arrays_structs.specs.declared.structs.StructPart.{StructPart}
use Rattle.floyd_arrays_structs.specs.SplitStruct as split
use Rattle.floyd_arrays_structs.specs.StructParts.{field_region, has_padding, padding_parts, struct_of}
use Rattle.floyd_entail_soundness.proofs.Placing.{same_Ok}
use Rattle.floyd_formed_pure.specs.Rows.{AreWellFormed}
use Rattle.floyd_formed_places.proofs.Places.{default_formed, nested_at}
use Rattle.floyd_formed_places.proofs.Putting.{KeepsParts, in_place_formed}
use Rattle.floyd_structs_soundness.proofs.SplittingStructs.{struct_is}
use Rattle.floyd_formed_structs.proofs.Components.{field_fine}
use Rattle.floyd_formed_structs.proofs.Fields.{field_region_fits, one_more}

typed_some : (structs : Structs) (t : SizedType) (x : List ℕ) (v w : Plain) → project structs t (Field x ∷ []) v ≡ Ok w → (u : SizedType) × (type_at structs t (Field x ∷ []) ≡ Some u)
typed_some structs t x v w e = by (type_at structs t (Field x ∷ [])) refl e
  where
    by : (o : Option SizedType) → type_at structs t (Field x ∷ []) ≡ o → on_type o (λ nested. item_at structs t (Field x ∷ []) v) ≡ Ok w → (u : SizedType) × (type_at structs t (Field x ∷ []) ≡ Some u)
    by (Some u) f g = (u, f)
    by None f g = absurd cc

module _ (defs : Defs) (scope : Scope) (s : StructPart) (typed : type_at defs.structs s.region.ty s.region.path ≡ Some s.ty) (shape : s.ty.shape ≡ Struct s.tag) (h : ObjectFits defs scope s.region s.value) where
  abbrev P : Sep → Type 0
  P = PartFits defs scope (PredicatesOf defs scope)

  own_type : h.region.nested ≡ s.ty
  own_type = same_Some {A = SizedType} h.region.nested s.ty (sym h.region.at ∙ typed)

  -- the part of a field
  part_formed : (x : List ℕ) (p : Sep) → split.field_part defs.structs s x ≡ Ok p → P p
  part_formed x p e =
      let a = on_ok_is (project defs.structs s.ty (Field x ∷ []) s.value) (split.field_at s x) p e in
      let u = typed_some defs.structs s.ty x s.value a.0 a.1 in
      let r = field_region s.region x in
      let region = field_region_fits defs scope s.region s.ty typed x u.0 h.region u.1 in
      let at : type_at defs.structs r.ty r.path ≡ Some u.0 = one_more defs.structs (Field x) s.region.path s.region.ty s.ty typed ∙ u.1 in
      let n = nested_at defs scope r u.0 region at in
      let whole = nested_at defs scope s.region s.ty h.region typed in
      let has : value_sort defs.structs s.ty.shape ≡ Some h.sort = subst (λ (w : SizedType). value_sort defs.structs w.shape ≡ Some h.sort) own_type h.is in
      let sorted =
      answered n.sort (project defs.structs s.ty (Field x ∷ []) s.value) a.0
      (projects_have_sorts defs.structs s.ty u.0 (Field x ∷ []) s.value h.sort n.sort whole.sizes (All-cons IsStep (Field x) [] tt (All-nil IsStep)) u.1 has n.has h.term.fits.sorted) a.1 in
      let k = field_fine defs scope s.ty u.0 x s.value a.0 (λ w i. let d = default_formed defs scope r u.0 w region at i in (d.fits.allowed, d.known)) u.1 (h.term.fits.allowed, h.term.known) a.1 in
      let same : region.nested ≡ u.0 = same_Some {A = SizedType} region.nested u.0 (sym region.at ∙ at) in
      let one : P (FieldAt r a.0) = record { region = region; sort = n.sort; is = ap (λ (w : SizedType). value_sort defs.structs w.shape) same ∙ n.has; term = record { fits = record { sorted = sorted; allowed = k.0 }; known = k.1 } } in
      subst P (same_Ok {A = Sep} (FieldAt r a.0) p a.2) one

  parts_formed : (behind : List Sep) (fs : List d.Field) (new : List Sep) → PartsFit defs scope (PredicatesOf defs scope) behind → split.field_parts defs.structs s behind fs ≡ Ok new → PartsFit defs scope (PredicatesOf defs scope) new
  parts_formed behind [] new k e = subst (PartsFit defs scope (PredicatesOf defs scope)) (same_Ok {A = List Sep} behind new e) k
  parts_formed behind (f ∷ fs) new k e =
      let a = on_ok_is (split.field_part defs.structs s f.name) (λ p. on_ok (split.field_parts defs.structs s behind fs) (λ more. Ok (p ∷ more))) new e in
      let b = on_ok_is (split.field_parts defs.structs s behind fs) (λ more. Ok (a.0 ∷ more)) new a.2 in
      subst (PartsFit defs scope (PredicatesOf defs scope)) (same_Ok {A = List Sep} (a.0 ∷ b.0) new b.2) (part_formed f.name a.0 a.1, parts_formed behind fs b.0 k b.1)

  -- the padding
  padding_formed : (fs : List d.Field) → PartsFit defs scope (PredicatesOf defs scope) (padding_parts defs.structs s fs)
  padding_formed fs = by (has_padding defs.structs s.tag fs)
    where
      is_struct : IsStruct h.region.nested.shape
      is_struct = subst IsStruct (sym (ap (λ (w : SizedType). w.shape) own_type ∙ shape)) tt

      by : (b : Bool) → PartsFit defs scope (PredicatesOf defs scope) (if b then (Padding s.region ∷ []) else [])
      by true = ((h.region, is_struct), tt)
      by false = tt

  fields_formed : (o : Option (List d.Field)) (new : List Sep) → split.of_fields defs.structs s o ≡ Ok new → PartsFit defs scope (PredicatesOf defs scope) new
  fields_formed None new e = absurd cc
  fields_formed (Some fs) new e = parts_formed (padding_parts defs.structs s fs) fs new (padding_formed fs) e

split_parts : (defs : Defs) → KeepsParts defs (split.split defs.structs)
split_parts defs scope p new fits made =
    let a = on_ok_is (struct_of defs.structs p) (split.fields_in defs.structs) new made in
    let is = struct_is defs.structs p a.0 a.1 in
    fields_formed defs scope a.0 is.typed is.shape (subst (PartFits defs scope (PredicatesOf defs scope)) is.part_is fits) (fields_of defs.structs a.0.tag) new a.2

pub split_forms : (defs : Defs) (specs : SpecTable) (goal : Goal) (args : Args) (goals : List Goal) → IsWellFormed defs specs goal → split.Row defs.structs goal args (Ok goals) → AreWellFormed defs specs goals
split_forms defs specs goal args goals formed row = in_place_formed defs specs goal (part_number args.target) (split.split defs.structs) goals formed (split_parts defs) row
