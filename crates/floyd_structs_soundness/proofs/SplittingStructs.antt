-- `split_struct`.
use Rattle.std.proofs.Common.{◌≡◌, ℕ, ◌+◌, Bool, true, false, List, [], ◌∷◌, ◌++◌, Option, Some, None, Result, Ok, refl, sym, ap, subst, ◌∙◌}
use Rattle.std.specs.Prelude.{if◌then◌else◌, option_map}
use Rattle.std.specs.List.{AllByRecursion}
use Rattle.std.proofs.lemmas.List.Elements.{All-cons, All-nil}
use Rattle.std.proofs.lemmas.Option.{same_Some}
use Rattle.floyd_text.specs.declared.refusal.No.{No}
use Rattle.floyd_ctypes.specs.declared.field.Field as d
use Rattle.floyd_ctypes.specs.declared.layout.Layout.{Layout}
use Rattle.floyd_ctypes.specs.Layout.{after, nothing_laid, offset_after, padded}
use Rattle.floyd_ctypes.specs.Structs.{Structs, completes, field_of}
use Rattle.floyd_clight_heap.specs.Heaplet.{Heaplet, Joins, empty}
use Rattle.floyd_clight_heap.proofs.Sums.{assoc, left_empty, one_sum, right_empty}
use Rattle.floyd_tree_sorts.specs.declared.shape.Shape.{Shape, Void, Int, Pointer', Array', Struct as StructShape, Function'}
use Rattle.floyd_tree_sorts.specs.declared.sorts.Sort.{Sort}
use Rattle.floyd_tree.specs.declared.paths.PathStep.{PathStep}
use Rattle.floyd_tree.specs.declared.paths.PathStep.TheVariants.{Field as FieldStep, Subscript}
use Rattle.floyd_tree.specs.Plain.{Plain}
use Rattle.floyd_tree.specs.Types.{SizedType}
use Rattle.floyd_tree.specs.WellSorted.{sort_of}
use Rattle.floyd_tree_values.specs.BuiltIns.{Env}
use Rattle.floyd_tree_values.specs.Data.{Datum}
use Rattle.floyd_tree_values.specs.Defaults.{undefined, value_sort}
use Rattle.floyd_tree_values.specs.Means.{Defs as Values, Means}
use Rattle.floyd_assert_cells.specs.Cells.{FieldCells, FormCells, Located, Padding as PaddingCells}
use Rattle.floyd_assert_cells.specs.Forms.{Form, Struct, Fields, FieldAt, EndAt, fields_form, form_layout, form_of, shape_form, struct_form, type_form}
use Rattle.floyd_assert_cells.specs.Items.{field_in, field_value, item_in, on_step}
use Rattle.floyd_assert_cells.specs.Types.{Step, Dot, At}
use Rattle.floyd_assert_cells.proofs.FieldParts.{take_field}
use Rattle.floyd_assert_cells.proofs.FormLaws.{chained, mapped, whole_struct}
use Rattle.floyd_assert_cells.proofs.FormOrders.{IsForm, is_form}
use Rattle.floyd_assert_cells.proofs.ObjectLaws.{opened}
use Rattle.floyd_assert_trees.specs.declared.items.Defs.{Defs}
use Rattle.floyd_assert_trees.specs.declared.sep.Region.{Region}
use Rattle.floyd_assert_trees.specs.declared.sep.Sep.{Sep}
use Rattle.floyd_assert_trees.specs.declared.sep.Sep.TheVariants.{FieldAt as ObjectAt, Padding, Valid, Anything, Predicate}
use Rattle.floyd_assert_trees.specs.declared.spec.SpecTable.{SpecTable}
use Rattle.floyd_assert_meaning.specs.Parts.{ObjectHolds, PartHolds, PartsHold, PathMeans, RegionMeans, gap, object, sized_as}
use Rattle.floyd_assert_meaning.specs.Parts as part
use Rattle.floyd_assert_meaning.specs.Settings.{Setting}
use Rattle.floyd_assert_meaning.proofs.Inversions.{object_of}
use Rattle.floyd_fieldpath.specs.Addresses.{on_type, where_typed}
use Rattle.floyd_fieldpath.specs.Nested.{field_type, nested_type, sized_type, type_after, type_at}
use Rattle.floyd_fieldpath.specs.Projections.{item_at, project}
use Rattle.floyd_fieldpath.specs.Written.{on_ok}
use Rattle.floyd_fieldpath_laws.specs.Conditions.{IsStep}
use Rattle.floyd_fieldpath_laws.specs.Senses.{Sense}
use Rattle.floyd_fieldpath_laws.proofs.Meanings.{on_ok_is}
use Rattle.floyd_fieldpath_laws.proofs.PartMeanings.{part_has_items}
use Rattle.floyd_fieldpath_laws.proofs.TypeSorts.{types_have_sorts}
use Rattle.floyd_goal_forms.specs.Assertions.{ObjectFits, PartFits, PredicatesOf}
use Rattle.floyd_goal_meaning.specs.Programs.{setting}
use Rattle.floyd_part_laws.specs.Laws.{IsPlace}
use Rattle.floyd_part_laws.proofs.Regions.{type_there}
use Rattle.floyd_arrays_structs.specs.declared.structs.StructPart.{StructPart}
use Rattle.floyd_arrays_structs.specs.SplitStruct as split
use Rattle.floyd_arrays_structs.specs.StructParts.{field_region, has_padding, padding_parts, struct_of, with_shape, with_type}
use Rattle.floyd_entail_soundness.proofs.InPlace.{Keeps, is_place, typed_at}
use Rattle.floyd_entail_soundness.proofs.Placing.{same_Ok}
use Rattle.floyd_structs_soundness.specs.Fields.{FieldsDiffer, NamesDiffer}
use Rattle.floyd_structs_soundness.proofs.Gaps.{no_padding}
use Rattle.floyd_structs_soundness.proofs.InStructs.{field_legal, field_there, padding_there}
use Rattle.floyd_structs_soundness.proofs.Named.{Same, all_same, both_parts, first_found, others_found}

-- ---- parts that are structs

pub record StructIs (structs : Structs) (p : Sep) (s : StructPart) : Type 0 where
  pub part_is : p ≡ ObjectAt s.region s.value
  pub typed : type_at structs s.region.ty s.region.path ≡ Some s.ty
  pub shape : s.ty.shape ≡ StructShape s.tag

shaped : (structs : Structs) (r : Region) (v : Plain) (t : SizedType) (s : StructPart) → type_at structs r.ty r.path ≡ Some t → (shape : Shape) → t.shape ≡ shape → with_shape r v t shape ≡ Ok s → StructIs structs (ObjectAt r v) s
shaped structs r v t s e (StructShape tag) f g =
    subst (λ (x : StructPart). StructIs structs (ObjectAt r v) x) (same_Ok {A = StructPart} (record { region = r; value = v; ty = t; tag = tag }) s g) (record { part_is = refl; typed = e; shape = f })
shaped structs r v t s e Void f g = absurd cc
shaped structs r v t s e (Int k) f g = absurd cc
shaped structs r v t s e (Pointer' p u) f g = absurd cc
shaped structs r v t s e (Array' p u) f g = absurd cc
shaped structs r v t s e (Function' q ps p u) f g = absurd cc

pub struct_is : (structs : Structs) (p : Sep) (s : StructPart) → struct_of structs p ≡ Ok s → StructIs structs p s
struct_is structs (ObjectAt r v) s e =
    let a = on_ok_is (nested_type structs r.ty r.path) (with_type r v) s e in
    shaped structs r v a.0 s (typed_at structs r.ty a.0 r.path a.1) a.0.shape refl a.2
struct_is structs (Padding r) s e = absurd cc
struct_is structs (Valid t) s e = absurd cc
struct_is structs Anything s e = absurd cc
struct_is structs (Predicate name terms) s e = absurd cc

-- ---- fields

path_on : (defs : Values) (env : Env) (path : List PathStep) (steps : List Step) (x : List ℕ) → PathMeans defs env path steps → PathMeans defs env (path ++ FieldStep x ∷ []) (steps ++ Dot x ∷ [])
path_on defs env [] [] x m = (refl, tt)
path_on defs env (FieldStep y ∷ path) (Dot z ∷ steps) x m = (m.0, path_on defs env path steps x m.1)
path_on defs env (Subscript t ∷ path) (At i ∷ steps) x m = (m.0, path_on defs env path steps x m.1)
path_on defs env path steps x m = absurd m

typed_some : {A : Type 0} (structs : Structs) (t : SizedType) (path : List PathStep) (r : Result A No) (w : A) → where_typed structs t path r ≡ Ok w → (u : SizedType) × (type_at structs t path ≡ Some u)
typed_some {A} structs t path r w e = by (type_at structs t path) refl e
  where
    by : (o : Option SizedType) → type_at structs t path ≡ o → on_type o (λ nested. r) ≡ Ok w → (u : SizedType) × (type_at structs t path ≡ Some u)
    by (Some u) f g = (u, f)
    by None f g = absurd cc

field_named : (structs : Structs) (t u : SizedType) (tag x : List ℕ) → t.shape ≡ StructShape tag → type_at structs t (FieldStep x ∷ []) ≡ Some u → (f : d.Field) × (field_of structs tag x ≡ Some f)
field_named structs t u tag x shape e =
    let a = chained (λ v. type_at structs v []) (type_after structs t (FieldStep x)) u e in
    let b = mapped (λ (f : d.Field). sized_type f.ty) (field_of structs tag x) a.0 (sym (ap (λ s. field_type structs s x) shape) ∙ a.1) in
    (b.0, b.1)

-- each field is put as a part, and then those that stand behind
module _ (S : Setting) (env : Env) (s : StructPart) (less b o : ℕ) (forms : Fields) (v : Datum) where
  abbrev Puts : Type 0
  Puts = (x : List ℕ) (k : Form) (at : ℕ) (h : Heaplet) (p : Sep) → field_in forms x ≡ Some (record { form = k; offset = at }) → FormCells less b k (field_value forms x v) (o + at) h → split.field_part S.defs.structs s x ≡ Ok p → PartHolds S env p h

  fields_hold : Puts → (of : List ℕ → Option Form) (laid : Layout) (fs : List d.Field) (g : Fields) (w : Datum) (h e k : Heaplet) (behind new : List Sep) → fields_form of laid fs ≡ Some g → NamesDiffer fs → AllByRecursion (λ (f : d.Field). Same forms g v w f.name) fs →
      FieldCells less b g w o h → Joins h e k → PartsHold S env behind e → split.field_parts S.defs.structs s behind fs ≡ Ok new → PartsHold S env new k
  fields_hold put of laid [] g w h e k behind new laid_is differ same cells j rest made =
      let nothing : h ≡ empty = subst (λ z. FieldCells less b z w o h) (sym (same_Some {A = Fields} (EndAt (padded laid).size) g laid_is)) cells in
      let all : e ≡ k = one_sum (left_empty e) (subst (λ z. Joins z e k) nothing j) in
      subst (λ ps. PartsHold S env ps k) (same_Ok {A = List Sep} behind new made) (subst (PartsHold S env behind) all rest)
  fields_hold put of laid (f ∷ fs) g w h e k behind new laid_is differ same cells j rest made =
      let first = chained (λ z. option_map (FieldAt f.name (offset_after laid (form_layout z)) z) (fields_form of (after laid (form_layout z)) fs)) (type_form of f.ty) g laid_is in
      let form = first.0 in
      let at = offset_after laid (form_layout form) in
      let more = mapped (FieldAt f.name at form) (fields_form of (after laid (form_layout form)) fs) g first.2 in
      let t = take_field less b f.name at form more.0 w o h (subst (λ z. FieldCells less b z w o h) (sym more.2) cells) in
      let parts = both_parts more.0 w t.first t.others t.parts in
      let found : AllByRecursion (λ (y : d.Field). Same forms (FieldAt f.name at form more.0) v w y.name) (f ∷ fs) = subst (λ z. AllByRecursion (λ (y : d.Field). Same forms z v w y.name) (f ∷ fs)) (sym more.2) same in
      let here = first_found forms v f.name at form more.0 w f.name refl found.0 in
      let behind_it = others_found forms v f.name at form more.0 w fs differ.0 found.1 in
      let value : field_value forms f.name v ≡ t.first = here.1 ∙ parts.0 in
      let a = on_ok_is (split.field_part S.defs.structs s f.name) (λ p. on_ok (split.field_parts S.defs.structs s behind fs) (λ ps. Ok (p ∷ ps))) new made in
      let c = on_ok_is (split.field_parts S.defs.structs s behind fs) (λ ps. Ok (a.0 ∷ ps)) new a.2 in
      let apart = assoc t.joins j in
      let one = put f.name form at t.here a.0 here.0 (subst (λ z. FormCells less b form z (o + at) t.here) (sym value) t.holds) a.1 in
      let others = fields_hold put of (after laid (form_layout form)) fs more.0 t.others t.behind e apart.0 behind c.0 more.1 differ.1
      (subst (λ z. AllByRecursion (λ (y : d.Field). Same forms more.0 v z y.name) fs) parts.1 behind_it) t.more apart.1 rest c.1 in
      subst (λ ps. PartsHold S env ps k) (same_Ok {A = List Sep} (a.0 ∷ c.0) new c.2) (part.more apart.2 one others)

-- ---- the struct

module _ (S : Setting) (env : Env) (s : StructPart) (differ : FieldsDiffer S.defs.structs) (place : IsPlace S.defs.structs s.region) (typed : type_at S.defs.structs s.region.ty s.region.path ≡ Some s.ty) (shape : s.ty.shape ≡ StructShape s.tag) (sort : Sort) (has : value_sort S.defs.structs s.ty.shape ≡ Some sort) (sorted : sort_of s.value ≡ Some sort) where
  gaps_hold : (m : RegionMeans S.defs env s.region) (l : Located S.defs.structs (sized_as s.region m.sizes) m.path m.root) (less : ℕ) (forms : Fields) (fs : List d.Field) (k : Heaplet) →
      PaddingCells S.defs.structs m.share l.type l.block (l.offset + l.shift) k → (has_padding S.defs.structs s.tag fs ≡ false → k ≡ empty) → PartsHold S env (padding_parts S.defs.structs s fs) k
  gaps_hold m l less forms fs k holds none = by (has_padding S.defs.structs s.tag fs) refl
    where
      by : (t : Bool) → has_padding S.defs.structs s.tag fs ≡ t → PartsHold S env (if t then (Padding s.region ∷ []) else []) k
      by true e = part.more (right_empty k) (gap (m, (l, holds))) (part.none refl)
      by false e = part.none (none e)

  struct_holds : (new : List Sep) (h : Heaplet) → split.fields_in S.defs.structs s ≡ Ok new → ObjectHolds S env s.region s.value h → PartsHold S env new h
  struct_holds new h made (m, v, means, (l, cells)) =
      let structs = S.defs.structs in
      let r = s.region in
      let t = type_there S env r m s.ty l typed in
      let there : l.type.shape ≡ StructShape s.tag = t.shape ∙ shape in
      let q = opened structs m.share l.type v l.block (l.offset + l.shift) h cells in
      let tagged : struct_form (completes structs) structs s.tag ≡ Some q.form = sym (ap (λ z. shape_form (struct_form (completes structs) structs) z l.type.sizes) there) ∙ q.of in
      let w = whole_struct structs s.tag q.form tagged in
      let whole : FormCells q.less l.block (Struct w.forms) v (l.offset + l.shift) h = subst (λ f. FormCells q.less l.block f v (l.offset + l.shift) h) (sym w.same) q.holds in
      let form : struct_form (completes structs) structs s.tag ≡ Some (Struct w.forms) = tagged ∙ ap Some (sym w.same) in
      let of : form_of structs l.type ≡ Some (Struct w.forms) = q.of ∙ ap Some (sym w.same) in
      let order : IsForm (Struct w.forms) = subst IsForm (sym w.same) (is_form structs l.type q.form q.of) in
      let all : split.field_parts structs s (padding_parts structs s w.fields) w.fields ≡ Ok new = sym (ap (split.of_fields structs s) w.is) ∙ made in
      let k = types_have_sorts structs r.ty s.ty r.path place.sort place.sizes place.path typed place.has in
      let gaps = gaps_hold m l q.less w.forms w.fields whole.1 (padding_there structs m.share (sized_as r m.sizes) m.path m.root l s.tag there q.less q.is q.small w.forms of whole.1 whole.4)
      (λ e. no_padding structs s.tag w.fields w.forms q.less l.block (l.offset + l.shift) whole.1 form w.laid order.0 e whole.4) in
      fields_hold S env s q.less l.block (l.offset + l.shift) w.forms v
      (λ x g at c p named holds e.
      let a = on_ok_is (project structs s.ty (FieldStep x ∷ []) s.value) (split.field_at s x) p e in
      let u = typed_some structs s.ty (FieldStep x ∷ []) (item_at structs s.ty (FieldStep x ∷ []) s.value) a.0 a.1 in
      let f = field_named structs s.ty u.0 s.tag x shape u.1 in
      let sense : Sense S.defs env s.ty (FieldStep x ∷ []) = record {
        type = l.type;
        steps = Dot x ∷ [];
        has_sizes = k.sizes;
        is_path = All-cons IsStep (FieldStep x) [] tt (All-nil IsStep);
        shape = t.shape;
        sizes = t.sizes;
        of_path = (refl, tt);
      } in
      let legal = field_legal structs l.type s.tag x f.0 (Struct w.forms) there of f.1 in
      let taken = part_has_items S.defs env m.share s.ty u.0 (FieldStep x ∷ []) sense s.value sort (Struct w.forms) v l.block (l.offset + l.shift) h u.1 has sorted means of legal cells in
      let item : Means S.defs env a.0 (field_value w.forms x v) = subst (Means S.defs env a.0) (ap (λ z. on_step z (λ y. item_in (Struct w.forms) (Dot x) v) undefined) named) (taken.means.item a.0 a.1) in
      let region : RegionMeans S.defs env (field_region r x) = record {
        share = m.share;
        sizes = m.sizes;
        path = m.path ++ Dot x ∷ [];
        root = m.root;
        of_share = m.of_share;
        of_sizes = m.of_sizes;
        of_path = path_on S.defs env r.path m.path x m.of_path;
        of_root = m.of_root;
      } in
      let there_it = field_there structs m.share (sized_as r m.sizes) m.path m.root l s.tag there q.less q.is q.small w.forms of x f.0 g at (field_value w.forms x v) c f.1 named holds in
      subst (λ y. PartHolds S env y c) (same_Ok {A = Sep} (ObjectAt (field_region r x) a.0) p a.2) (object (region, field_value w.forms x v, item, there_it)))
      (struct_form (completes structs) structs) nothing_laid w.fields w.forms v whole.0 whole.1 h (padding_parts structs s w.fields) new w.laid (differ s.tag w.fields w.is) (all_same w.forms v w.fields) whole.3 whole.2 gaps all

pub split_keeps : (defs : Defs) (specs : SpecTable) → FieldsDiffer defs.structs → Keeps defs specs (split.split defs.structs)
split_keeps defs specs differ L more place has scope p new fits made env h holds =
    let S = setting L more place in
    let a = on_ok_is (struct_of defs.structs p) (split.fields_in defs.structs) new made in
    let s = a.0 in
    let is = struct_is defs.structs p s a.1 in
    let o : ObjectFits defs scope s.region s.value = subst (PartFits defs scope (PredicatesOf defs scope)) is.part_is fits in
    let same : o.region.nested ≡ s.ty = same_Some {A = SizedType} o.region.nested s.ty (sym o.region.at ∙ is.typed) in
    let sort : value_sort defs.structs s.ty.shape ≡ Some o.sort = ap (λ (t : SizedType). value_sort defs.structs t.shape) (sym same) ∙ o.is in
    struct_holds S env s
    (subst FieldsDiffer (sym has.structs) differ)
    (subst (λ z. IsPlace z s.region) (sym has.structs) (is_place defs scope s.region o.region))
    (subst (λ z. type_at z s.region.ty s.region.path ≡ Some s.ty) (sym has.structs) is.typed)
    is.shape o.sort
    (subst (λ z. value_sort z s.ty.shape ≡ Some o.sort) (sym has.structs) sort)
    o.term.fits.sorted new h
    (subst (λ z. split.fields_in z s ≡ Ok new) (sym has.structs) a.2)
    (object_of (subst (λ q. PartHolds S env q h) is.part_is holds))
