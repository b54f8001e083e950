-- `join_struct`.
use Rattle.std.proofs.Common.{◌≡◌, inl, inr, ℕ, zero, suc, ◌+◌, ◌-◌, Bool, true, false, pos, List, [], ◌∷◌, ◌++◌, length, take, drop, Option, Some, None, Result, Ok, refl, sym, ap, ap₂, subst, ◌∙◌, bytes_eq, arith}
use Rattle.std.specs.Prelude.{if◌then◌else◌, option_map, slice_get}
use Rattle.std.specs.List.{AllByRecursion}
use Rattle.std.proofs.lemmas.Option.{same_Some}
use Rattle.std.proofs.lemmas.Slice.Eq.{bytes_eq-Decides}
use Rattle.floyd_text.specs.declared.refusal.No.{No}
use Rattle.floyd_ctypes.specs.declared.field.Field.{Field}
use Rattle.floyd_ctypes.specs.declared.layout.Layout.{Layout}
use Rattle.floyd_ctypes.specs.Layout.{after, nothing_laid, offset_after, padded}
use Rattle.floyd_ctypes.specs.Structs.{Structs, completes, fields_of}
use Rattle.floyd_clight_heap.specs.Heaplet.{Heaplet, Joins, empty}
use Rattle.floyd_clight_heap.proofs.Sums.{one_sum, right_empty}
use Rattle.floyd_clight_machine.specs.Evaluation.{Temps}
use Rattle.floyd_tree_sorts.specs.declared.operators.Operator.TheVariants as o
use Rattle.floyd_tree_sorts.specs.declared.shape.Shape.{Struct as StructShape}
use Rattle.floyd_tree.specs.declared.paths.PathStep.{PathStep}
use Rattle.floyd_tree.specs.declared.paths.PathStep.TheVariants.{Field as FieldStep, Subscript}
use Rattle.floyd_tree.specs.Plain.{Plain}
use Rattle.floyd_tree_values.specs.BuiltIns.{Env}
use Rattle.floyd_tree_values.specs.Data.{Datum, Number, Pair}
use Rattle.floyd_tree_values.specs.Defaults.{undefined}
use Rattle.floyd_tree_values.specs.Means.{Means}
use Rattle.floyd_tree_values.proofs.OneValue.{one_value}
use Rattle.floyd_assert.specs.Removal.{Difference}
use Rattle.floyd_assert_cells.specs.Cells.{Cells, FieldCells, FormCells, FormPadding, HasExactly, Located, Padding as PaddingCells, PaddingPart, is_padding, parted}
use Rattle.floyd_assert_cells.specs.Forms.{Form, Struct, Fields, EndAt, FieldAt, fields_form, form_layout, form_of, shape_form, struct_form, type_form}
use Rattle.floyd_assert_cells.specs.Items.{field_in}
use Rattle.floyd_assert_cells.specs.Types.{Dot}
use Rattle.floyd_assert_cells.proofs.Exact.{exact_empty}
use Rattle.floyd_assert_cells.proofs.FieldParts.{put_field, some_and}
use Rattle.floyd_assert_cells.proofs.FormLaws.{chained, mapped, whole_struct}
use Rattle.floyd_assert_cells.proofs.FormOrders.{IsForm, is_form}
use Rattle.floyd_assert_cells.proofs.ObjectLaws.{closed, opened}
use Rattle.floyd_assert_trees.specs.declared.assertion.Assertion.{Assertion}
use Rattle.floyd_assert_trees.specs.declared.items.Defs.{Defs}
use Rattle.floyd_assert_trees.specs.declared.sep.Region.{Region}
use Rattle.floyd_assert_trees.specs.declared.sep.Sep.{Sep}
use Rattle.floyd_assert_trees.specs.declared.sep.Sep.TheVariants.{FieldAt as ObjectAt, Padding, Valid, Anything, Predicate}
use Rattle.floyd_assert_trees.specs.declared.spec.SpecTable.{SpecTable}
use Rattle.floyd_assert_meaning.specs.Assertions.{Holds}
use Rattle.floyd_assert_meaning.specs.Parts.{PartHolds, PartsHold, RegionMeans, object, sized_as}
use Rattle.floyd_assert_meaning.specs.Settings.{Setting, with_data}
use Rattle.floyd_assert_meaning.proofs.Inversions.{gap_of, more_of, none_of, object_of}
use Rattle.floyd_assert_meaning.proofs.Orders.{apart}
use Rattle.floyd_fieldpath.specs.Nested.{type_at}
use Rattle.floyd_fieldpath.specs.Sums.{two}
use Rattle.floyd_fieldpath.specs.Updates.{pair}
use Rattle.floyd_fieldpath_laws.proofs.Meanings.{on_ok_is, two_mean, written_means}
use Rattle.floyd_goal_trees.specs.Contexts.{after_command, context_of}
use Rattle.floyd_goal_trees.specs.declared.args.Args.{Args}
use Rattle.floyd_goal_trees.specs.declared.goal.Goal.{Goal}
use Rattle.floyd_goal_forms.specs.Goals.{IsWellFormed}
use Rattle.floyd_goal_laws.proofs.Givens.{given_after}
use Rattle.floyd_goal_meaning.specs.GoalHolds.{HoldsFor}
use Rattle.floyd_goal_meaning.specs.Programs.{setting}
use Rattle.floyd_goal_parts.specs.Sources.{from_source, in_place, part_at, part_number, part_of, source_of, with_parts}
use Rattle.floyd_part_laws.proofs.Regions.{type_there}
use Rattle.floyd_arrays_structs.specs.declared.join_struct.Joined.{Joined}
use Rattle.floyd_arrays_structs.specs.declared.objects.Found as found
use Rattle.floyd_arrays_structs.specs.declared.structs.StructPart.{StructPart}
use Rattle.floyd_arrays_structs.specs.JoinStruct as join
use Rattle.floyd_arrays_structs.specs.StructParts.{field_region, has_padding, padding_parts, struct_at}
use Rattle.floyd_shares.specs.Chains.{When}
use Rattle.floyd_shares_soundness.proofs.OnePlace.{at_one_place, one_root, one_sizes, one_steps}
use Rattle.floyd_shares_soundness.proofs.Sharing.{after_is, then_is}
use Rattle.floyd_entail_soundness.proofs.Placing.{alone, put_there, same_Ok}
use Rattle.floyd_entail_soundness.proofs.Sources.{from_other, no_existentials, part_found, parts_alone}
use Rattle.floyd_entail_soundness.proofs.Written.{written_sorted}
use Rattle.floyd_structs_soundness.specs.Fields.{FieldsDiffer, NamesDiffer}
use Rattle.floyd_structs_soundness.proofs.AtFields.{at_field, at_one, field_here, front, number_is}
use Rattle.floyd_structs_soundness.proofs.Gaps.{nothing_between}
use Rattle.floyd_structs_soundness.proofs.SplittingStructs.{struct_is}
use Rattle.floyd_structs_soundness.proofs.Spots.{all_gone, whole_there}

-- ---- objects at fields

abbrev objects : Region → List Field → List Plain → List Sep
objects r (f ∷ fs) (v ∷ vs) = ObjectAt (field_region r f.name) v ∷ objects r fs vs
objects r fs vs = []

abbrev OneEach : List Field → List Plain → Type 0
OneEach [] [] = Unit {0}
OneEach (f ∷ fs) (v ∷ vs) = OneEach fs vs
OneEach fs vs = ⊥

found_objects : (r : Region) (parts : List Sep) (fs : List Field) (all : found.Found) → join.IsFound r parts fs (Ok all) → OneEach fs all.values × (all.objects ≡ objects r fs all.values)
found_objects r parts [] all h =
    let same : all ≡ join.none_found = same_Ok {A = found.Found} all join.none_found h in
    subst (λ (x : found.Found). OneEach [] x.values × (x.objects ≡ objects r [] x.values)) (sym same) (tt, refl)
found_objects r parts (f ∷ fs) all h =
    let a = after_is (join.IsValue (field_region r f.name) parts) (join.Before (field_region r f.name) (join.IsFound r parts fs)) all h in
    let b = after_is (join.IsFound r parts fs) (λ (more : found.Found) (answer : Result found.Found No). answer ≡ Ok (join.with_first (field_region r f.name) a.0 more)) all a.2 in
    let same : all ≡ join.with_first (field_region r f.name) a.0 b.0 = same_Ok {A = found.Found} all (join.with_first (field_region r f.name) a.0 b.0) b.2 in
    let rest = found_objects r parts fs b.0 b.1 in
    subst (λ (x : found.Found). OneEach (f ∷ fs) x.values × (x.objects ≡ objects r (f ∷ fs) x.values)) (sym same)
    (rest.0, ap (λ ps. ObjectAt (field_region r f.name) a.0 ∷ ps) rest.1)

-- ---- their bytes

abbrev Alike : Fields → Fields → List Field → Type 0
Alike forms g fs = AllByRecursion (λ (f : Field). field_in forms f.name ≡ field_in g f.name) fs

others_alike : (forms rest : Fields) (name : List ℕ) (at : ℕ) (k : Form) (fs : List Field) → AllByRecursion (λ (g : Field). bytes_eq g.name name ≡ false) fs → Alike forms (FieldAt name at k rest) fs → Alike forms rest fs
others_alike forms rest name at k [] differ same = tt
others_alike forms rest name at k (f ∷ fs) differ same =
    (same.0 ∙ ap (λ t. if t then Some (record { form = k; offset = at }) else field_in rest f.name) differ.0, others_alike forms rest name at k fs differ.1 same.1)

alike_all : (forms : Fields) (fs : List Field) → Alike forms forms fs
alike_all forms [] = tt
alike_all forms (f ∷ fs) = (refl, alike_all forms fs)

pair_parted : (of : List ℕ → Option Form) (laid : Layout) (f : Field) (fs : List Field) (g : Fields) (a b : Datum) → fields_form of laid (f ∷ fs) ≡ Some g → parted g (Pair a b) ≡ Some (a, b)
pair_parted of laid f fs g a b e =
    let first = chained (λ z. option_map (FieldAt f.name (offset_after laid (form_layout z)) z) (fields_form of (after laid (form_layout z)) fs)) (type_form of f.ty) g e in
    let more = mapped (FieldAt f.name (offset_after laid (form_layout first.0)) first.0) (fields_form of (after laid (form_layout first.0)) fs) g first.2 in
    ap (λ z. parted z (Pair a b)) (sym more.2)

module _ (S : Setting) (env : Env) (r : Region) (less b base : ℕ) (forms : Fields) where
  abbrev Takes : Type 0
  Takes = (x : List ℕ) (k : Form) (at : ℕ) (v : Plain) (h : Heaplet) → field_in forms x ≡ Some (record { form = k; offset = at }) → PartHolds S env (ObjectAt (field_region r x) v) h → (d : Datum) × Means S.defs env v d × FormCells less b k d (base + at) h

  fields_join : Takes → (of : List ℕ → Option Form) (laid : Layout) (fs : List Field) (g : Fields) (vs : List Plain) (z : Plain) (h : Heaplet) → fields_form of laid fs ≡ Some g → NamesDiffer fs → Alike forms g fs → OneEach fs vs → join.pairs vs ≡ Ok z → PartsHold S env (objects r fs vs) h →
      (d : Datum) × Means S.defs env z d × FieldCells less b g d base h
  fields_join take of laid [] g [] z h laid_is differ same one e m = absurd cc
  fields_join take of laid [] g (v ∷ vs) z h laid_is differ same one e m = absurd one
  fields_join take of laid (f ∷ fs) g [] z h laid_is differ same one e m = absurd one
  fields_join take of laid (f ∷ []) g (v ∷ w ∷ vs) z h laid_is differ same one e m = absurd one
  fields_join take of laid (f ∷ f2 ∷ fs) g (v ∷ []) z h laid_is differ same one e m = absurd one
  fields_join take of laid (f ∷ []) g (v ∷ []) z h laid_is differ same one e m =
      let first = chained (λ k. option_map (FieldAt f.name (offset_after laid (form_layout k)) k) (fields_form of (after laid (form_layout k)) [])) (type_form of f.ty) g laid_is in
      let k = first.0 in
      let at = offset_after laid (form_layout k) in
      let size = (padded (after laid (form_layout k))).size in
      let g_is : FieldAt f.name at k (EndAt size) ≡ g = same_Some {A = Fields} (FieldAt f.name at k (EndAt size)) g first.2 in
      let named : field_in forms f.name ≡ Some (record { form = k; offset = at }) = same.0 ∙ ap (λ y. field_in y f.name) (sym g_is) ∙ ap (λ t. if t then Some (record { form = k; offset = at }) else None) ((bytes_eq-Decides f.name f.name).1 refl) in
      let x = more_of m in
      let d = take f.name k at v x.here named x.first in
      let cells : FieldCells less b (FieldAt f.name at k (EndAt size)) d.0 base h = put_field less b f.name at k (EndAt size) d.0 d.0 undefined base x.here x.others h refl x.joins d.2 (none_of x.rest) in
      let v_is : v ≡ z = same_Ok {A = Plain} v z e in
      (d.0, subst (λ y. Means S.defs env y d.0) v_is d.1, subst (λ y. FieldCells less b y d.0 base h) g_is cells)
  fields_join take of laid (f ∷ f2 ∷ fs) g (v ∷ w ∷ vs) z h laid_is differ same one e m =
      let first = chained (λ k. option_map (FieldAt f.name (offset_after laid (form_layout k)) k) (fields_form of (after laid (form_layout k)) (f2 ∷ fs))) (type_form of f.ty) g laid_is in
      let k = first.0 in
      let at = offset_after laid (form_layout k) in
      let more = mapped (FieldAt f.name at k) (fields_form of (after laid (form_layout k)) (f2 ∷ fs)) g first.2 in
      let alike : Alike forms (FieldAt f.name at k more.0) (f ∷ f2 ∷ fs) = subst (λ y. Alike forms y (f ∷ f2 ∷ fs)) (sym more.2) same in
      let named : field_in forms f.name ≡ Some (record { form = k; offset = at }) = alike.0 ∙ ap (λ t. if t then Some (record { form = k; offset = at }) else field_in more.0 f.name) ((bytes_eq-Decides f.name f.name).1 refl) in
      let x = more_of m in
      let d = take f.name k at v x.here named x.first in
      let a = on_ok_is (join.pairs (w ∷ vs)) (pair v) z e in
      let rest = fields_join take of (after laid (form_layout k)) (f2 ∷ fs) more.0 (w ∷ vs) a.0 x.others more.1 differ.1 (others_alike forms more.0 f.name at k (f2 ∷ fs) differ.0 alike.1) one a.1 x.rest in
      let s = written_sorted (two o.Pair v a.0) z a.2 in
      let means : Means S.defs env z (Pair d.0 rest.0) = written_means S.defs env (two o.Pair v a.0) z (Pair d.0 rest.0) a.2 (two_mean S.defs env o.Pair s.0 v a.0 d.0 rest.0 s.1 d.1 rest.1) in
      let cells : FieldCells less b (FieldAt f.name at k more.0) (Pair d.0 rest.0) base h = put_field less b f.name at k more.0 (Pair d.0 rest.0) d.0 rest.0 base x.here x.others h (pair_parted of (after laid (form_layout k)) f2 fs more.0 d.0 rest.0 more.1) x.joins d.2 rest.2 in
      (Pair d.0 rest.0, means, subst (λ y. FieldCells less b y (Pair d.0 rest.0) base h) more.2 cells)

-- ---- the struct

module _ (S : Setting) (env : Env) (r : Region) (tag : List ℕ) (m : RegionMeans S.defs env r) (l : Located S.defs.structs (sized_as r m.sizes) m.path m.root) where
  -- its padding lies there too
  padding_here : (less : ℕ) (forms : Fields) (k : Heaplet) → m.share ≡ pos (suc less) → form_of S.defs.structs l.type ≡ Some (Struct forms) → PartHolds S env (Padding r) k → HasExactly less l.block (is_padding (l.offset + l.shift) forms) k
  padding_here less forms k is of holds =
      let structs = S.defs.structs in
      let g = gap_of holds in
      let n = g.0 in
      let share : n.share ≡ m.share = number_is n.share m.share (one_value S.defs n.of_share (Number m.share) m.of_share) in
      let part = subst (λ z. PaddingPart structs m.share (sized_as r m.sizes) m.path z k) (one_root S.defs env r r.share r.share m n)
      (subst (λ is. PaddingPart structs m.share (sized_as r m.sizes) is n.root k) (one_steps S.defs env r r.share r.share m n)
      (subst (λ ns. PaddingPart structs m.share (sized_as r ns) n.path n.root k) (one_sizes S.defs env r r.share r.share m n)
      (subst (λ z. PaddingPart structs z (sized_as r n.sizes) n.path n.root k) share g.1))) in
      let there : PaddingCells structs m.share l.type l.block (l.offset + l.shift) k = at_one_place (λ t b o h. PaddingCells structs m.share t b o h) structs (sized_as r m.sizes) m.path m.root l part.0 k part.1 in
      let known : PaddingCells structs (pos (suc less)) l.type l.block (l.offset + l.shift) k = subst (λ z. PaddingCells structs z l.type l.block (l.offset + l.shift) k) is there in
      let f = some_and (form_of structs l.type) (λ f. FormPadding f less l.block (l.offset + l.shift) k) known.1 in
      let same : f.0 ≡ Struct forms = same_Some {A = Form} f.0 (Struct forms) (sym f.1 ∙ of) in
      subst (λ y. FormPadding y less l.block (l.offset + l.shift) k) same f.2

module _ (S : Setting) (env : Env) (s : StructPart) (differ : FieldsDiffer S.defs.structs) (typed : type_at S.defs.structs s.region.ty s.region.path ≡ Some s.ty) (shape : s.ty.shape ≡ StructShape s.tag) where
  struct_whole : (f : Field) (fs : List Field) (vs : List Plain) (v z : Plain) (h : Heaplet) → fields_of S.defs.structs s.tag ≡ Some (f ∷ fs) → OneEach fs vs → join.pairs (v ∷ vs) ≡ Ok z →
      PartsHold S env (objects s.region (f ∷ fs) (v ∷ vs) ++ padding_parts S.defs.structs s (f ∷ fs)) h → PartHolds S env (ObjectAt s.region z) h
  struct_whole f fs vs v z h fields one made holds =
      let structs = S.defs.structs in
      let r = s.region in
      let c = apart S env (objects r (f ∷ fs) (v ∷ vs)) (padding_parts structs s (f ∷ fs)) h holds in
      let x = more_of c.3 in
      let a = at_field S env r f.name v x.here (object_of x.first) in
      let m = a.means in
      let t = front structs (sized_as r m.sizes) m.path (Dot f.name) m.root a.part.0 in
      let l = t.place in
      let u = type_there S env r m s.ty l typed in
      let there : l.type.shape ≡ StructShape s.tag = u.shape ∙ shape in
      let tagged : struct_form (completes structs) structs s.tag ≡ Some t.form = sym (ap (λ y. shape_form (struct_form (completes structs) structs) y l.type.sizes) there) ∙ t.of in
      let w = whole_struct structs s.tag t.form tagged in
      let of : form_of structs l.type ≡ Some (Struct w.forms) = t.of ∙ ap Some (sym w.same) in
      let form : struct_form (completes structs) structs s.tag ≡ Some (Struct w.forms) = tagged ∙ ap Some (sym w.same) in
      let order : IsForm (Struct w.forms) = subst IsForm (sym w.same) (is_form structs l.type t.form t.of) in
      let laid : fields_form (struct_form (completes structs) structs) nothing_laid (f ∷ fs) ≡ Some w.forms = subst (λ y. fields_form (struct_form (completes structs) structs) nothing_laid y ≡ Some w.forms) (same_Some {A = List Field} w.fields (f ∷ fs) (sym w.is ∙ fields)) w.laid in
      let share = opened structs m.share a.part.0.type a.datum a.part.0.block (a.part.0.offset + a.part.0.shift) x.here a.part.1 in
      let less = share.less in
      let base = l.offset + l.shift in
      let all = fields_join S env r less l.block base w.forms
      (λ y k at p g named part.
      let b = at_field S env r y p g (object_of part) in
      (b.datum, b.of_value, field_here structs m.share (sized_as r m.sizes) m.path m.root l less w.forms y k at b.datum g share.is of named (at_one S env r y p g m b)))
      (struct_form (completes structs) structs) nothing_laid (f ∷ fs) w.forms (v ∷ vs) z c.0 laid (differ s.tag (f ∷ fs) fields) (alike_all w.forms (f ∷ fs)) one made c.3 in
      let gaps : HasExactly less l.block (is_padding base w.forms) c.1 = gap_by m l less w.forms of share.is form laid order c.1 (has_padding structs s.tag (f ∷ fs)) refl c.4 in
      let whole : FormCells less l.block (Struct w.forms) all.0 base h = (c.0, c.1, c.2, all.2, gaps) in
      let cells : Cells structs m.share l.type all.0 l.block base h = subst (λ y. Cells structs y l.type all.0 l.block base h) (sym share.is) (closed structs less l.type all.0 l.block base h (Struct w.forms) share.small of whole) in
      object (m, all.0, all.1, (l, cells))
    where
      gap_by : (m : RegionMeans S.defs env s.region) (l : Located S.defs.structs (sized_as s.region m.sizes) m.path m.root) (less : ℕ) (forms : Fields) → form_of S.defs.structs l.type ≡ Some (Struct forms) → m.share ≡ pos (suc less) → struct_form (completes S.defs.structs) S.defs.structs s.tag ≡ Some (Struct forms) →
          fields_form (struct_form (completes S.defs.structs) S.defs.structs) nothing_laid (f ∷ fs) ≡ Some forms → IsForm (Struct forms) → (k : Heaplet) (t : Bool) → has_padding S.defs.structs s.tag (f ∷ fs) ≡ t → PartsHold S env (if t then (Padding s.region ∷ []) else []) k → HasExactly less l.block (is_padding (l.offset + l.shift) forms) k
      gap_by m l less forms of is form laid order k true e holds =
          let x = more_of holds in
          let nothing : x.others ≡ empty = none_of x.rest in
          let same : x.here ≡ k = one_sum (right_empty x.here) (subst (λ y. Joins x.here y k) nothing x.joins) in
          padding_here S env s.region s.tag m l less forms k is of (subst (PartHolds S env (Padding s.region)) same x.first)
      gap_by m l less forms of is form laid order k false e holds =
          subst (HasExactly less l.block (is_padding (l.offset + l.shift) forms)) (sym (none_of holds))
          (exact_empty less l.block (is_padding (l.offset + l.shift) forms) (nothing_between S.defs.structs s.tag (f ∷ fs) forms (l.offset + l.shift) form laid order.0 e))

-- ---- the row

-- where a path ends
cut_last : (path : List PathStep) (n : ℕ) (y : PathStep) → slice_get path n ≡ Some y → length path ≡ suc n → take n path ++ y ∷ [] ≡ path
cut_last [] n y e k = absurd cc
cut_last (z ∷ []) zero y e k = ap (λ x. x ∷ []) (sym (same_Some {A = PathStep} z y e))
cut_last (z ∷ w ∷ path) zero y e k = absurd (omega (arith, k))
cut_last (z ∷ path) (suc n) y e k = ap (λ xs. z ∷ xs) (cut_last path n y e (omega (arith, k)))

ends : (path : List PathStep) (x : List ℕ) → join.last_field path ≡ Some x → join.outer_path path ++ FieldStep x ∷ [] ≡ path
ends [] x e = absurd cc
ends (z ∷ path) x e = by (join.last_step (z ∷ path)) refl e
  where
    by : (s : Option PathStep) → join.last_step (z ∷ path) ≡ s → join.name_in s ≡ Some x → join.outer_path (z ∷ path) ++ FieldStep x ∷ [] ≡ z ∷ path
    by None f g = absurd cc
    by (Some (Subscript t)) f g = absurd cc
    by (Some (FieldStep y)) f g =
        let same : y ≡ x = same_Some {A = List ℕ} y x g in
        subst (λ n. join.outer_path (z ∷ path) ++ FieldStep n ∷ [] ≡ z ∷ path) same (cut_last (z ∷ path) (length (z ∷ path) - 1) (FieldStep y) f (omega arith))

record JoinIs (structs : Structs) (p : Sep) (j : Joined) : Type 0 where
  pub s : StructPart
  pub typed : type_at structs s.region.ty s.region.path ≡ Some s.ty
  pub shape : s.ty.shape ≡ StructShape s.tag
  pub f : Field
  pub fs : List Field
  pub fields : fields_of structs s.tag ≡ Some (f ∷ fs)
  pub first_is : p ≡ ObjectAt (field_region s.region f.name) s.value
  pub values : List Plain
  pub one : OneEach fs values
  pub value : Plain
  pub made : join.pairs (s.value ∷ values) ≡ Ok value
  pub whole_is : j.whole ≡ ObjectAt s.region value
  pub gone_is : j.gone ≡ objects s.region fs values ++ padding_parts structs s (f ∷ fs)

same_object : (r k : Region) (v w : Plain) → ObjectAt r v ≡ ObjectAt k w → (r ≡ k) × (v ≡ w)
same_object r k v w e = (cc, cc)

module _ (structs : Structs) (parts : List Sep) (region : Region) (v : Plain) (x : List ℕ) (last : join.last_field region.path ≡ Some x) (j : Joined) where
  of_fields : (s : StructPart) → struct_at structs (join.around region) v ≡ Ok s → (fields : List Field) → fields_of structs s.tag ≡ Some fields → (t : Bool) → join.is_first fields x ≡ t → When t (join.OfFields structs parts s fields) (Ok j) → JoinIs structs (ObjectAt region v) j
  of_fields s e fields g false b h = absurd cc
  of_fields s e [] g true b h = absurd cc
  of_fields s e (f ∷ fs) g true b h =
      let a = after_is (join.IsFound s.region parts fs) (join.OfFound s (padding_parts structs s (f ∷ fs)) parts) j h in
      let is = struct_is structs (ObjectAt (join.around region) v) s e in
      let same = same_object (join.around region) s.region v s.value is.part_is in
      let name : x ≡ f.name = (bytes_eq-Decides x f.name).0 b in
      let there : region ≡ field_region (join.around region) x = ap (λ path. record { share = region.share; ty = region.ty; path = path; root = region.root }) (sym (ends region.path x last)) in
      let listed = found_objects s.region parts fs a.0 a.1 in
      by is.typed is.shape (ap₂ (λ k w. ObjectAt k w) (there ∙ ap₂ (λ k n. field_region k n) same.0 name) same.1) a.0 listed.0 listed.1 a.2
    where
      by : type_at structs s.region.ty s.region.path ≡ Some s.ty → s.ty.shape ≡ StructShape s.tag → ObjectAt region v ≡ ObjectAt (field_region s.region f.name) s.value → (all : found.Found) → OneEach fs all.values → all.objects ≡ objects s.region fs all.values →
          join.OfFound s (padding_parts structs s (f ∷ fs)) parts all (Ok j) → JoinIs structs (ObjectAt region v) j
      by typed shape first all one os (inl k) =
          let wrong = k.1 in
          absurd cc
      by typed shape first all one os (inr k) =
          let z = on_ok_is (join.pairs (s.value ∷ all.values)) (join.joined s.region (all.objects ++ padding_parts structs s (f ∷ fs))) j (sym k.1) in
          let same : record { whole = ObjectAt s.region z.0; gone = all.objects ++ padding_parts structs s (f ∷ fs) } ≡ j = same_Ok {A = Joined} (record { whole = ObjectAt s.region z.0; gone = all.objects ++ padding_parts structs s (f ∷ fs) }) j z.2 in
          record {
            s = s;
            typed = typed;
            shape = shape;
            f = f;
            fs = fs;
            fields = g;
            first_is = first;
            values = all.values;
            one = one;
            value = z.0;
            made = z.1;
            whole_is = ap (λ (y : Joined). y.whole) (sym same);
            gone_is = ap (λ (y : Joined). y.gone) (sym same) ∙ ap (λ ps. ps ++ padding_parts structs s (f ∷ fs)) os;
          }

  of_tag : (s : StructPart) → struct_at structs (join.around region) v ≡ Ok s → (fields : Option (List Field)) → fields_of structs s.tag ≡ fields → join.OfTag structs parts s x fields (Ok j) → JoinIs structs (ObjectAt region v) j
  of_tag s e None g h = absurd cc
  of_tag s e (Some fields) g h = of_fields s e fields g (join.is_first fields x) refl h

join_is : (structs : Structs) (parts : List Sep) (p : Sep) (j : Joined) → join.IsJoined structs parts p (Ok j) → JoinIs structs p j
join_is structs parts (ObjectAt region v) j h = by (join.last_field region.path) refl h
  where
    by : (x : Option (List ℕ)) → join.last_field region.path ≡ x → join.OfName structs parts region v x (Ok j) → JoinIs structs (ObjectAt region v) j
    by None e k = absurd cc
    by (Some x) e k =
        let a = then_is (struct_at structs (join.around region) v) (join.OfWhole structs parts x) j k in
        of_tag structs parts region v x e j a.0 a.1 (fields_of structs a.0.tag) refl a.2
join_is structs parts (Padding r) j h = absurd cc
join_is structs parts (Valid t) j h = absurd cc
join_is structs parts Anything j h = absurd cc
join_is structs parts (Predicate name terms) j h = absurd cc

-- the struct is none of the parts that are taken out
longer : (path : List PathStep) (y : PathStep) → length path ≡ length (path ++ y ∷ []) → ⊥
longer [] y e = absurd (omega (arith, e))
longer (z ∷ path) y e = longer path y (omega (arith, e))

none_whole : (r : Region) (z : Plain) (fs : List Field) (vs : List Plain) (more : List Sep) → AllByRecursion (λ g. ¬ (ObjectAt r z ≡ g)) more → AllByRecursion (λ g. ¬ (ObjectAt r z ≡ g)) (objects r fs vs ++ more)
none_whole r z [] vs more h = h
none_whole r z (f ∷ fs) [] more h = h
none_whole r z (f ∷ fs) (v ∷ vs) more h = (
  λ e. longer r.path (FieldStep f.name) (ap (λ (k : Region). length k.path) (same_object r (field_region r f.name) z v e).0),
  none_whole r z fs vs more h,
)

not_padding : (r k : Region) (z : Plain) → ObjectAt r z ≡ Padding k → ⊥
not_padding r k z e = absurd cc

no_whole : (structs : Structs) (s : StructPart) (z : Plain) (fs : List Field) → AllByRecursion (λ g. ¬ (ObjectAt s.region z ≡ g)) (padding_parts structs s fs)
no_whole structs s z fs = by (has_padding structs s.tag fs)
  where
    by : (t : Bool) → AllByRecursion (λ g. ¬ (ObjectAt s.region z ≡ g)) (if t then (Padding s.region ∷ []) else [])
    by true = (λ e. not_padding s.region s.region z e, tt)
    by false = tt

source_rest : (S : Setting) (env : Env) (goal : Goal) (source : Assertion) (rest : List Sep) → source_of goal ≡ Ok source → ((h : Heaplet) → PartsHold S env source.parts h → PartsHold S env rest h) → (temps : Temps) (h : Heaplet) → Holds S env source temps h → Holds S env (with_parts source rest) temps h
source_rest S env goal source rest is f temps h y =
    let none = no_existentials goal source is in
    record {
      witnesses = y.witnesses;
      sorted = y.sorted;
      props = y.props;
      locals = y.locals;
      parts = subst (λ bs. PartsHold S (with_data env bs y.witnesses) rest h) (sym none) (f h (parts_alone S env source temps h none y));
    }

in_front : (xs : List Sep) (x : Sep) (ys : List Sep) → (xs ++ x ∷ []) ++ ys ≡ xs ++ x ∷ ys
in_front [] x ys = refl
in_front (z ∷ xs) x ys = ap (λ zs. z ∷ zs) (in_front xs x ys)

placed_is : (number : ℕ) (parts : List Sep) (x : Sep) → in_place number (x ∷ []) parts ≡ take (number - 1) parts ++ x ∷ drop number parts
placed_is number parts x = in_front (take (number - 1) parts) x (drop number parts)

-- what is left, where the whole holds of one part together with those that are gone
parts_joined : (S : Setting) (env : Env) (parts : List Sep) (number : ℕ) (p whole : Sep) (gone rest : List Sep) → part_at parts number ≡ Ok p → AllByRecursion (λ g. ¬ (whole ≡ g)) gone → Difference (in_place number (whole ∷ []) parts) 1 gone (Ok rest) →
    ((c : Heaplet) → PartsHold S env (p ∷ gone) c → PartHolds S env whole c) → (h : Heaplet) → PartsHold S env parts h → PartsHold S env rest h
parts_joined S env parts number p whole gone rest is ne left one h m =
    let there : Difference (take (number - 1) parts ++ whole ∷ drop number parts) 1 gone (Ok rest) = subst (λ ys. Difference ys 1 gone (Ok rest)) (placed_is number parts whole) left in
    let spot = all_gone S env whole gone (take (number - 1) parts) (drop number parts) rest 1 ne there in
    let with_first : PartsHold S env (in_place number (p ∷ []) parts) h = put_there S env number parts p (p ∷ []) h is (λ y q. alone S env p y q) m in
    let held : PartsHold S env (take (number - 1) parts ++ p ∷ drop number parts) h = subst (λ ys. PartsHold S env ys h) (placed_is number parts p) with_first in
    whole_there S env whole p gone (take (number - 1) parts) (drop number parts) rest h spot one held

pub join_sound : (defs : Defs) (specs : SpecTable) (n : ℕ) (goal : Goal) (args : Args) (goals : List Goal) → IsWellFormed defs specs goal → FieldsDiffer defs.structs → join.Row defs.structs goal args (Ok goals) → AllByRecursion (HoldsFor defs specs n) goals → HoldsFor defs specs n goal
join_sound defs specs n goal args goals formed differ row h =
    let number = part_number args.target in
    let taken = then_is (part_of goal number) (join.OfPart defs.structs goal number) goals row in
    let source = taken.0.0 in
    let p = taken.0.1 in
    let is = part_found goal number source p taken.1 in
    let made = after_is (join.IsJoined defs.structs source.parts p) (join.IsPutFor goal number source) goals taken.2 in
    let k = join_is defs.structs source.parts p made.0 made.1 in
    let put = after_is (Difference (in_place number (made.0.whole ∷ []) source.parts) 1 made.0.gone) (join.Leaves goal source) goals made.2 in
    let rest = put.0 in
    let gone = objects k.s.region k.fs k.values ++ padding_parts defs.structs k.s (k.f ∷ k.fs) in
    let whole = ObjectAt k.s.region k.value in
    let left : Difference (in_place number (whole ∷ []) source.parts) 1 gone (Ok rest) =
    subst (λ w. Difference (in_place number (w ∷ []) source.parts) 1 gone (Ok rest)) k.whole_is (subst (λ ps. Difference (in_place number (made.0.whole ∷ []) source.parts) 1 ps (Ok rest)) k.gone_is put.1) in
    let apart_from = none_whole k.s.region k.value k.fs k.values (padding_parts defs.structs k.s (k.f ∷ k.fs)) (no_whole defs.structs k.s k.value (k.f ∷ k.fs)) in
    let after = from_source goal (after_command (context_of goal)) (with_parts source rest) in
    let same : goals ≡ after ∷ [] = same_Ok {A = List Goal} goals (after ∷ []) put.2 in
    let one : HoldsFor defs specs n after = (subst (AllByRecursion (HoldsFor defs specs n)) same h).0 in
    record {
      in_each = λ L more place has separate lemmas env given.
          let S = setting L more place in
          from_other L more place defs specs n goal (after_command (context_of goal)) source (with_parts source rest) env is.source_is
          (source_rest S env goal source rest is.source_is (parts_joined S env source.parts number p whole gone rest is.part_is apart_from left
          (λ c holds. struct_whole S env k.s (subst FieldsDiffer (sym has.structs) differ) (subst (λ z. type_at z k.s.region.ty k.s.region.path ≡ Some k.s.ty) (sym has.structs) k.typed) k.shape k.f k.fs k.values k.s.value k.value c
          (subst (λ z. fields_of z k.s.tag ≡ Some (k.f ∷ k.fs)) (sym has.structs) k.fields) k.one k.made
          (subst (λ z. PartsHold S env (objects k.s.region (k.f ∷ k.fs) (k.s.value ∷ k.values) ++ padding_parts z k.s (k.f ∷ k.fs)) c) (sym has.structs) (subst (λ y. PartsHold S env (y ∷ gone) c) k.first_is holds)))))
          (given_after S defs env (context_of goal) given)
          (one.in_each L more place has separate lemmas);
    }
