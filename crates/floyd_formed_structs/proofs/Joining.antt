-- The goal of `join_struct` is well formed.
use Rattle.std.proofs.Common.{◌≡◌, inl, inr, ℕ, zero, suc, ◌+◌, ◌-◌, Bool, true, false, ◌&&◌, List, [], ◌∷◌, ◌++◌, length, take, Option, Some, None, Result, Ok, refl, sym, ap, ap₂, subst, ◌∙◌, arith}
use Rattle.std.specs.Prelude.{option_and_then, slice_get}
use Rattle.std.specs.List.{AllByRecursion}
use Rattle.std.proofs.lemmas.Option.{same_Some}
use Rattle.std.proofs.lemmas.Slice.Eq.{bytes_eq-Decides}
use Rattle.floyd_text.specs.declared.refusal.No.{No}
use Rattle.floyd_ctypes.specs.declared.field.Field as d
use Rattle.floyd_ctypes.specs.Structs.{fields_of}
use Rattle.floyd_tree_sorts.specs.declared.heads.Head.TheVariants as h
use Rattle.floyd_tree_sorts.specs.declared.operators.Operator.TheVariants as o
use Rattle.floyd_tree_sorts.specs.declared.shape.Shape.{Struct}
use Rattle.floyd_tree_sorts.specs.declared.sorts.Sort.{Sort}
use Rattle.floyd_tree_sorts.specs.Sorts.{pair_sort, same_sort}
use Rattle.floyd_tree_sorts.specs.Table.{sort_at, when}
use Rattle.floyd_tree_sorts.proofs.SortLemmas.{same_sort_self}
use Rattle.floyd_tree.specs.declared.paths.PathStep.{PathStep}
use Rattle.floyd_tree.specs.declared.paths.PathStep.TheVariants.{Field, Subscript}
use Rattle.floyd_tree.specs.Plain.{Plain, Done, More}
use Rattle.floyd_tree.specs.Types.{SizedType}
use Rattle.floyd_tree.specs.WellSorted.{sorts_of, with_first}
use Rattle.floyd_tree_values.specs.Defaults.{fields_sort, type_sort, value_sort}
use Rattle.floyd_tree_values.specs.Rules.{Scope}
use Rattle.floyd_assert.specs.Removal.{Difference, Without}
use Rattle.floyd_assert_trees.specs.declared.items.Defs.{Defs}
use Rattle.floyd_assert_trees.specs.declared.sep.Region.{Region}
use Rattle.floyd_assert_trees.specs.declared.sep.Sep.{Sep}
use Rattle.floyd_assert_trees.specs.declared.sep.Sep.TheVariants.{FieldAt, Padding, Valid, Anything, Predicate}
use Rattle.floyd_assert_trees.specs.declared.spec.SpecTable.{SpecTable}
use Rattle.floyd_fieldpath.specs.Nested.{type_at}
use Rattle.floyd_fieldpath.specs.Sums.{two}
use Rattle.floyd_fieldpath.specs.Updates.{pair}
use Rattle.floyd_fieldpath.proofs.SortDepths.{pair_some}
use Rattle.floyd_fieldpath_laws.proofs.Meanings.{on_ok_is, written_is}
use Rattle.floyd_fieldpath_laws.proofs.TypeSorts.{fields_have, sorts}
use Rattle.floyd_goal_trees.specs.Contexts.{after_command, context_of, scope_of}
use Rattle.floyd_goal_trees.specs.declared.args.Args.{Args}
use Rattle.floyd_goal_trees.specs.declared.goal.Goal.{Goal}
use Rattle.floyd_goal_forms.specs.Assertions.{ObjectFits, PartFits, PredicatesOf, RegionFits, StepFits}
use Rattle.floyd_goal_forms.specs.Goals.{IsWellFormed}
use Rattle.floyd_goal_forms.specs.Terms.{TermFits}
use Rattle.floyd_goal_parts.specs.Sources.{from_source, in_place, part_number, part_of, with_parts}
use Rattle.floyd_shares.specs.Chains.{When}
use Rattle.floyd_arrays_structs.specs.declared.join_struct.Joined.{Joined}
use Rattle.floyd_arrays_structs.specs.declared.objects.Found as found
use Rattle.floyd_arrays_structs.specs.declared.structs.StructPart.{StructPart}
use Rattle.floyd_arrays_structs.specs.JoinStruct as join
use Rattle.floyd_arrays_structs.specs.StructParts.{field_region, padding_parts, struct_at}
use Rattle.floyd_entail_soundness.proofs.Placing.{of_number, same_Ok}
use Rattle.floyd_entail_soundness.proofs.Sources.{part_found, parts_fit}
use Rattle.floyd_shares_soundness.proofs.Sharing.{after_is, then_is}
use Rattle.floyd_structs_soundness.specs.Fields.{FieldsDiffer, NamesDiffer}
use Rattle.floyd_structs_soundness.proofs.SplittingStructs.{struct_is}
use Rattle.floyd_formed_pure.specs.Rows.{AreWellFormed}
use Rattle.floyd_formed_places.proofs.Places.{nested_at}
use Rattle.floyd_formed_shares.proofs.Placed.{placed, plain_formed, source_with}
use Rattle.floyd_formed_structs.proofs.Fields.{HasSort, IsNamed, all_named, of_field}

-- ---- where a path ends

cut_last : (path : List PathStep) (n : ℕ) (y : PathStep) → slice_get path n ≡ Some y → length path ≡ suc n → take n path ++ y ∷ [] ≡ path
cut_last [] n y e k = absurd cc
cut_last (z ∷ []) zero y e k = ap (λ x. x ∷ []) (sym (same_Some {A = PathStep} z y e))
cut_last (z ∷ w ∷ path) zero y e k = absurd (omega (arith, k))
cut_last (z ∷ path) (suc n) y e k = ap (λ xs. z ∷ xs) (cut_last path n y e (omega (arith, k)))

ends : (path : List PathStep) (x : List ℕ) → join.last_field path ≡ Some x → join.outer_path path ++ Field x ∷ [] ≡ path
ends [] x e = absurd cc
ends (z ∷ path) x e = by (join.last_step (z ∷ path)) refl e
  where
    by : (s : Option PathStep) → join.last_step (z ∷ path) ≡ s → join.name_in s ≡ Some x → join.outer_path (z ∷ path) ++ Field x ∷ [] ≡ z ∷ path
    by None f g = absurd cc
    by (Some (Subscript t)) f g = absurd cc
    by (Some (Field y)) f g =
        let same : y ≡ x = same_Some {A = List ℕ} y x g in
        subst (λ n. join.outer_path (z ∷ path) ++ Field n ∷ [] ≡ z ∷ path) same (cut_last (z ∷ path) (length (z ∷ path) - 1) (Field y) f (omega arith))

front : {A : Type 0} (P : A → Type 0) (xs ys : List A) → AllByRecursion P (xs ++ ys) → AllByRecursion P xs
front P [] ys h = tt
front P (x ∷ xs) ys h = (h.0, front P xs ys h.1)

same_object : (r k : Region) (v w : Plain) → FieldAt r v ≡ FieldAt k w → (r ≡ k) × (v ≡ w)
same_object r k v w e = (cc, cc)

-- ---- what is left of parts

left_one : (P : Sep → Type 0) (p : Sep) (parts rest : List Sep) → Without p parts rest → AllByRecursion P parts → AllByRecursion P rest
left_one P p [] rest w h = absurd w
left_one P p (q ∷ parts) rest (inl w) h = subst (AllByRecursion P) (sym w.1) h.1
left_one P p (q ∷ parts) rest (inr w) h = subst (AllByRecursion P) (sym w.1.2) (h.0, left_one P p parts w.1.0 w.1.1 h.1)

left_all : (P : Sep → Type 0) (gone parts rest : List Sep) (k : ℕ) → Difference parts k gone (Ok rest) → AllByRecursion P parts → AllByRecursion P rest
left_all P [] parts rest k e h = subst (AllByRecursion P) (sym (same_Ok {A = List Sep} rest parts e)) h
left_all P (p ∷ gone) parts rest k (inl e) h = left_all P gone e.0 rest (k + 1) e.2 (left_one P p parts e.0 e.1 h)
left_all P (p ∷ gone) parts rest k (inr e) h =
    let wrong = e.1 in
    absurd cc

-- ---- the value of the struct

module _ (defs : Defs) (scope : Scope) where
  abbrev P : Sep → Type 0
  P = PartFits defs scope (PredicatesOf defs scope)

  pair_fits : (a b : Sort) (u v c : Plain) → TermFits defs scope a u → TermFits defs scope b v → pair u v ≡ Ok c → TermFits defs scope (pair_sort a b) c
  pair_fits a b u v c k l e =
      let sorts : sorts_of (More u (More v Done)) ≡ Some (a ∷ b ∷ []) = ap₂ (λ x y. with_first x y) k.fits.sorted (ap (λ y. with_first y (Some [])) l.fits.sorted) in
      let taken : sort_at (h.Operator o.Pair) (a ∷ b ∷ []) ≡ Some (pair_sort a b) = ap (λ t. when (t && same_sort b b) (pair_sort a b)) (same_sort_self a) ∙ ap (λ t. when t (pair_sort a b)) (same_sort_self b) in
      let own : TermFits defs scope (pair_sort a b) (two o.Pair u v) = record {
        fits = record { sorted = ap (option_and_then (sort_at (h.Operator o.Pair))) sorts ∙ taken; allowed = (tt, (k.fits.allowed, (l.fits.allowed, tt))) };
        known = (tt, (k.known, (l.known, tt)));
      } in
      subst (TermFits defs scope (pair_sort a b)) (written_is (two o.Pair u v) c e) own

  module _ (r : Region) (t : SizedType) (typed : type_at defs.structs r.ty r.path ≡ Some t) where
    abbrev Has : d.Field → Plain → Type 0
    Has f v = HasSort defs scope r t typed f v

    abbrev EachHas : List d.Field → List Plain → Type 0
    EachHas [] [] = Unit {0}
    EachHas [] (v ∷ vs) = ⊥
    EachHas (f ∷ fs) [] = ⊥
    EachHas (f ∷ fs) (v ∷ vs) = Has f v × EachHas fs vs

    pairs_fit : (fs : List d.Field) (vs : List Plain) (sort : Sort) (c : Plain) → fields_sort (sorts defs.structs) fs ≡ Some sort → EachHas fs vs → join.pairs vs ≡ Ok c → TermFits defs scope sort c
    pairs_fit [] [] sort c e k m = absurd cc
    pairs_fit [] (v ∷ vs) sort c e k m = absurd k
    pairs_fit (f ∷ fs) [] sort c e k m = absurd k
    pairs_fit (f ∷ []) (v ∷ []) sort c e k m =
        let same : k.0.sort ≡ sort = same_Some {A = Sort} k.0.sort sort (sym k.0.is ∙ e) in
        subst (TermFits defs scope sort) (same_Ok {A = Plain} v c m) (subst (λ s. TermFits defs scope s v) same k.0.term)
    pairs_fit (f ∷ []) (v ∷ w ∷ vs) sort c e k m = absurd k.1
    pairs_fit (f ∷ g ∷ fs) (v ∷ []) sort c e k m = absurd k.1
    pairs_fit (f ∷ g ∷ fs) (v ∷ w ∷ vs) sort c e k m =
        let p = pair_some (type_sort (sorts defs.structs) f.ty) (fields_sort (sorts defs.structs) (g ∷ fs)) sort e in
        let a = on_ok_is (join.pairs (w ∷ vs)) (pair v) c m in
        let same : k.0.sort ≡ p.0 = same_Some {A = Sort} k.0.sort p.0 (sym k.0.is ∙ p.2) in
        let first = subst (λ s. TermFits defs scope s v) same k.0.term in
        let rest = pairs_fit (g ∷ fs) (w ∷ vs) p.1 a.0 p.3 k.1 a.1 in
        subst (λ s. TermFits defs scope s c) p.4 (pair_fits p.0 p.1 v a.0 c first rest a.2)

    -- ---- the objects of its other fields

    module _ (tag : List ℕ) (shape : t.shape ≡ Struct tag) where
      object_found : (k : Region) (parts : List Sep) (v : Plain) → join.IsValue k parts (Ok v) → AllByRecursion P parts → P (FieldAt k v)
      object_found k [] v e all = absurd cc
      object_found k (q ∷ parts) v (inl e) all =
          let same : e.0 ≡ v = same_Ok {A = Plain} e.0 v (sym e.2) in
          subst P (e.1 ∙ ap (FieldAt k) same) all.0
      object_found k (q ∷ parts) v (inr e) all = object_found k parts v e.1 all.1

      objects_found : (parts : List Sep) (fs : List d.Field) (all : found.Found) → AllByRecursion P parts → AllByRecursion (IsNamed defs.structs tag) fs → join.IsFound r parts fs (Ok all) → EachHas fs all.values
      objects_found parts [] all fit named e =
          let same : join.none_found ≡ all = sym (same_Ok {A = found.Found} all join.none_found e) in
          subst (λ (x : found.Found). EachHas [] x.values) same tt
      objects_found parts (f ∷ fs) all fit named e =
          let a = after_is (join.IsValue (field_region r f.name) parts) (join.Before (field_region r f.name) (join.IsFound r parts fs)) all e in
          let b = after_is (join.IsFound r parts fs) (λ (more : found.Found) (answer : Result found.Found No). answer ≡ Ok (join.with_first (field_region r f.name) a.0 more)) all a.2 in
          let same : join.with_first (field_region r f.name) a.0 b.0 ≡ all = sym (same_Ok {A = found.Found} all (join.with_first (field_region r f.name) a.0 b.0) b.2) in
          let here = of_field defs scope r t typed tag f a.0 shape named.0 (object_found (field_region r f.name) parts a.0 a.1 fit) in
          subst (λ (x : found.Found). EachHas (f ∷ fs) x.values) same (here, objects_found parts fs b.0 fit named.1 b.1)

      whole_fits : (parts : List Sep) (f : d.Field) (fs : List d.Field) (v c : Plain) (all : found.Found) → RegionFits defs scope r → AllByRecursion P parts → NamesDiffer (f ∷ fs) → fields_of defs.structs tag ≡ Some (f ∷ fs) → P (FieldAt (field_region r f.name) v) →
          join.IsFound r parts fs (Ok all) → join.pairs (v ∷ all.values) ≡ Ok c → P (FieldAt r c)
      whole_fits parts f fs v c all region fit differ fields first e made =
          let named = all_named defs.structs tag (f ∷ fs) fields differ in
          let n = nested_at defs scope r t region typed in
          let w = fields_have defs.structs tag n.sort (sym (ap (value_sort defs.structs) shape) ∙ n.has) in
          let same : w.fields ≡ f ∷ fs = same_Some {A = List d.Field} w.fields (f ∷ fs) (sym w.is ∙ fields) in
          let sorted : fields_sort (sorts defs.structs) (f ∷ fs) ≡ Some n.sort = subst (λ gs. fields_sort (sorts defs.structs) gs ≡ Some n.sort) same w.has in
          let own = of_field defs scope r t typed tag f v shape named.0 first in
          record {
            region = record { share = region.share; type = region.type; steps = region.steps; nested = t; at = typed; root = region.root };
            sort = n.sort;
            is = n.has;
            term = pairs_fit (f ∷ fs) (v ∷ all.values) n.sort c sorted (own, objects_found parts fs all fit named.1 e) made;
          }

  -- ---- the part that is put there

  module _ (differ : FieldsDiffer defs.structs) (parts : List Sep) (fit : AllByRecursion P parts) (region : Region) (v : Plain) (object : ObjectFits defs scope region v) (x : List ℕ) (last : join.last_field region.path ≡ Some x) (j : Joined) where
    around_fits : (t : SizedType) → type_at defs.structs region.ty (join.outer_path region.path) ≡ Some t → RegionFits defs scope (join.around region)
    around_fits t typed =
        let f = object.region in
        let steps = subst (AllByRecursion (StepFits defs scope)) (sym (ends region.path x last)) f.steps in
        record { share = f.share; type = f.type; steps = front (StepFits defs scope) (join.outer_path region.path) (Field x ∷ []) steps; nested = t; at = typed; root = f.root }

    of_fields : (s : StructPart) → struct_at defs.structs (join.around region) v ≡ Ok s → (fields : List d.Field) → fields_of defs.structs s.tag ≡ Some fields → (b : Bool) → join.is_first fields x ≡ b → When b (join.OfFields defs.structs parts s fields) (Ok j) → P j.whole
    of_fields s e fields g false b k = absurd cc
    of_fields s e [] g true b k = absurd cc
    of_fields s e (f ∷ fs) g true b k =
        let a = after_is (join.IsFound s.region parts fs) (join.OfFound s (padding_parts defs.structs s (f ∷ fs)) parts) j k in
        let is = struct_is defs.structs (FieldAt (join.around region) v) s e in
        let same = same_object (join.around region) s.region v s.value is.part_is in
        let name : x ≡ f.name = (bytes_eq-Decides x f.name).0 b in
        let there : region ≡ field_region (join.around region) x = ap (λ path. record { share = region.share; ty = region.ty; path = path; root = region.root }) (sym (ends region.path x last)) in
        let first : P (FieldAt (field_region s.region f.name) s.value) = subst P (ap₂ (λ k w. FieldAt k w) (there ∙ ap₂ (λ k n. field_region k n) same.0 name) same.1) object in
        let typed : type_at defs.structs (join.around region).ty (join.around region).path ≡ Some s.ty = subst (λ (k : Region). type_at defs.structs k.ty k.path ≡ Some s.ty) (sym same.0) is.typed in
        let whole : RegionFits defs scope s.region = subst (RegionFits defs scope) same.0 (around_fits s.ty typed) in
        by a.0 a.1 is.typed is.shape first whole a.2
      where
        by : (all : found.Found) → join.IsFound s.region parts fs (Ok all) → type_at defs.structs s.region.ty s.region.path ≡ Some s.ty → s.ty.shape ≡ Struct s.tag → P (FieldAt (field_region s.region f.name) s.value) → RegionFits defs scope s.region →
            join.OfFound s (padding_parts defs.structs s (f ∷ fs)) parts all (Ok j) → P j.whole
        by all i typed shape first whole (inl m) =
            let wrong = m.1 in
            absurd cc
        by all i typed shape first whole (inr m) =
            let z = on_ok_is (join.pairs (s.value ∷ all.values)) (join.joined s.region (all.objects ++ padding_parts defs.structs s (f ∷ fs))) j (sym m.1) in
            let made : Joined = record { whole = FieldAt s.region z.0; gone = all.objects ++ padding_parts defs.structs s (f ∷ fs) } in
            subst (λ (y : Joined). P y.whole) (same_Ok {A = Joined} made j z.2)
            (whole_fits s.region s.ty typed s.tag shape parts f fs s.value z.0 all whole fit (differ s.tag (f ∷ fs) g) g first i z.1)

    of_tag : (s : StructPart) → struct_at defs.structs (join.around region) v ≡ Ok s → (fields : Option (List d.Field)) → fields_of defs.structs s.tag ≡ fields → join.OfTag defs.structs parts s x fields (Ok j) → P j.whole
    of_tag s e None g k = absurd cc
    of_tag s e (Some fields) g k = of_fields s e fields g (join.is_first fields x) refl k

  joined_fits : FieldsDiffer defs.structs → (parts : List Sep) → AllByRecursion P parts → (p : Sep) (j : Joined) → P p → join.IsJoined defs.structs parts p (Ok j) → P j.whole
  joined_fits differ parts fit (FieldAt region v) j object k = by (join.last_field region.path) refl k
    where
      by : (x : Option (List ℕ)) → join.last_field region.path ≡ x → join.OfName defs.structs parts region v x (Ok j) → P j.whole
      by None e m = absurd cc
      by (Some x) e m =
          let a = then_is (struct_at defs.structs (join.around region) v) (join.OfWhole defs.structs parts x) j m in
          of_tag differ parts fit region v object x e j a.0 a.1 (fields_of defs.structs a.0.tag) refl a.2
  joined_fits differ parts fit (Padding r) j object k = absurd cc
  joined_fits differ parts fit (Valid t) j object k = absurd cc
  joined_fits differ parts fit Anything j object k = absurd cc
  joined_fits differ parts fit (Predicate name terms) j object k = absurd cc

pub join_forms : (defs : Defs) (specs : SpecTable) (goal : Goal) (args : Args) (goals : List Goal) → IsWellFormed defs specs goal → FieldsDiffer defs.structs → join.Row defs.structs goal args (Ok goals) → AreWellFormed defs specs goals
join_forms defs specs goal args goals formed differ row =
    let number = part_number args.target in
    let scope = scope_of (context_of goal) in
    let Q = PartFits defs scope (PredicatesOf defs scope) in
    let taken = then_is (part_of goal number) (join.OfPart defs.structs goal number) goals row in
    let source = taken.0.0 in
    let p = taken.0.1 in
    let is = part_found goal number source p taken.1 in
    let fit = parts_fit defs specs goal source is.source_is formed in
    let made = after_is (join.IsJoined defs.structs source.parts p) (join.IsPutFor goal number source) goals taken.2 in
    let whole = joined_fits defs scope differ source.parts fit p made.0 (of_number Q number source.parts p is.part_is fit) made.1 in
    let put = after_is (Difference (in_place number (made.0.whole ∷ []) source.parts) 1 made.0.gone) (join.Leaves goal source) goals made.2 in
    let rest = left_all Q made.0.gone (in_place number (made.0.whole ∷ []) source.parts) put.0 1 put.1 (placed Q number (made.0.whole ∷ []) source.parts (whole, tt) fit) in
    let new = with_parts source put.0 in
    let same : goals ≡ from_source goal (after_command (context_of goal)) new ∷ [] = same_Ok {A = List Goal} goals (from_source goal (after_command (context_of goal)) new ∷ []) put.2 in
    subst (AreWellFormed defs specs) (sym same) (plain_formed defs specs goal formed goals new (source_with defs specs goal formed goals source put.0 is.source_is rest))
