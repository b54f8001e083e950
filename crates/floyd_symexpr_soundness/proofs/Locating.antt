-- What the part in which an object lies has of it.
use Rattle.std.proofs.Common.{◌≡◌, ℕ, zero, suc, ◌+◌, ◌<◌, ◌≤◌, ◌^◌, true, ◌&&◌, ℤ, pos, ◌+ℤ◌, List, [], ◌∷◌, ◌++◌, length, Option, Some, None, Ok, refl, sym, ap, ap₂, subst, ◌∙◌, if◌then◌else◌, arith, IsTrue, ◌⊎◌, inl, inr}
use Rattle.std.specs.Prelude.{◌==◌, option_and_then, option_map}
use Rattle.std.specs.List.{AllByRecursion}
use Rattle.std.proofs.lemmas.Bool.{eq-eqb}
use Rattle.std.proofs.lemmas.Option.{cond_some, same_Some}
use Rattle.floyd_int.specs.declared.kinds.Value.{Value}
use Rattle.floyd_int.specs.declared.kinds.Value.TheVariants.{Vptr, Vundef}
use Rattle.floyd_int.specs.Kind.{modulo}
use Rattle.floyd_ctypes.specs.declared.ctype.CType.{CType, Void, Int, Pointer', Array', Struct, Function', more_of-CType, end_of-CType}
use Rattle.floyd_ctypes.specs.Has.{has}
use Rattle.floyd_ctypes.specs.Structs.{Structs}
use Rattle.floyd_memval.specs.declared.bytes.MemByte.{MemByte}
use Rattle.floyd_memval.specs.Chunks.{chunk_of, chunk_size}
use Rattle.floyd_clight.specs.declared.syntax.Expr.{Expr}
use Rattle.floyd_clight.specs.Types.{type_of}
use Rattle.floyd_clight_memory.specs.Loads.{load_by}
use Rattle.floyd_clight_memory.specs.Memory.{Mem, store}
use Rattle.floyd_clight_heap.specs.Heaplet.{Cell, Fits, Heaplet, Joins, JoinsAt, Within, both, byte_of, laid, spread}
use Rattle.floyd_clight_heap.specs.Loads.{Shows}
use Rattle.floyd_clight_heap.proofs.Stores.{WholeAt, WholeFrom, laid_spread, whole, whole_alone, whole_owns, with_new}
use Rattle.floyd_clight_heap.proofs.Sums.{assoc, assoc_back}
use Rattle.floyd_clight_machine.specs.Evaluation.{Look, Spot, Temps, place_by, value_at}
use Rattle.floyd_clight_machine.specs.Footprint.{chunk_spots, loads_at, place_loads, spots, value_loads}
use Rattle.floyd_clight_machine.specs.Machine.{store_as, store_at}
use Rattle.floyd_clight_runs.specs.Safe.{AllWithin}
use Rattle.floyd_clight_typing.specs.Expressions.{IsTyped, Names, is_place}
use Rattle.floyd_tree_sorts.specs.declared.shape.Shape.{Shape}
use Rattle.floyd_tree_sorts.specs.declared.shape.Shape as shapes
use Rattle.floyd_tree_sorts.specs.declared.sorts.Sort.{Val as ValSort}
use Rattle.floyd_tree.specs.declared.paths.PathStep.{PathStep}
use Rattle.floyd_tree.specs.Formulas.{PlainFormula}
use Rattle.floyd_tree.specs.Plain.{Plain}
use Rattle.floyd_tree.specs.Types.{SizedType}
use Rattle.floyd_tree.specs.WellSorted.{sort_of}
use Rattle.floyd_tree_values.specs.BuiltIns.{Env}
use Rattle.floyd_tree_values.specs.Data.{Datum, Val}
use Rattle.floyd_tree_values.specs.Defaults.{value_sort}
use Rattle.floyd_tree_values.specs.Means.{Means}
use Rattle.floyd_truth.specs.Truth.{AllTrue}
use Rattle.floyd_assert_cells.specs.Cells.{Cells, FormCells, IsCell, ScalarCells, within}
use Rattle.floyd_assert_cells.specs.Forms.{Single}
use Rattle.floyd_assert_cells.specs.Cells as cells
use Rattle.floyd_assert_cells.specs.Laws.{IsExact}
use Rattle.floyd_assert_cells.specs.Scalars.{Scalar, Address, Integer, chunk, holds, scalar_of, scalar_size, shape_scalar}
use Rattle.floyd_memval.specs.Encoding.{encoding}
use Rattle.floyd_memval.proofs.RoundTrips.{length-encoding}
use Rattle.floyd_assert_cells.specs.Types.{Sized, size_by}
use Rattle.floyd_assert_cells.proofs.Exact.{chunk_fits, within_from}
use Rattle.floyd_assert_cells.proofs.FormLaws.{chained}
use Rattle.floyd_assert_cells.proofs.ObjectLaws.{cells_are_exact, closed, opened, scalars_held, scalars_loaded, scalars_stored}
use Rattle.floyd_assert_cells.proofs.ScalarLaws.{chunk_agrees, comes_back, form_is_single, holds_agrees, shape_agrees}
use Rattle.floyd_assert_trees.specs.declared.assertion.Assertion.{Assertion}
use Rattle.floyd_assert_trees.specs.declared.sep.Region.{Region}
use Rattle.floyd_assert_trees.specs.declared.sep.Sep.{Sep}
use Rattle.floyd_assert_trees.specs.declared.sep.Sep.TheVariants.{FieldAt}
use Rattle.floyd_assert_meaning.specs.Parts.{ObjectHolds, PathMeans, RegionMeans, sized_as}
use Rattle.floyd_assert_meaning.specs.Settings.{Setting}
use Rattle.floyd_fieldpath.specs.Nested.{sized_type}
use Rattle.floyd_fieldpath.specs.Nested as nested
use Rattle.floyd_fieldpath.specs.Projections.{project}
use Rattle.floyd_fieldpath.specs.Updates.{update}
use Rattle.floyd_symexpr_rows.specs.declared.needs.Needs.{Needs}
use Rattle.floyd_symexpr_rows.specs.Formulas.{saying}
use Rattle.floyd_symexpr_rows.specs.Rows.{nothing_needed}
use Rattle.floyd_symexpr_laws.proofs.SideTruths.{all_true_first, all_true_second, saying_is}
use Rattle.floyd_symexpr_laws.proofs.TermMeanings.{ok_parts}
use Rattle.floyd_symexpr_pointer_laws.specs.Laws.{AllValid, IsMet}
use Rattle.floyd_symexpr_paths.specs.declared.location.Located.{Located}
use Rattle.floyd_symexpr_paths.specs.declared.lvalue.Lvalue.{Lvalue}
use Rattle.floyd_symexpr_paths.specs.declared.lvalue.Taken.{Taken}
use Rattle.floyd_symexpr_paths.specs.declared.matching.Found.{Found}
use Rattle.floyd_symexpr_paths.specs.Bounds.{bounds, located, located_in, located_sides}
use Rattle.floyd_symexpr_paths.specs.Locating.{agreeing_end, agreeing_step, agrees_at, found}
use Rattle.floyd_symexpr_paths.specs.Places.{path_of, subscript_ranges}
use Rattle.floyd_symexpr.specs.Expressions.{read}
use Rattle.floyd_symexpr.specs.Locate.{locate}
use Rattle.floyd_symexpr_soundness.specs.Laws.{IsAt, IsLoaded, IsLocated, IsOwned, IsStored, LiesIn, Meets, ObjectIsSorted, PartIsSorted, StandsIn}
use Rattle.floyd_symexpr_soundness.proofs.Adding.{Adds, adds_parts, form_adds}
use Rattle.floyd_symexpr_soundness.proofs.Bounding.{bounds_follow, said_before}
use Rattle.floyd_symexpr_soundness.proofs.Evaluating.{stands_for}
use Rattle.floyd_symexpr_soundness.proofs.Finding.{FormFound, ends_parts, form_found, found_as}
use Rattle.floyd_symexpr_soundness.proofs.Objects.{is_object, loads_of_object, value_of_object}
use Rattle.floyd_symexpr_soundness.proofs.Quiet.{quiet}
use Rattle.floyd_symexpr_soundness.proofs.Sites.{Site, site}
use Rattle.floyd_symexpr_soundness.proofs.Standing.{Stands}

-- ---- heaplets

first_byte : (g k h : Option Cell) (byte : MemByte) → JoinsAt g k h → byte_of g ≡ Some byte → byte_of h ≡ Some byte
first_byte None k h byte j e = absurd cc
first_byte (Some c) None h byte j e = ap byte_of j ∙ e
first_byte (Some c) (Some d) h byte j e = ap byte_of j.2 ∙ e

-- what shows the bytes of a heaplet shows those of a part of it
pub shows_part : (byte_at : ℕ → ℕ → Option MemByte) (g k h : Heaplet) → Joins g k h → Shows byte_at h → Shows byte_at g
shows_part byte_at g k h j s = λ b o byte e. s b o byte (first_byte (g b o) (k b o) (h b o) byte (j.at b o) e)

first_cell : (g k h : Option Cell) (c : Cell) → JoinsAt g k h → g ≡ Some c → (d : Cell) × (h ≡ Some d)
first_cell None k h c j e = absurd cc
first_cell (Some x) None h c j e = (x, j)
first_cell (Some x) (Some y) h c j e = (both x y, j.2)

within_part : (g k h : Heaplet) (b o : ℕ) → Joins g k h → Within g b o → Within h b o
within_part g k h b o j w = let c = first_cell (g b o) (k b o) (h b o) w.cell (j.at b o) w.has in record { cell = c.0; has = c.1 }

whole_cell : (c : Cell) (g : Option Cell) (h : Option Cell) → c.less ≡ 15 → JoinsAt (Some c) g h → h ≡ Some c
whole_cell c None h e j = j
whole_cell c (Some d) h e j = absurd (omega (arith, e, j.1))

-- a place that has the share 16 in a part has it in the whole
whole_part : (g k h : Heaplet) (b o : ℕ) (c : Cell) → Joins g k h → g b o ≡ Some c → c.less ≡ 15 → h b o ≡ Some c
whole_part g k h b o c j e f = whole_cell c (k b o) (h b o) f (subst (λ x. JoinsAt x (k b o) (h b o)) e (j.at b o))

all_within : (h : Heaplet) (n b o : ℕ) → ((p : ℕ) → o ≤ p → p < o + n → Within h b p) → AllWithin h (spots n b o)
all_within h zero b o f = tt
all_within h (suc n) b o f = (f o (omega arith) (omega arith), all_within h n b (o + 1) (λ p l m. f p (omega (arith, l)) (omega (arith, m))))

all_whole : (h : Heaplet) (n b o : ℕ) → ((p : ℕ) → o ≤ p → p < o + n → WholeAt h b p) → WholeFrom n h b o
all_whole h zero b o f = tt
all_whole h (suc n) b o f = (f o (omega arith) (omega arith), all_whole h n b (o + 1) (λ p l m. f p (omega (arith, l)) (omega (arith, m))))

-- bytes that are laid down in a part are laid down in the whole
laid_joins : (bytes : List MemByte) (g k h : Heaplet) (b o : ℕ) → Joins g k h → WholeFrom (length bytes) g b o → Joins (laid bytes b o g) k (laid bytes b o h)
laid_joins [] g k h b o j w = j
laid_joins (byte ∷ bytes) g k h b o j w =
    with_new (laid bytes b (o + 1) g) k (laid bytes b (o + 1) h) b o (whole byte) (laid_joins bytes g k h b (o + 1) j w.1) (whole_alone g k h b o w.0 j)

some_cell : (less : ℕ) (k : Option Cell) → IsCell less true k → (c : Cell) × (k ≡ Some c) × (c.less ≡ less)
some_cell less None w = absurd w
some_cell less (Some c) w = (c, refl, w)

-- each place of an object has a cell of its share
cell_at : (structs : Structs) (share : ℤ) (t : Sized) (b o : ℕ) (h : Heaplet) (x : IsExact structs share t b o h) (p : ℕ) → o ≤ p → p < o + x.count → (c : Cell) × (h b p ≡ Some c) × (c.less ≡ x.less)
cell_at structs share t b o h x p l m =
    let test : b == b && within o x.count p ≡ true = ap₂ (λ q r. q && r) (eq-eqb b b refl) (within_from o x.count p l m) in
    some_cell x.less (h b p) (subst (λ u. IsCell x.less u (h b p)) test (x.exact.at b p))

-- ---- scalars

load_is : (look : Look) (t : CType) (s : Scalar) (b o : ℕ) → scalar_of t ≡ Some s → value_at look t (record { block = b; offset = o }) ≡ load_by look.byte_at (chunk s) b o
load_is look (Int k) s b o e = ap (λ r. load_by look.byte_at (chunk r) b o) (same_Some (Integer k) s e)
load_is look (Pointer' p to) s b o e = ap (λ r. load_by look.byte_at (chunk r) b o) (same_Some Address s e)
load_is look Void s b o e = absurd cc
load_is look (Array' p to n) s b o e = absurd cc
load_is look (Struct tag) s b o e = absurd cc
load_is look (Function' shape ps p r) s b o e = absurd cc

pub chunk_is : (t : CType) (s : Scalar) → scalar_of t ≡ Some s → chunk_of t ≡ Some (chunk s)
chunk_is t s e = chunk_agrees t ∙ ap (option_map chunk) e

store_is : (t : CType) (s : Scalar) (spot : Spot) (v : Value) (m : Mem) → scalar_of t ≡ Some s → has t v ≡ true → store_at t spot v m ≡ store (chunk s) m spot.block spot.offset v
store_is t s spot v m e good = ap (λ b. if b then store_as (chunk_of t) spot v m else None) good ∙ ap (λ c. store_as c spot v m) (chunk_is t s e)

scalar_shape : (t : CType) (s : Scalar) (shape : Shape) → scalar_of t ≡ Some s → shape ≡ (sized_type t).shape → shape_scalar shape ≡ Some s
scalar_shape t s shape e is = ap shape_scalar is ∙ shape_agrees t ∙ e

-- what a scalar holds has its type
typed_by : (t : CType) (s : Scalar) (v : Value) → scalar_of t ≡ Some s → (v ≡ Vundef) ⊎ IsTrue (holds s v) → (v ≡ Vundef) ⊎ (has t v ≡ true)
typed_by t s v e (inl none) = inl none
typed_by t s v e (inr good) = inr (holds_agrees t s v e ∙ good)

-- the value of a scalar is a value
pub scalar_sort : (structs : Structs) (t : CType) (s : Scalar) → scalar_of t ≡ Some s → value_sort structs (sized_type t).shape ≡ Some ValSort
scalar_sort structs (Int k) s e = refl
scalar_sort structs (Pointer' p (more_of-CType to end_of-CType)) s e = refl
scalar_sort structs Void s e = absurd cc
scalar_sort structs (Array' p to n) s e = absurd cc
scalar_sort structs (Struct tag) s e = absurd cc
scalar_sort structs (Function' shape ps p r) s e = absurd cc

scalar_bytes : (structs : Structs) (shape : Shape) (sizes : List ℤ) (s : Scalar) → shape_scalar shape ≡ Some s → size_by structs shape sizes ≡ Some (pos (scalar_size s))
scalar_bytes structs (shapes.Int k) sizes s e = ap (λ r. Some (pos (scalar_size r))) (same_Some (Integer k) s e)
scalar_bytes structs (shapes.Pointer' p to) sizes s e = ap (λ r. Some (pos (scalar_size r))) (same_Some Address s e)
scalar_bytes structs shapes.Void sizes s e = absurd cc
scalar_bytes structs (shapes.Array' p to) sizes s e = absurd cc
scalar_bytes structs (shapes.Struct tag) sizes s e = absurd cc
scalar_bytes structs (shapes.Function' shape ps p r) sizes s e = absurd cc

same_count : (m n : ℕ) → ◌≡◌ {A = Option ℤ} (Some (pos m)) (Some (pos n)) → m ≡ n
same_count m n e = cc

-- the places of a scalar, and how many they are
scalar_count : (structs : Structs) (share : ℤ) (t : Sized) (b o : ℕ) (h : Heaplet) (s : Scalar) (x : IsExact structs share t b o h) → shape_scalar t.shape ≡ Some s → x.count ≡ chunk_size (chunk s)
scalar_count structs share t b o h s x e = same_count x.count (scalar_size s) (sym x.size ∙ scalar_bytes structs t.shape t.sizes s e) ∙ sym (chunk_fits s)

less_is : (less : ℕ) → pos 16 ≡ pos (suc less) → less ≡ 15
less_is less e =
    let n : 16 ≡ suc less = cc in
    omega (arith, n)

-- a scalar with a value laid down over another one
scalar_laid : (structs : Structs) (t : Sized) (s : Scalar) (v w : Value) (b o : ℕ) (h : Heaplet) → shape_scalar t.shape ≡ Some s → Cells structs (pos 16) t (Val v) b o h → IsTrue (holds s w) → Cells structs (pos 16) t (Val w) b o (laid (encoding (chunk s) w) b o h)
scalar_laid structs t s v w b o h is c good =
    let q = opened structs (pos 16) t (Val v) b o h c in
    let single : Single s ≡ q.form = form_is_single structs t.shape t.sizes s q.form is q.of in
    let own : ScalarCells 15 b s v o h = subst (λ n. FormCells n b (Single s) (Val v) o h) (less_is q.less q.is) (subst (λ f. FormCells q.less b f (Val v) o h) (sym single) q.holds) in
    let bytes = encoding (chunk s) w in
    let laid_is : laid bytes b o h ≡ spread 15 bytes b o = ap (laid bytes b o) own.exact ∙ laid_spread own.bytes bytes b o (own.count ∙ sym (length-encoding (chunk s) w)) in
    subst (Cells structs (pos 16) t (Val w) b o) (sym laid_is)
    (closed structs 15 t (Val w) b o (spread 15 bytes b o) (Single s) (omega arith) (q.of ∙ ap Some (sym single))
    (record { bytes = bytes; count = length-encoding (chunk s) w; exact = refl; reads = inr (good, comes_back s w good) }))

module _ (S : Setting) (env : Env) (look : Look) (temps : Temps) (e : Expr) where
  -- what is loaded for an object whose place is found without a load
  loads_are : (t : CType) (spot : Spot) → is_place e ≡ true → type_of e ≡ t → place_loads S.defs.structs look temps e ≡ [] → place_by S.defs.structs look temps e ≡ Some spot → value_loads S.defs.structs look temps e ≡ chunk_spots (chunk_of t) (Some spot)
  loads_are t spot is ty bare place =
      loads_of_object S.defs.structs look temps e is
      ∙ ap (λ l. l ++ loads_at (type_of e) (place_by S.defs.structs look temps e)) bare
      ∙ ap₂ (λ u o. loads_at u o) ty place

  module _ (region : Region) (value : Plain) (path : List PathStep) (w : SizedType) (bytes : ℤ) (h : Heaplet) (site : Site S env region value path w (sized_type (type_of e)) bytes h)
      (is : is_place e ≡ true) (bare : place_loads S.defs.structs look temps e ≡ []) (place : place_by S.defs.structs look temps e ≡ Some site.spot) where
    exact : IsExact S.defs.structs site.at.means.share site.type site.spot.block site.spot.offset site.here
    exact = cells_are_exact S.defs.structs site.at.means.share site.type site.item site.spot.block site.spot.offset site.here site.holds

    shape_of_scalar : (s : Scalar) → scalar_of (type_of e) ≡ Some s → shape_scalar site.type.shape ≡ Some s
    shape_of_scalar s sc = scalar_shape (type_of e) s site.type.shape sc site.shape

    -- each of its places, with its share
    place_cell : (s : Scalar) → scalar_of (type_of e) ≡ Some s → (p : ℕ) → site.spot.offset ≤ p → p < site.spot.offset + chunk_size (chunk s) → (c : Cell) × (site.here site.spot.block p ≡ Some c) × (c.less ≡ exact.less)
    place_cell s sc p l m =
        let count : chunk_size (chunk s) ≡ exact.count = sym (scalar_count S.defs.structs site.at.means.share site.type site.spot.block site.spot.offset site.here s exact (shape_of_scalar s sc)) in
        cell_at S.defs.structs site.at.means.share site.type site.spot.block site.spot.offset site.here exact p l (subst (λ n. p < site.spot.offset + n) count m)

    spots_within : (s : Scalar) → scalar_of (type_of e) ≡ Some s → AllWithin h (chunk_spots (chunk_of (type_of e)) (Some site.spot))
    spots_within s sc =
        subst (λ c. AllWithin h (chunk_spots c (Some site.spot))) (sym (chunk_is (type_of e) s sc))
        (all_within h (chunk_size (chunk s)) site.spot.block site.spot.offset
        (λ p l m. (let c = place_cell s sc p l m in within_part site.here site.others h site.spot.block p site.joins (record { cell = c.0; has = c.1 }))))

    -- with the share 16 they are whole, and so they are in the heaplet
    whole_here : (s : Scalar) → scalar_of (type_of e) ≡ Some s → site.at.means.share ≡ pos 16 → (p : ℕ) → site.spot.offset ≤ p → p < site.spot.offset + chunk_size (chunk s) → WholeAt site.here site.spot.block p
    whole_here s sc full p l m =
        let c = place_cell s sc p l m in
        record { cell = c.0; has = c.1; less = c.2 ∙ less_is exact.less (sym full ∙ exact.is) }

    owned : (s : Scalar) → scalar_of (type_of e) ≡ Some s → site.at.means.share ≡ pos 16 → IsOwned s site.spot h
    owned s sc full =
        record {
          aligned = site.aligned s (shape_of_scalar s sc);
          places = whole_owns (chunk_size (chunk s)) h site.spot.block site.spot.offset
              (all_whole h (chunk_size (chunk s)) site.spot.block site.spot.offset
              (λ p l m. (let c = whole_here s sc full p l m in record { cell = c.cell; has = whole_part site.here site.others h site.spot.block p c.cell site.joins c.has c.less; less = c.less })));
        }

    loaded : (s : Scalar) (t : Plain) → scalar_of (type_of e) ≡ Some s → project S.defs.structs w path value ≡ Ok t → IsLoaded S env look temps e t h
    loaded s t sc made =
        let held = scalars_held S.defs.structs site.at.means.share site.type s site.item site.spot.block site.spot.offset site.here (shape_of_scalar s sc) site.holds in
        let cells_here = subst (λ d. Cells S.defs.structs site.at.means.share site.type d site.spot.block site.spot.offset site.here) held.1 site.holds in
        record {
          value = held.0;
          means = subst (Means S.defs env t) held.1 (site.item_means t made);
          typed = typed_by (type_of e) s held.0 sc held.2;
          is = λ some shows.
              value_of_object S.defs.structs look temps e is
              ∙ ap (option_and_then (value_at look (type_of e))) place
              ∙ load_is look (type_of e) s site.spot.block site.spot.offset sc
              ∙ scalars_loaded S.defs.structs look.byte_at site.at.means.share site.type s held.0 site.spot.block site.spot.offset site.here
              (shows_part look.byte_at site.here site.others h site.joins shows) (shape_of_scalar s sc) cells_here some (site.aligned s (shape_of_scalar s sc));
          loads = subst (AllWithin h) (sym (loads_are (type_of e) site.spot is refl bare place)) (spots_within s sc);
        }

    stored : (s : Scalar) (v : Value) (new updated : Plain) (F k : Heaplet) (m : Mem) → scalar_of (type_of e) ≡ Some s → has (type_of e) v ≡ true → sort_of new ≡ Some ValSort → Means S.defs env new (Val v) →
        update S.defs.structs w path value new ≡ Ok updated → site.at.means.share ≡ pos 16 → Joins h F k → Fits k m → IsStored S env region updated (type_of e) site.spot v F m
    stored s v new updated F k m sc good sort mean made full j fit =
        let structs = S.defs.structs in
        let held = scalars_held structs site.at.means.share site.type s site.item site.spot.block site.spot.offset site.here (shape_of_scalar s sc) site.holds in
        let cells_here = subst (λ q. Cells structs q site.type (Val held.0) site.spot.block site.spot.offset site.here) full
        (subst (λ d. Cells structs site.at.means.share site.type d site.spot.block site.spot.offset site.here) held.1 site.holds) in
        let a = assoc site.joins j in
        let st = scalars_stored structs site.type s held.0 v site.spot.block site.spot.offset site.here a.0 k m a.2 fit (shape_of_scalar s sc) cells_here (sym (holds_agrees (type_of e) s v sc) ∙ good) (site.aligned s (shape_of_scalar s sc)) in
        let b = assoc_back a.1 st.joins in
        record {
          mem = st.mem;
          is = store_is (type_of e) s site.spot v m sc good ∙ st.is;
          here = b.0;
          sum = st.sum;
          joins = b.2;
          fits = st.fits;
          holds = site.back ValSort new updated (Val v) st.here b.0 (scalar_sort structs (type_of e) s sc) sort mean made b.1
              (subst (λ q. Cells structs q site.type (Val v) site.spot.block site.spot.offset st.here) (sym full) st.holds);
        }

    laid_down : (s : Scalar) (v : Value) (new updated : Plain) → scalar_of (type_of e) ≡ Some s → has (type_of e) v ≡ true → sort_of new ≡ Some ValSort → Means S.defs env new (Val v) →
        update S.defs.structs w path value new ≡ Ok updated → site.at.means.share ≡ pos 16 → ObjectHolds S env region updated (laid (encoding (chunk s) v) site.spot.block site.spot.offset h)
    laid_down s v new updated sc good sort mean made full =
        let structs = S.defs.structs in
        let block = site.spot.block in
        let offset = site.spot.offset in
        let bytes = encoding (chunk s) v in
        let whole = all_whole site.here (chunk_size (chunk s)) block offset (whole_here s sc full) in
        let joins = laid_joins bytes site.here site.others h block offset site.joins (subst (λ n. WholeFrom n site.here block offset) (sym (length-encoding (chunk s) v)) whole) in
        let held = scalars_held structs site.at.means.share site.type s site.item block offset site.here (shape_of_scalar s sc) site.holds in
        let cells_here = subst (λ q. Cells structs q site.type (Val held.0) block offset site.here) full (subst (λ d. Cells structs site.at.means.share site.type d block offset site.here) held.1 site.holds) in
        let new_cells = scalar_laid structs site.type s held.0 v block offset site.here (shape_of_scalar s sc) cells_here (sym (holds_agrees (type_of e) s v sc) ∙ good) in
        site.back ValSort new updated (Val v) (laid bytes block offset site.here) (laid bytes block offset h) (scalar_sort structs (type_of e) s sc) sort mean made joins
        (subst (λ q. Cells structs q site.type (Val v) block offset (laid bytes block offset site.here)) (sym full) new_cells)

-- ---- located objects

-- what was answered, part by part
record Answered (structs : Structs) (l : Lvalue) (needs : Needs) (last : SizedType) (parts : List Sep) (given : Located) : Type 0 where
  pub answer : Found
  pub is : found structs parts l.root last l.form ≡ Some answer
  pub ranges : List PlainFormula
  pub said : saying needs.sides (subscript_ranges l.subscripts) ≡ Ok ranges
  pub bounded : bounds structs answer.ty answer.own_steps answer.form ranges ≡ Ok given.sides
  pub root : given.root ≡ l.root
  pub path : given.path ≡ path_of answer.form
  pub part : given.part ≡ answer.number
  pub valid : given.valid ≡ needs.valid

answered_by : (structs : Structs) (l : Lvalue) (needs : Needs) (last : SizedType) (parts : List Sep) (given : Located) (o : Option Found) → found structs parts l.root last l.form ≡ o → located_in structs l needs o ≡ Ok given → Answered structs l needs last parts given
answered_by structs l needs last parts given None f e = absurd cc
answered_by structs l needs last parts given (Some a) f e =
    let p = ok_parts {B = Located} (located_sides structs l a needs.sides) (λ sides. Ok (record { root = l.root; path = path_of a.form; part = a.number; sides = sides; valid = needs.valid })) given e in
    let q = ok_parts (saying needs.sides (subscript_ranges l.subscripts)) (λ more. bounds structs a.ty a.own_steps a.form more) p.0 p.1 in
    let same : ◌≡◌ {A = Located} (record { root = l.root; path = path_of a.form; part = a.number; sides = p.0; valid = needs.valid }) given = cc in
    record {
      answer = a;
      is = f;
      ranges = q.0;
      said = q.1;
      bounded = q.2 ∙ ap (λ (g : Located). Ok g.sides) same;
      root = ap (λ (g : Located). g.root) (sym same);
      path = ap (λ (g : Located). g.path) (sym same);
      part = ap (λ (g : Located). g.part) (sym same);
      valid = ap (λ (g : Located). g.valid) (sym same);
    }

path_parts : (own rest : List Taken) → path_of (own ++ rest) ≡ path_of own ++ path_of rest
path_parts [] rest = refl
path_parts (t ∷ own) rest = ap (λ path. t.step ∷ path) (path_parts own rest)

length_of : (own : List Taken) → length (path_of own) ≡ length own
length_of [] = refl
length_of (t ∷ own) = ap suc (length_of own)

one_behind : (n : ℕ) → 1 + n ≡ n + 1
one_behind n = omega arith

-- the type at the end of a path along which the types agree
path_typed : (structs : Structs) (form : List Taken) (t u : SizedType) → agreeing_end structs t form ≡ Some u → nested.type_at structs t (path_of form) ≡ Some u
path_typed structs [] t u f = f
path_typed structs (one ∷ form) t u f =
    let b = chained (λ after. agreeing_end structs after form) (agreeing_step structs t one) u f in
    let c = chained (λ after. if agrees_at t after one.step one.ty then Some after else None) (nested.type_after structs t one.step) b.0 b.1 in
    let g = cond_some (agrees_at t c.0 one.step one.ty) c.0 b.0 c.2 in
    ap (option_and_then (λ w. nested.type_at structs w (path_of form))) (c.1 ∙ ap Some g.1) ∙ path_typed structs form b.0 u b.2

-- the value of a part of a list in which each has the sort of its type
pub sorted_among : (structs : Structs) (before behind : List Sep) (region : Region) (value : Plain) → AllByRecursion (PartIsSorted structs) (before ++ FieldAt region value ∷ behind) → ObjectIsSorted structs region value
sorted_among structs [] behind region value all = all.0
sorted_among structs (part ∷ before) behind region value all = sorted_among structs before behind region value all.1

-- what the answer alone says of the part, for one list of structs
module _ (structs : Structs) (source : Assertion) (e : Expr) (given : Located) (l : Lvalue) (needs : Needs) (a : Answered structs l needs (sized_type (type_of e)) source.parts given) where
  -- the form of the path, and the part
  form_there : FormFound structs l.root (sized_type (type_of e)) l.form source.parts a.answer
  form_there = form_found structs source.parts l.root (sized_type (type_of e)) l.form a.answer a.is

  ends_there : (w : SizedType) × (agreeing_end structs form_there.part.region.ty form_there.part.has.begins.own ≡ Some w) × (agreeing_end structs w form_there.part.has.begins.rest ≡ Some (sized_type (type_of e)))
  ends_there =
      ends_parts structs form_there.part.region.ty (sized_type (type_of e)) form_there.part.has.begins.own form_there.part.has.begins.rest
      (subst (λ f. agreeing_end structs form_there.part.region.ty f ≡ Some (sized_type (type_of e))) form_there.part.has.begins.is form_there.part.has.ends)

  path_there : given.path ≡ form_there.part.region.path ++ path_of form_there.part.has.begins.rest
  path_there =
      a.path ∙ ap (λ (f : Found). path_of f.form) form_there.part.is ∙ ap path_of form_there.part.has.begins.is ∙ path_parts form_there.part.has.begins.own form_there.part.has.begins.rest
      ∙ ap (λ p. p ++ path_of form_there.part.has.begins.rest) form_there.part.has.begins.path_is

  lies_there : LiesIn structs source.parts given (type_of e)
  lies_there = record {
    before = form_there.part.before;
    region = form_there.part.region;
    value = form_there.part.value;
    behind = form_there.part.behind;
    parts_are = form_there.part.parts_are;
    number = a.part ∙ ap (λ (f : Found). f.number) form_there.part.is ∙ one_behind (length form_there.part.before);
    root = a.root ∙ form_there.part.has.root_is;
    rest = path_of form_there.part.has.begins.rest;
    path = path_there;
    type = ends_there.0;
    nested = ap (nested.type_at structs form_there.part.region.ty) (sym form_there.part.has.begins.path_is) ∙ path_typed structs form_there.part.has.begins.own form_there.part.region.ty ends_there.0 ends_there.1;
    typed = path_typed structs form_there.part.has.begins.rest ends_there.0 (sized_type (type_of e)) ends_there.2;
  }

-- an object that is located lies in a part
pub lies_in : (structs : Structs) (source : Assertion) (e : Expr) (given : Located) → locate source structs e ≡ Ok given → LiesIn structs source.parts given (type_of e)
lies_in structs source e given f =
    let p = ok_parts ((read source structs e).place nothing_needed) (λ l. located structs source.parts (type_of e) l.0 l.1) given f in
    let l = p.0.0 in
    let needs = p.0.1 in
    let last = sized_type (type_of e) in
    lies_there structs source e given l needs (answered_by structs l needs last source.parts given (found structs source.parts l.root last l.form) refl p.2)

module _ (S : Setting) (env : Env) (look : Look) (temps : Temps) (source : Assertion) (h : Heaplet) (known : Names) (state : Meets S env look temps source h known) (e : Expr) (given : Located) (l : Lvalue) (needs : Needs)
    (stands : Stands S env l (type_of e) (place_by S.defs.structs look temps e)) (ranged : AllTrue S.defs S.has_spec env (subscript_ranges l.subscripts)) (say : AllTrue S.defs S.has_spec env given.sides) (is : is_place e ≡ true) (bare : place_loads S.defs.structs look temps e ≡ [])
    (a : Answered S.defs.structs l needs (sized_type (type_of e)) source.parts given) (sorted : AllByRecursion (PartIsSorted S.defs.structs) source.parts) where
  abbrev form : FormFound S.defs.structs l.root (sized_type (type_of e)) l.form source.parts a.answer
  form = form_there S.defs.structs source e given l needs a

  abbrev own : List Taken
  own = form.part.has.begins.own

  abbrev rest : List Taken
  rest = form.part.has.begins.rest

  adds : (x : ℤ) × (y : ℤ) × Adds S.defs env own x × Adds S.defs env rest y × (stands.bytes ≡ x +ℤ y)
  adds = adds_parts S.defs env own rest stands.bytes (subst (λ f. Adds S.defs env f stands.bytes) form.part.has.begins.is (form_adds S.defs env l.form form.used stands.bytes form.of (stands.adds ranged)))

  abbrev ends : (w : SizedType) × (agreeing_end S.defs.structs form.part.region.ty own ≡ Some w) × (agreeing_end S.defs.structs w rest ≡ Some (sized_type (type_of e)))
  ends = ends_there S.defs.structs source e given l needs a

  object_sorted : ObjectIsSorted S.defs.structs form.part.region form.part.value
  object_sorted = sorted_among S.defs.structs form.part.before form.part.behind form.part.region form.part.value (subst (AllByRecursion (PartIsSorted S.defs.structs)) form.part.parts_are sorted)

  -- the bounds, of the part's type on
  bounded_as : (f : Found) → f ≡ found_as form.used form.part.region (1 + length form.part.before) → bounds S.defs.structs f.ty f.own_steps f.form a.ranges ≡ Ok given.sides →
      bounds S.defs.structs form.part.region.ty (length form.part.region.path) form.used a.ranges ≡ Ok given.sides
  bounded_as f same b = subst (λ (g : Found). bounds S.defs.structs g.ty g.own_steps g.form a.ranges ≡ Ok given.sides) same b

  bounded : bounds S.defs.structs form.part.region.ty (length own) (own ++ rest) a.ranges ≡ Ok given.sides
  bounded =
      subst (λ n. bounds S.defs.structs form.part.region.ty n (own ++ rest) a.ranges ≡ Ok given.sides) (ap length (sym form.part.has.begins.path_is) ∙ length_of own)
      (subst (λ f. bounds S.defs.structs form.part.region.ty (length form.part.region.path) f a.ranges ≡ Ok given.sides) form.part.has.begins.is (bounded_as a.answer form.part.is a.bounded))

  site_in : (g : Heaplet) (m : RegionMeans S.defs env form.part.region) (v : Datum) → Means S.defs env form.part.value v → (located : cells.Located S.defs.structs (sized_as form.part.region m.sizes) m.path m.root) →
      Cells S.defs.structs m.share located.type v located.block (located.offset + located.shift) g → Site S env form.part.region form.part.value (path_of rest) ends.0 (sized_type (type_of e)) (adds.0 +ℤ adds.1) g
  site_in g m v mean located there =
      site S env state.structs form.part.region form.part.value object_sorted own rest ends.0 (sized_type (type_of e)) adds.0 adds.1 form.part.has.begins.path_is ends.1 ends.2 adds.2 adds.3
      a.ranges given.sides bounded say g m v mean located there

  abbrev path_is : given.path ≡ form.part.region.path ++ path_of rest
  path_is = path_there S.defs.structs source e given l needs a

  abbrev lies : LiesIn S.defs.structs source.parts given (type_of e)
  lies = lies_there S.defs.structs source e given l needs a

  same_spot : (b s : ℕ) (spot : Spot) → modulo (pos s +ℤ (adds.0 +ℤ adds.1)) (2 ^ 64) ≡ spot.offset → spot.block ≡ b → ◌≡◌ {A = Option Spot} (Some (record { block = b; offset = modulo (pos s +ℤ stands.bytes) (2 ^ 64) })) (Some spot)
  same_spot b s spot f g =
      ap (λ z. Some (record { block = b; offset = modulo (pos s +ℤ z) (2 ^ 64) })) adds.4
      ∙ ap (λ o. Some (record { block = b; offset = o })) f
      ∙ ap (λ c. Some (record { block = c; offset = spot.offset })) (sym g)

  is_at : (path : List PathStep) (spot : Spot) (at : IsAt S env form.part.region (form.part.region.path ++ path_of rest) spot) → IsAt S env form.part.region given.path spot
  is_at path spot at = record { means = at.means; steps = at.steps; of_path = subst (λ p. PathMeans S.defs env p at.steps) (sym path_is) at.of_path; located = at.located; block = at.block; offset = at.offset }

  from_site : (g : Heaplet) → Site S env form.part.region form.part.value (path_of rest) ends.0 (sized_type (type_of e)) (adds.0 +ℤ adds.1) g → StandsIn S env look temps source.parts e given lies g
  unfolding lies_there form_there ends_there is_at
  from_site g s =
      let root : Means S.defs env l.root (Val (Vptr s.spot.block s.start)) = subst (λ t. Means S.defs env t (Val (Vptr s.spot.block s.start))) (sym form.part.has.root_is) s.root in
      let place : place_by S.defs.structs look temps e ≡ Some s.spot = stands.is s.spot.block s.start root ranged ∙ same_spot s.spot.block s.start s.spot s.place refl in
      record {
        spot = s.spot;
        place = place;
        at = is_at (path_of rest) s.spot s.at;
        loaded = λ r t. loaded S env look temps e form.part.region form.part.value (path_of rest) ends.0 (adds.0 +ℤ adds.1) g s is bare place r t;
        stored = λ r v new updated F k m. stored S env look temps e form.part.region form.part.value (path_of rest) ends.0 (adds.0 +ℤ adds.1) g s is bare place r v new updated F k m;
        owned = λ r. owned S env look temps e form.part.region form.part.value (path_of rest) ends.0 (adds.0 +ℤ adds.1) g s is bare place r;
        laid_down = λ r v new updated. laid_down S env look temps e form.part.region form.part.value (path_of rest) ends.0 (adds.0 +ℤ adds.1) g s is bare place r v new updated;
      }

  is_located : IsLocated S env look temps source.parts e given
  unfolding form_there lies_there
  is_located = record { lies = lies; loads = bare; stands = λ g holds. from_site g (site_in g holds.0 holds.1 holds.2 holds.3.0 holds.3.1) }

module _ (S : Setting) (env : Env) (look : Look) (temps : Temps) (source : Assertion) (h : Heaplet) (known : Names) (state : Meets S env look temps source h known) where
  pub objects_lie_in_parts : (e : Expr) (given : Located) → IsTyped S.defs.structs known e → AllByRecursion (PartIsSorted S.defs.structs) source.parts → locate source S.defs.structs e ≡ Ok given → IsMet S env look (record { sides = given.sides; valid = given.valid }) → IsLocated S env look temps source.parts e given
  objects_lie_in_parts e given typed sorted f met =
      let structs = S.defs.structs in
      let p = ok_parts ((read source structs e).place nothing_needed) (λ l. located structs source.parts (type_of e) l.0 l.1) given f in
      let l = p.0.0 in
      let needs = p.0.1 in
      let a = answered_by structs l needs (sized_type (type_of e)) source.parts given (found structs source.parts l.root (sized_type (type_of e)) l.form) refl p.2 in
      let ranges = said_before S env a.ranges given.sides (bounds_follow structs a.answer.ty a.answer.own_steps a.answer.form a.ranges given.sides a.bounded) met.sides in
      let said = subst (AllTrue S.defs S.has_spec env) (saying_is needs.sides (subscript_ranges l.subscripts) a.ranges a.said) ranges in
      let before : IsMet S env look needs =
      record { sides = all_true_first S.defs S.has_spec env needs.sides (subscript_ranges l.subscripts) said; valid = subst (AllValid S.defs env look) a.valid met.valid } in
      is_located S env look temps source h known state e given l needs (stands_for S env look temps source h known state e l nothing_needed needs typed p.1 before)
      (all_true_second S.defs S.has_spec env needs.sides (subscript_ranges l.subscripts) said) met.sides (is_object source structs e l nothing_needed needs p.1)
      ((quiet source structs look temps e).place l nothing_needed needs p.1) a sorted
