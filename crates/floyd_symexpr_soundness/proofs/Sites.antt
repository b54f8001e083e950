-- The place in a part of memory to which a form of a path leads, and what stands there.
use Rattle.std.proofs.Common.{◌≡◌, ℕ, ◌+◌, ◌<◌, ◌^◌, Bool, true, false, ◌&&◌, ℤ, pos, ◌+ℤ◌, List, [], ◌∷◌, ◌++◌, length, Option, Some, None, Ok, refl, sym, ap, ap₂, subst, ◌∙◌, arith}
use Rattle.std.specs.Prelude.{int_lt}
use Rattle.std.specs.Option.{option_map_or}
use Rattle.std.proofs.lemmas.Bool.{and_parts}
use Rattle.std.proofs.lemmas.Int.{ints}
use Rattle.std.proofs.lemmas.Option.{same_Some}
use Rattle.floyd_int.specs.declared.kinds.Value.TheVariants.{Vptr}
use Rattle.floyd_int.specs.Kind.{modulo}
use Rattle.floyd_int.proofs.Modulo.{modulo-small}
use Rattle.floyd_ctypes.specs.Structs.{Structs}
use Rattle.floyd_clight_heap.specs.Heaplet.{Heaplet, Joins}
use Rattle.floyd_clight_machine.specs.Evaluation.{Spot}
use Rattle.floyd_tree_sorts.specs.declared.sorts.Sort.{Sort}
use Rattle.floyd_tree.specs.declared.paths.PathStep.{PathStep}
use Rattle.floyd_tree.specs.Formulas.{PlainFormula}
use Rattle.floyd_tree.specs.Plain.{Plain}
use Rattle.floyd_tree.specs.Types.{SizedType}
use Rattle.floyd_tree.specs.WellSorted.{sort_of}
use Rattle.floyd_tree_values.specs.BuiltIns.{Env}
use Rattle.floyd_tree_values.specs.Data.{Datum, Val}
use Rattle.floyd_tree_values.specs.Defaults.{value_sort}
use Rattle.floyd_tree_values.specs.Means.{Means}
use Rattle.floyd_truth.specs.Truth.{AllTrue}
use Rattle.floyd_assert_cells.specs.Cells.{Cells}
use Rattle.floyd_assert_cells.specs.Cells as cells
use Rattle.floyd_assert_cells.specs.Forms.{Form, form_of}
use Rattle.floyd_assert_cells.specs.Items.{item_at, with_at}
use Rattle.floyd_assert_cells.specs.Scalars.{Scalar, chunk, shape_scalar}
use Rattle.floyd_assert_cells.specs.Types.{Sized, Step, compatible, has_room, is_aligned_for, is_legal, none_negative, offset_at, size}
use Rattle.floyd_assert_cells.specs.Types as z
use Rattle.floyd_assert_cells.proofs.ObjectLaws.{opened, paths_aligned}
use Rattle.floyd_assert_trees.specs.declared.sep.Region.{Region}
use Rattle.floyd_assert_meaning.specs.Parts.{ObjectHolds, PathMeans, RegionMeans, sized_as}
use Rattle.floyd_assert_meaning.specs.Settings.{Setting}
use Rattle.floyd_clight_memory.specs.Memory.{is_aligned}
use Rattle.floyd_fieldpath.specs.Nested.{type_after, type_at}
use Rattle.floyd_fieldpath.specs.Projections.{project}
use Rattle.floyd_fieldpath.specs.Updates.{update}
use Rattle.floyd_fieldpath_laws.specs.Conditions.{HasSizes}
use Rattle.floyd_fieldpath_laws.specs.Senses.{IsTaken, Sense}
use Rattle.floyd_fieldpath_laws.proofs.PartMeanings.{part_has_items}
use Rattle.floyd_fieldpath_laws.proofs.PlaceMeanings.{place_below}
use Rattle.floyd_fieldpath_laws.proofs.TypeSorts.{sizes_after, step_some}
use Rattle.floyd_symexpr_paths.specs.declared.lvalue.Taken.{Taken}
use Rattle.floyd_symexpr_paths.specs.Bounds.{bounds}
use Rattle.floyd_symexpr_paths.specs.Locating.{agreeing_end}
use Rattle.floyd_symexpr_paths.specs.Places.{path_of}
use Rattle.floyd_symexpr_soundness.specs.Laws.{AreLaidOut, IsAt, ObjectIsSorted}
use Rattle.floyd_symexpr_soundness.proofs.Adding.{Adds}
use Rattle.floyd_symexpr_soundness.proofs.Bounding.{Joined, bounds_legal, bounds_past, joined}
use Rattle.floyd_symexpr_soundness.proofs.Walking.{Walked, means_on, one_path, walk}

-- the type at a path has sizes for its arrays
pub sizes_at : (structs : Structs) (t u : SizedType) (path : List PathStep) → HasSizes t → type_at structs t path ≡ Some u → HasSizes u
sizes_at structs t u [] w e = subst HasSizes (same_Some t u e) w
sizes_at structs t u (step ∷ path) w e =
    let a = step_some structs path (type_after structs t step) u e in
    sizes_at structs a.0 u path (sizes_after structs t a.0 step w a.1) a.2

-- what compatible says of a place
record FourParts (structs : Structs) (t : Sized) (path : List Step) (offset : ℕ) : Type 0 where
  pub aligned : is_aligned_for structs t offset ≡ true
  pub room : has_room structs t offset ≡ true
  pub sizes : none_negative t.sizes ≡ true
  pub legal : is_legal structs t path ≡ true

four_parts : (structs : Structs) (t : Sized) (path : List Step) (block offset : ℕ) → compatible structs t path (Vptr block offset) ≡ true → FourParts structs t path offset
four_parts structs t path block offset e =
    let a = and_parts (is_aligned_for structs t offset && has_room structs t offset && none_negative t.sizes) (is_legal structs t path) e in
    let b = and_parts (is_aligned_for structs t offset && has_room structs t offset) (none_negative t.sizes) a.0 in
    let c = and_parts (is_aligned_for structs t offset) (has_room structs t offset) b.0 in
    record { aligned = c.0; room = c.1; sizes = b.1; legal = a.1 }

four_again : (structs : Structs) (t : Sized) (path : List Step) (block offset : ℕ) → is_aligned_for structs t offset ≡ true → has_room structs t offset ≡ true → none_negative t.sizes ≡ true → is_legal structs t path ≡ true → compatible structs t path (Vptr block offset) ≡ true
four_again structs t path block offset a b c d = ap₂ (λ p q. p && q) (ap₂ (λ p q. p && q) (ap₂ (λ p q. p && q) a b) c) d

some_size : (o : Option ℤ) (F : ℤ → Bool) → option_map_or F o false ≡ true → (n : ℤ) × (o ≡ Some n)
some_size (Some n) F e = (n, refl)
some_size None F e = absurd cc

same_shift : (m n : ℕ) → ◌≡◌ {A = Option ℤ} (Some (pos m)) (Some (pos n)) → m ≡ n
same_shift m n e = cc

sum_of_shifts : (x y : ℤ) (a b : ℕ) → x ≡ pos a → y ≡ pos b → x +ℤ y ≡ pos (a + b)
sum_of_shifts x y a b e f = omega (arith, ints, e, f)

moved_sum : (o a : ℕ) (z : ℤ) → z ≡ pos a → pos o +ℤ z ≡ pos (o + a)
moved_sum o a z e = omega (arith, ints, e)

further : (o a b : ℕ) → o + a + b ≡ o + (a + b)
further o a b = omega arith

module _ (S : Setting) (env : Env) where
  -- What a heaplet of which a part holds has where a path leads on from the part's own: the place, and there a value, which is
  -- the item of the part's value; and another value may be put there.
  pub record Site (region : Region) (value : Plain) (path : List PathStep) (w last : SizedType) (bytes : ℤ) (h : Heaplet) : Type 0 where
    pub spot : Spot
    pub start : ℕ
    pub root : Means S.defs env region.root (Val (Vptr spot.block start))
    pub place : modulo (pos start +ℤ bytes) (2 ^ 64) ≡ spot.offset
    pub at : IsAt S env region (region.path ++ path) spot
    pub type : Sized
    pub shape : type.shape ≡ last.shape
    pub aligned : (s : Scalar) → shape_scalar type.shape ≡ Some s → is_aligned (chunk s) spot.offset ≡ true
    pub item : Datum
    pub item_means : (t : Plain) → project S.defs.structs w path value ≡ Ok t → Means S.defs env t item
    pub here : Heaplet
    pub others : Heaplet
    pub joins : Joins here others h
    pub holds : Cells S.defs.structs at.means.share type item spot.block spot.offset here
    pub back : (r : Sort) (new updated : Plain) (e : Datum) (g k : Heaplet) → value_sort S.defs.structs last.shape ≡ Some r → sort_of new ≡ Some r → Means S.defs env new e → update S.defs.structs w path value new ≡ Ok updated →
        Joins g others k → Cells S.defs.structs at.means.share type e spot.block spot.offset g → ObjectHolds S env region updated k

  module _ (laid : AreLaidOut S.defs.structs) (region : Region) (value : Plain) (sorted : ObjectIsSorted S.defs.structs region value) (own rest : List Taken) (w last : SizedType) (x y : ℤ)
      (own_path : path_of own ≡ region.path) (own_ends : agreeing_end S.defs.structs region.ty own ≡ Some w) (rest_ends : agreeing_end S.defs.structs w rest ≡ Some last)
      (own_adds : Adds S.defs env own x) (rest_adds : Adds S.defs env rest y)
      (all more : List PlainFormula) (bounded : bounds S.defs.structs region.ty (length own) (own ++ rest) all ≡ Ok more) (say : AllTrue S.defs S.has_spec env more)
      (h : Heaplet) (means : RegionMeans S.defs env region) (datum : Datum) (value_means : Means S.defs env value datum)
      (located : cells.Located S.defs.structs (sized_as region means.sizes) means.path means.root) (there : Cells S.defs.structs means.share located.type datum located.block (located.offset + located.shift) h) where
    abbrev Whole : Sized
    Whole = sized_as region means.sizes

    parts : FourParts S.defs.structs Whole means.path located.offset
    parts = four_parts S.defs.structs Whole means.path located.block located.offset (ap (compatible S.defs.structs Whole means.path) (sym located.points) ∙ located.fits)

    whole_size : (n : ℤ) × (size S.defs.structs Whole ≡ Some n)
    whole_size = some_size (size S.defs.structs Whole) (λ n. int_lt (pos located.offset +ℤ n) (pos (2 ^ 64))) parts.room

    -- along the part's own path
    first : Walked S.defs env laid region.ty w Whole own x
    first = walk S.defs env laid own region.ty w Whole whole_size.0 x (record { shape = refl; sizes = means.of_sizes }) whole_size.1 own_ends own_adds

    first_steps : first.steps ≡ means.path
    first_steps = one_path S.defs env laid region.path first.steps means.path (subst (λ p. PathMeans S.defs env p first.steps) own_path first.means) means.of_path

    first_type : first.type ≡ located.type
    first_type = same_Some first.type located.type (sym first.nested ∙ ap (z.type_at S.defs.structs Whole) first_steps ∙ located.nested)

    first_shift : x ≡ pos located.shift
    first_shift = same_Some x (pos located.shift) (sym first.shifted ∙ ap (offset_at S.defs.structs Whole) first_steps ∙ located.shifted)

    -- and on from there
    second : Walked S.defs env laid w last first.type rest y
    second = walk S.defs env laid rest w last first.type first.count y first.type_means first.sized rest_ends rest_adds

    second_legal : is_legal S.defs.structs first.type second.steps ≡ true
    second_legal = bounds_legal S env rest second.steps w first.type second.type all more first.type_means second.means second.nested (bounds_past S.defs.structs region.ty w own rest all more first.typed bounded) say

    cells_there : Cells S.defs.structs means.share first.type datum located.block (located.offset + located.shift) h
    cells_there = subst (λ t. Cells S.defs.structs means.share t datum located.block (located.offset + located.shift) h) (sym first_type) there

    -- both
    abbrev steps : List Step
    steps = means.path ++ second.steps

    one_way : Joined S.defs.structs Whole second.type means.path second.steps x y
    one_way =
        joined S.defs.structs means.path second.steps Whole first.type second.type x y (ap (z.type_at S.defs.structs Whole) (sym first_steps) ∙ first.nested)
        (ap (offset_at S.defs.structs Whole) (sym first_steps) ∙ first.shifted) parts.legal second.nested second.shifted second_legal

    fits : compatible S.defs.structs Whole steps (Vptr located.block located.offset) ≡ true
    fits = four_again S.defs.structs Whole steps located.block located.offset parts.aligned parts.room parts.sizes one_way.legal

    pub typed : type_at S.defs.structs region.ty region.path ≡ Some w
    typed = ap (type_at S.defs.structs region.ty) (sym own_path) ∙ first.typed

    pub typed_rest : type_at S.defs.structs w (path_of rest) ≡ Some last
    typed_rest = second.typed

    nested_is : sorted.nested ≡ w
    nested_is = same_Some sorted.nested w (sym sorted.at ∙ typed)

    abbrev sense : Sense S.defs env w (path_of rest)
    sense = record {
      type = first.type;
      steps = second.steps;
      has_sizes = sizes_at S.defs.structs region.ty w region.path sorted.sizes typed;
      is_path = second.path;
      shape = first.type_means.shape;
      sizes = first.type_means.sizes;
      of_path = second.means;
    }

    -- the form of what stands at the part's own path
    abbrev form : Form
    form = (opened S.defs.structs means.share first.type datum located.block (located.offset + located.shift) h cells_there).form

    form_is : form_of S.defs.structs first.type ≡ Some form
    form_is = (opened S.defs.structs means.share first.type datum located.block (located.offset + located.shift) h cells_there).of

    taken : IsTaken S.defs env means.share w last (path_of rest) sense form value datum located.block (located.offset + located.shift) h
    taken =
        part_has_items S.defs env means.share w last (path_of rest) sense value sorted.sort form datum located.block (located.offset + located.shift) h
        second.typed (subst (λ (t : SizedType). value_sort S.defs.structs t.shape ≡ Some sorted.sort) nested_is sorted.has) sorted.sorted value_means form_is second_legal cells_there

    type_is : taken.place.type ≡ second.type
    type_is = same_Some taken.place.type second.type (sym taken.place.nested ∙ second.nested)

    abbrev shift : ℕ
    shift = located.shift + taken.place.shift

    total : x +ℤ y ≡ pos shift
    total = sum_of_shifts x y located.shift taken.place.shift first_shift (same_Some y (pos taken.place.shift) (sym second.shifted ∙ taken.place.shifted))

    shifted : offset_at S.defs.structs Whole steps ≡ Some (pos shift)
    shifted = one_way.shifted ∙ ap Some total

    low : located.offset + shift < 2 ^ 64
    low = place_below S.defs.structs Whole steps located.block located.offset shift fits shifted

    pub site : Site region value (path_of rest) w last (x +ℤ y) h
    site =
        let p = taken.place in
        let same : located.offset + located.shift + p.shift ≡ located.offset + shift = further located.offset located.shift p.shift in
        record {
          spot = record { block = located.block; offset = located.offset + shift };
          start = located.offset;
          root = subst (λ r. Means S.defs env region.root (Val r)) located.points means.of_root;
          place = ap (λ n. modulo n (2 ^ 64)) (moved_sum located.offset shift (x +ℤ y) total) ∙ modulo-small (located.offset + shift) (2 ^ 64) low;
          at = record {
            means = means;
            steps = steps;
            of_path = means_on S.defs env laid region.path (path_of rest) means.path second.steps means.of_path second.means;
            located = record {
              block = located.block;
              offset = located.offset;
              points = located.points;
              fits = ap (compatible S.defs.structs Whole steps) located.points ∙ fits;
              type = second.type;
              nested = one_way.nested;
              shift = shift;
              shifted = shifted;
            };
            block = refl;
            offset = refl;
          };
          type = p.type;
          shape = ap (λ (t : Sized). t.shape) type_is ∙ second.type_means.shape;
          aligned = λ s is. paths_aligned S.defs.structs Whole second.type steps located.block located.offset shift s fits one_way.nested shifted (subst (λ (t : Sized). shape_scalar t.shape ≡ Some s) type_is is);
          item = item_at second.steps form datum;
          item_means = λ t e. taken.means.item t e;
          here = p.focus.here;
          others = p.focus.others;
          joins = p.focus.joins;
          holds = subst (λ o. Cells S.defs.structs means.share p.type (item_at second.steps form datum) located.block o p.focus.here) same p.focus.holds;
          back = λ r new updated e g k has is mean made j held. (
            means,
            with_at second.steps form datum e,
            taken.means.updated new updated r e has is mean made,
            (
              located,
              subst (λ t. Cells S.defs.structs means.share t (with_at second.steps form datum e) located.block (located.offset + located.shift) k) first_type
                  (p.focus.back e g k j (subst (λ o. Cells S.defs.structs means.share p.type e located.block o g) (sym same) held)),
            ),
          );
        }
