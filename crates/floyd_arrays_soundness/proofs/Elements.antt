-- A whole array in memory: its elements, its address and its pieces, where sizes are terms.
use Rattle.std.proofs.Common.{◌≡◌, ℕ, ◌+◌, ◌-◌, ◌*◌, ◌<◌, ◌≤◌, ◌^◌, Bool, true, false, ℤ, pos, ◌+ℤ◌, ◌*ℤ◌, List, [], ◌∷◌, length, map, Some, None, Ok, refl, sym, ap, ap₂, subst, ◌∙◌, arith}
use Rattle.std.specs.Prelude.{if◌then◌else◌, is_some, option_and_then, option_map, slice_get}
use Rattle.std.proofs.lemmas.Int.{ints}
use Rattle.std.proofs.lemmas.List.Elements.{All-cons, All-nil}
use Rattle.std.proofs.lemmas.Option.{same_Some}
use Rattle.floyd_int.specs.declared.kinds.Value.TheVariants.{Vptr}
use Rattle.floyd_int.specs.Kind.{modulo}
use Rattle.floyd_int.proofs.Modulo.{modulo-small}
use Rattle.floyd_clight_heap.specs.Heaplet.{Heaplet}
use Rattle.floyd_tree_sorts.specs.declared.shape.Shape.{Shape, Void, Int, Pointer', Array', Struct, Function', more_of-Shape, end_of-Shape}
use Rattle.floyd_tree.specs.declared.paths.PathStep.{PathStep}
use Rattle.floyd_tree.specs.declared.paths.PathStep.TheVariants.{Subscript}
use Rattle.floyd_tree.specs.Plain.{Plain, plains}
use Rattle.floyd_tree.specs.Types.{SizedType}
use Rattle.floyd_tree_values.specs.BuiltIns.{Env}
use Rattle.floyd_tree_values.specs.Data.{Datum, Number, Val, items_in}
use Rattle.floyd_tree_values.specs.Means.{Defs, Means, AllMean, more}
use Rattle.floyd_assert_cells.specs.Cells.{Cells, FieldPart}
use Rattle.floyd_assert_cells.specs.Forms.{form_size}
use Rattle.floyd_assert_cells.specs.Laws.{array_of}
use Rattle.floyd_assert_cells.specs.Types.{Sized, Step, At, compatible, offset_at, size, type_at}
use Rattle.floyd_assert_cells.proofs.FormLaws.{size_is}
use Rattle.floyd_assert_cells.proofs.ObjectLaws.{array_form, arrays_have_items, opened}
use Rattle.floyd_assert_trees.specs.declared.sep.Region.{Region}
use Rattle.floyd_assert_meaning.specs.Parts.{ObjectHolds, PathMeans, RegionMeans, sized_as}
use Rattle.floyd_assert_meaning.specs.Settings.{Setting}
use Rattle.floyd_fieldpath.specs.Addresses.{address}
use Rattle.floyd_fieldpath_laws.specs.Conditions.{IsNumber, IsStep}
use Rattle.floyd_fieldpath_laws.specs.Senses.{Sense}
use Rattle.floyd_fieldpath_laws.proofs.AddressMeanings.{address_means, first_size}
use Rattle.floyd_goal_plans.specs.Counts.{is_array}
use Rattle.floyd_part_laws.specs.Laws.{IsPlace}
use Rattle.floyd_part_laws.proofs.Regions.{whole_part}
use Rattle.floyd_arrays_soundness.specs.Pieces.{ArrayFits}
use Rattle.floyd_arrays_soundness.proofs.Pieces.{stands}

-- ---- whole objects

steps_none : (defs : Defs) (env : Env) (path : List PathStep) (steps : List Step) → path ≡ [] → PathMeans defs env path steps → steps ≡ []
steps_none defs env [] [] e m = refl
steps_none defs env [] (s ∷ steps) e m = absurd m
steps_none defs env (p ∷ path) steps e m = absurd cc

where_some : {A : Type 0} (t : Bool) (x y : A) → (if t then Some x else None) ≡ Some y → x ≡ y
where_some true x y e = same_Some x y e
where_some false x y e = absurd cc

same_shift : (m n : ℕ) → ◌≡◌ {A = ℤ} (pos m) (pos n) → m ≡ n
same_shift m n e = cc

-- an object of a type that stands at its root
pub record Whole (S : Setting) (env : Env) (r : Region) (d : Datum) (h : Heaplet) : Type 0 where
  pub share : ℤ
  pub sizes : List ℤ
  pub block : ℕ
  pub offset : ℕ
  pub of_share : Means S.defs env r.share (Number share)
  pub of_sizes : AllMean S.defs env (plains r.ty.sizes) (map Number sizes)
  pub of_root : Means S.defs env r.root (Val (Vptr block offset))
  pub fits : compatible S.defs.structs (sized_as r sizes) [] (Vptr block offset) ≡ true
  pub cells : Cells S.defs.structs share (sized_as r sizes) d block offset h

pub whole_of : (S : Setting) (env : Env) (r : Region) (v : Plain) (h : Heaplet) → r.path ≡ [] → ObjectHolds S env r v h → (d : Datum) × Means S.defs env v d × Whole S env r d h
whole_of S env r v h empty (m, d, means, (l, cells)) =
    let structs = S.defs.structs in
    let t = sized_as r m.sizes in
    let none : m.path ≡ [] = steps_none S.defs env r.path m.path empty m.of_path in
    let nested : type_at structs t [] ≡ Some l.type = ap (type_at structs t) (sym none) ∙ l.nested in
    let shifted : offset_at structs t [] ≡ Some (pos l.shift) = ap (offset_at structs t) (sym none) ∙ l.shifted in
    let type : t ≡ l.type = where_some (is_some (size structs t)) t l.type nested in
    let nought : 0 ≡ l.shift = same_shift 0 l.shift (where_some (is_some (size structs t)) (pos 0) (pos l.shift) shifted) in
    let here : l.offset + l.shift ≡ l.offset = omega (arith, nought) in (
      d,
      means,
      record {
        share = m.share;
        sizes = m.sizes;
        block = l.block;
        offset = l.offset;
        of_share = m.of_share;
        of_sizes = m.of_sizes;
        of_root = subst (λ x. Means S.defs env r.root (Val x)) l.points m.of_root;
        fits = ap (λ p. compatible structs t p (Vptr l.block l.offset)) (sym none) ∙ ap (compatible structs t m.path) (sym l.points) ∙ l.fits;
        cells = subst (λ n. Cells structs m.share t d l.block n h) here (subst (λ u. Cells structs m.share u d l.block (l.offset + l.shift) h) (sym type) cells);
      },
    )

-- ---- arrays

-- a type with so many elements is an array's
pub record IsArray (t : SizedType) (n : Plain) : Type 0 where
  pub element : Shape
  pub rest : List Plain
  pub shape_is : t.shape ≡ Array' tt (more_of-Shape element end_of-Shape)
  pub sizes_are : t.sizes ≡ n ∷ rest

counted : (shape : Shape) (sizes : List Plain) (n : Plain) → (if is_array shape then slice_get sizes 0 else None) ≡ Some n → IsArray (record { shape = shape; sizes = sizes }) n
counted (Array' p (more_of-Shape element end_of-Shape)) (m ∷ rest) n e = record { element = element; rest = rest; shape_is = refl; sizes_are = ap (λ x. x ∷ rest) (same_Some {A = Plain} m n e) }
counted (Array' p (more_of-Shape element end_of-Shape)) [] n e = absurd cc
counted Void sizes n e = absurd cc
counted (Int kind) sizes n e = absurd cc
counted (Pointer' p t) sizes n e = absurd cc
counted (Struct tag) sizes n e = absurd cc
counted (Function' q ps p r) sizes n e = absurd cc

pub array_type : (t : SizedType) (n : Plain) → (if is_array t.shape then slice_get t.sizes 0 else None) ≡ Some n → IsArray t n
array_type t n e = counted t.shape t.sizes n e

-- the elements of an array whose type is known
pub record Elements (S : Setting) (env : Env) (r : Region) (n : Plain) (a : IsArray r.ty n) (d : Datum) (h : Heaplet) : Type 0 where
  pub share : ℤ
  pub of_share : Means S.defs env r.share (Number share)
  pub count : ℕ
  pub of_count : Means S.defs env n (Number (pos count))
  pub sizes : List ℤ
  pub of_sizes : AllMean S.defs env (plains a.rest) (map Number sizes)
  pub block : ℕ
  pub offset : ℕ
  pub of_root : Means S.defs env r.root (Val (Vptr block offset))
  pub bytes : ℕ
  pub sized : size S.defs.structs (record { shape = a.element; sizes = sizes }) ≡ Some (pos bytes)
  pub fits : ArrayFits S.defs.structs (record { shape = a.element; sizes = sizes }) count block offset
  pub cells : Cells S.defs.structs share (array_of (pos count) (record { shape = a.element; sizes = sizes })) d block offset h
  pub items : length (items_in d) ≡ count

pub elements_of : (S : Setting) (env : Env) (r : Region) (n : Plain) (a : IsArray r.ty n) (d : Datum) (h : Heaplet) → Whole S env r d h → Elements S env r n a d h
elements_of S env r n a d h w =
    let structs = S.defs.structs in
    let all : AllMean S.defs env (plains (n ∷ a.rest)) (map Number w.sizes) = subst (λ ts. AllMean S.defs env (plains ts) (map Number w.sizes)) a.sizes_are w.of_sizes in
    let z = first_size S.defs env n a.rest w.sizes all in
    let t : Sized = record { shape = a.element; sizes = z.1 } in
    let same : ◌≡◌ {A = Sized} (sized_as r w.sizes) (array_of z.0 t) = ap₂ (λ s ns. record { shape = s; sizes = ns }) a.shape_is z.2 in
    let cells : Cells structs w.share (array_of z.0 t) d w.block w.offset h = subst (λ u. Cells structs w.share u d w.block w.offset h) same w.cells in
    let fits : compatible structs (array_of z.0 t) [] (Vptr w.block w.offset) ≡ true = subst (λ u. compatible structs u [] (Vptr w.block w.offset) ≡ true) same w.fits in
    let count = (arrays_have_items structs w.share z.0 t d w.block w.offset h cells).0 in
    let o = opened structs w.share (array_of z.0 t) d w.block w.offset h cells in
    let form = array_form structs z.0 t o.form o.of in
    record {
      share = w.share;
      of_share = w.of_share;
      count = length (items_in d);
      of_count = subst (λ x. Means S.defs env n (Number x)) count z.3;
      sizes = z.1;
      of_sizes = z.4;
      block = w.block;
      offset = w.offset;
      of_root = w.of_root;
      bytes = form_size form.item;
      sized = size_is structs t.shape t.sizes form.item form.of;
      fits = subst (λ x. compatible structs (array_of x t) [] (Vptr w.block w.offset) ≡ true) count fits;
      cells = subst (λ x. Cells structs w.share (array_of x t) d w.block w.offset h) count cells;
      items = refl;
    }

module _ (S : Setting) (env : Env) (r : Region) (n : Plain) (a : IsArray r.ty n) (d : Datum) (h : Heaplet) (x : Elements S env r n a d h) where
  abbrev T : Sized
  T = record { shape = a.element; sizes = x.sizes }

  -- an array of so many of the elements, where it stands
  pub piece_holds : (k root value : Plain) (count offset : ℕ) (e : Datum) (g : Heaplet) → Means S.defs env k (Number (pos count)) → Means S.defs env root (Val (Vptr x.block offset)) → Means S.defs env value e →
      ArrayFits S.defs.structs (record { shape = a.element; sizes = x.sizes }) count x.block offset → Cells S.defs.structs x.share (array_of (pos count) (record { shape = a.element; sizes = x.sizes })) e x.block offset g →
      ObjectHolds S env (record { share = r.share; ty = record { shape = r.ty.shape; sizes = k ∷ a.rest }; path = []; root = root }) value g
  piece_holds k root value count offset e g of_count of_root of_value fits cells =
      let structs = S.defs.structs in
      let part : FieldPart structs x.share (array_of (pos count) T) [] e (Vptr x.block offset) g = whole_part structs x.share (array_of (pos count) T) e x.block offset g fits cells in
      let region : RegionMeans S.defs env (record { share = r.share; ty = record { shape = r.ty.shape; sizes = k ∷ a.rest }; path = []; root = root }) = record {
        share = x.share;
        sizes = pos count ∷ x.sizes;
        path = [];
        root = Vptr x.block offset;
        of_share = x.of_share;
        of_sizes = more of_count x.of_sizes;
        of_path = tt;
        of_root = of_root;
      } in
      (region, e, of_value, subst (λ s. FieldPart structs x.share (record { shape = s; sizes = pos count ∷ x.sizes }) [] e (Vptr x.block offset) g) (sym a.shape_is) part)

  -- the element at a place stands so far behind the first
  element_offset : (m : ℕ) → offset_at S.defs.structs (array_of (pos x.count) T) (At (pos m) ∷ []) ≡ Some (pos (x.bytes * m) +ℤ pos 0)
  element_offset m = ap (λ q. option_and_then (λ o. option_map (λ rest. o +ℤ rest) (if is_some q then Some (pos 0) else None)) (option_map (λ b. b *ℤ pos m) q)) x.sized

  room_to : (m : ℕ) → m ≤ x.count → x.offset + x.bytes * m < 2 ^ 64
  room_to m low =
      let s = stands S.defs.structs T x.bytes x.sized x.count x.block x.offset x.fits in
      below x.offset x.bytes m (x.count - m) (subst (λ c. x.offset + x.bytes * c < 2 ^ 64) (omega (arith, low)) s.room)
    where
      below : (o b m k : ℕ) → o + b * (m + k) < 2 ^ 64 → o + b * m < 2 ^ 64
      below o b m k l =
          let e : b * (m + k) ≡ b * m + b * k = omega arith in
          omega (arith, l, e)

  -- the address of the element at a place, which may be behind the last one
  pub element_means : (k root : Plain) (m : ℕ) → IsPlace S.defs.structs r → IsNumber k → m ≤ x.count → Means S.defs env k (Number (pos m)) → address S.defs.structs r.ty (Subscript k ∷ []) r.root ≡ Ok root → Means S.defs env root (Val (Vptr x.block (x.offset + x.bytes * m)))
  element_means k root m place number low means made =
      let sizes : AllMean S.defs env (plains r.ty.sizes) (map Number (pos x.count ∷ x.sizes)) = subst (λ ts. AllMean S.defs env (plains ts) (map Number (pos x.count ∷ x.sizes))) (sym a.sizes_are) (more x.of_count x.of_sizes) in
      let sense : Sense S.defs env r.ty (Subscript k ∷ []) = record {
        type = array_of (pos x.count) T;
        steps = At (pos m) ∷ [];
        has_sizes = place.sizes;
        is_path = All-cons IsStep (Subscript k) [] number (All-nil IsStep);
        shape = sym a.shape_is;
        sizes = sizes;
        of_path = (means, tt);
      } in
      let room = room_to m low in
      let begins : x.offset < 2 ^ 64 = omega (arith, room) in
      let sum : pos x.offset +ℤ (pos (x.bytes * m) +ℤ pos 0) ≡ pos (x.offset + x.bytes * m) = omega (arith, ints) in
      let still : modulo (pos x.offset +ℤ (pos (x.bytes * m) +ℤ pos 0)) (2 ^ 64) ≡ x.offset + x.bytes * m = ap (λ i. modulo i (2 ^ 64)) sum ∙ modulo-small (x.offset + x.bytes * m) (2 ^ 64) room in
      subst (λ o. Means S.defs env root (Val (Vptr x.block o))) still
      (address_means S.defs env r.ty (Subscript k ∷ []) r.root root sense x.block x.offset (pos (x.bytes * m) +ℤ pos 0) place.root x.of_root begins (element_offset m) made)
