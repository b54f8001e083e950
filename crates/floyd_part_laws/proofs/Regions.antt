-- A part of memory at a path is a whole object at its own address.
use Rattle.std.proofs.Common.{◌≡◌, ℕ, ◌+◌, ◌≤◌, true, ℤ, pos, [], Option, Some, None, inr, refl, sym, ap, ap₂, subst, ◌∙◌, arith, cond, leb-true}
use Rattle.std.specs.Prelude.{◌==◌, ◌&&◌, int_le, is_some}
use Rattle.std.proofs.lemmas.Bool.{eq-eqb}
use Rattle.floyd_int.specs.declared.kinds.Value.TheVariants.{Vptr}
use Rattle.floyd_ctypes.specs.Structs.{Structs}
use Rattle.floyd_clight_heap.specs.Heaplet.{Cell, Heaplet, Within}
use Rattle.floyd_tree.specs.Types.{SizedType}
use Rattle.floyd_tree_values.specs.BuiltIns.{Env}
use Rattle.floyd_tree_values.specs.Data.{Datum, Number}
use Rattle.floyd_tree_values.specs.Defaults.{default_value}
use Rattle.floyd_tree_values.specs.Means.{Means}
use Rattle.floyd_tree_values.proofs.OneValue.{one_value}
use Rattle.floyd_assert_cells.specs.Cells.{Cells, FieldPart, IsCell, Located, within}
use Rattle.floyd_assert_cells.specs.Laws.{IsExact}
use Rattle.floyd_assert_cells.specs.Types.{Sized, compatible, size, size_by}
use Rattle.floyd_assert_cells.proofs.DefaultCells.{default_is, form_default}
use Rattle.floyd_assert_cells.proofs.Exact.{within_from}
use Rattle.floyd_assert_cells.proofs.ObjectLaws.{cells_are_exact, cells_have_defaults, opened}
use Rattle.floyd_assert_trees.specs.declared.sep.Region.{Region}
use Rattle.floyd_assert_meaning.specs.Parts.{RegionMeans, sized_as}
use Rattle.floyd_assert_meaning.specs.Settings.{Setting}
use Rattle.floyd_compatible_laws.proofs.Parts.{parts_are_objects}
use Rattle.floyd_fieldpath.specs.Nested.{type_at}
use Rattle.floyd_fieldpath_laws.specs.Senses.{Sense}
use Rattle.floyd_fieldpath_laws.proofs.AddressMeanings.{TypeMeans, size_means}
use Rattle.floyd_fieldpath_laws.proofs.ItemMeanings.{default_means}
use Rattle.floyd_fieldpath_laws.proofs.PlaceMeanings.{place_means}
use Rattle.floyd_fieldpath_laws.proofs.TypeSorts.{types_have_sorts}
use Rattle.floyd_part_laws.specs.Laws.{IsPlace, PartsAreRerooted, PartsAreValid, PartsHaveDefaults, whole_at}
use Rattle.floyd_part_laws.proofs.Along.{types_mean}

-- ---- whole objects

where_some : {A : Type 0} (o : Option ℤ) (n : ℤ) (x : A) → o ≡ Some n → cond (is_some o) (Some x) None ≡ Some x
where_some o n x e = ap (λ z. cond (is_some z) (Some x) None) e

pub whole_part : (structs : Structs) (share : ℤ) (t : Sized) (v : Datum) (b o : ℕ) (h : Heaplet) → compatible structs t [] (Vptr b o) ≡ true → Cells structs share t v b o h → FieldPart structs share t [] v (Vptr b o) h
whole_part structs share t v b o h fits cells =
    let x = cells_are_exact structs share t v b o h cells in
    let none : o ≡ o + 0 = omega arith in (
      record {
        block = b;
        offset = o;
        points = refl;
        fits = fits;
        type = t;
        nested = where_some (size structs t) (pos x.count) t x.size;
        shift = 0;
        shifted = where_some (size structs t) (pos x.count) (pos 0) x.size;
      },
      subst (λ n. Cells structs share t v b n h) none cells,
    )

module _ (S : Setting) (env : Env) (r : Region) where
  abbrev pub sense : IsPlace S.defs.structs r → RegionMeans S.defs env r → Sense S.defs env r.ty r.path
  sense place m = record { type = sized_as r m.sizes; steps = m.path; has_sizes = place.sizes; is_path = place.path; shape = refl; sizes = m.of_sizes; of_path = m.of_path }

  -- the type there, and what its sizes mean
  pub type_there : (m : RegionMeans S.defs env r) (u : SizedType) (l : Located S.defs.structs (sized_as r m.sizes) m.path m.root) → type_at S.defs.structs r.ty r.path ≡ Some u → TypeMeans S.defs env u l.type
  type_there m u l e = types_mean S.defs env r.path m.path r.ty u (sized_as r m.sizes) l.type (record { shape = refl; sizes = m.of_sizes }) m.of_path e l.nested

  -- an object may stand there
  pub object_there : (m : RegionMeans S.defs env r) (l : Located S.defs.structs (sized_as r m.sizes) m.path m.root) → compatible S.defs.structs l.type [] (Vptr l.block (l.offset + l.shift)) ≡ true
  object_there m l =
      parts_are_objects S.defs.structs (sized_as r m.sizes) l.type m.path l.block l.offset l.shift
      (ap (compatible S.defs.structs (sized_as r m.sizes) m.path) (sym l.points) ∙ l.fits) l.nested l.shifted

pub rerooted : PartsAreRerooted
rerooted S env r u value a h place nested made (m, d, means, (l, cells)) =
    let structs = S.defs.structs in
    let t = type_there S env r m u l nested in
    let region : RegionMeans S.defs env (whole_at r.share u a) = record {
      share = m.share;
      sizes = l.type.sizes;
      path = [];
      root = Vptr l.block (l.offset + l.shift);
      of_share = m.of_share;
      of_sizes = t.sizes;
      of_path = tt;
      of_root = place_means S.defs env r.ty r.path r.root a (sense S env r place m) m.root place.root m.of_root l made;
    } in
    let part : FieldPart structs m.share l.type [] d (Vptr l.block (l.offset + l.shift)) h = whole_part structs m.share l.type d l.block (l.offset + l.shift) h (object_there S env r m l) cells in
    (region, d, means, subst (λ s. FieldPart structs m.share (record { shape = s; sizes = l.type.sizes }) [] d (Vptr l.block (l.offset + l.shift)) h) t.shape part)

-- ---- default values

pub defaulted : PartsHaveDefaults
defaulted S env r u value w h place nested made (m, v, means, (l, cells)) =
    let structs = S.defs.structs in
    let k = types_have_sorts structs r.ty u r.path place.sort place.sizes place.path nested place.has in
    let o = opened structs m.share l.type v l.block (l.offset + l.shift) h cells in
    let value : Means S.defs env w (form_default o.form) = default_means S.defs env u l.type k.sort o.form w k.sizes (type_there S env r m u l nested) k.has o.of made in
    let d = default_value structs l.type.shape l.type.sizes in
    (m, d, subst (Means S.defs env w) (sym (default_is structs l.type o.form o.of)) value, (l, cells_have_defaults structs m.share l.type v l.block (l.offset + l.shift) h cells))

-- ---- valid addresses

some_cell : (less : ℕ) (k : Option Cell) → IsCell less true k → (c : Cell) × (k ≡ Some c)
some_cell less None w = absurd w
some_cell less (Some c) w = (c, refl)

-- the first byte of an object that has one
pub first_byte : {structs : Structs} {share : ℤ} {t : Sized} {b o : ℕ} {h : Heaplet} (x : IsExact structs share t b o h) → 1 ≤ x.count → Within h b o
first_byte {b = b} {o = o} {h = h} x low =
    let test : b == b && within o x.count o ≡ true = ap₂ (λ p q. p && q) (eq-eqb b b refl) (within_from o x.count o (omega arith) (omega (arith, low))) in
    let c = some_cell x.less (h b o) (subst (λ t. IsCell x.less t (h b o)) test (x.exact.at b o)) in
    record { cell = c.0; has = c.1 }

least : (c : ℕ) (n : ℤ) → Number (pos c) ≡ Number n → int_le (pos 1) n ≡ true → 1 ≤ c
least c n e f =
    let same : pos c ≡ n = cc in
    leb-true 1 c (ap (int_le (pos 1)) same ∙ f)

pub valid_address : PartsAreValid
valid_address S env r u value a bytes n h place nested made sized means some (m, v, of_value, (l, cells)) =
    let structs = S.defs.structs in
    let t = type_there S env r m u l nested in
    let k = types_have_sorts structs r.ty u r.path place.sort place.sizes place.path nested place.has in
    let x = cells_are_exact structs m.share l.type v l.block (l.offset + l.shift) h cells in
    let count : size_by structs u.shape l.type.sizes ≡ Some (pos x.count) = ap (λ s. size_by structs s l.type.sizes) (sym t.shape) ∙ x.size in
    let c : Means S.defs env bytes (Number (pos x.count)) = size_means S.defs env u.shape u.sizes l.type.sizes (pos x.count) bytes k.sizes.numbers t.sizes count sized in
    let low : 1 ≤ x.count = least x.count n (one_value S.defs c (Number n) means) some in
    (Vptr l.block (l.offset + l.shift), place_means S.defs env r.ty r.path r.root a (sense S env r place m) m.root place.root m.of_root l made, inr (first_byte x low))
