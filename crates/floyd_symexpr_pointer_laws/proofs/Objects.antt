-- An object at the root of a part: its bytes are valid, and it ends below 2 ^ 64.
use Rattle.std.proofs.Common.{◌≡◌, ℕ, ◌+◌, ◌^◌, ◌<◌, Bool, true, false, ◌&&◌, ℤ, pos, ◌+ℤ◌, List, [], ◌∷◌, length, map, Option, Some, None, refl, sym, ap, ap₂, subst, ◌∙◌, if◌then◌else◌, arith}
use Rattle.std.specs.Prelude.{◌==◌, int_lt, is_some}
use Rattle.std.specs.Option.{option_map_or, option_or}
use Rattle.std.proofs.lemmas.Int.{ints}
use Rattle.std.proofs.lemmas.Bool.{eq-eqb, eqb-true}
use Rattle.floyd_int.specs.declared.kinds.Value.TheVariants.{Vptr}
use Rattle.floyd_ctypes.specs.Structs.{Structs}
use Rattle.floyd_clight_machine.specs.Looking.{Look}
use Rattle.floyd_clight_heap.specs.Heaplet.{Cell, Heaplet, Joins, JoinsAt, both}
use Rattle.floyd_tree.specs.declared.paths.PathStep.{PathStep}
use Rattle.floyd_tree.specs.Plain.{Plain, plains}
use Rattle.floyd_tree.specs.Types.{SizedType}
use Rattle.floyd_tree_values.specs.BuiltIns.{Env}
use Rattle.floyd_tree_values.specs.Data.{Number, Val}
use Rattle.floyd_tree_values.specs.Means.{Defs, Means, AllMean, more}
use Rattle.floyd_assert_cells.specs.Cells.{Cells, IsCell, within}
use Rattle.floyd_assert_cells.specs.Laws.{IsExact}
use Rattle.floyd_assert_cells.specs.Types.{Sized, Step, compatible, has_room, is_aligned_for, is_legal, none_negative, offset_at, size, type_at}
use Rattle.floyd_assert_cells.proofs.Exact.{within_from}
use Rattle.floyd_assert_cells.proofs.ObjectLaws.{cells_are_exact}
use Rattle.floyd_assert_trees.specs.declared.sep.Region.{Region}
use Rattle.floyd_assert_trees.specs.declared.sep.Sep.{Sep}
use Rattle.floyd_assert_trees.specs.declared.sep.Sep.TheVariants as sep
use Rattle.floyd_assert_meaning.specs.Parts.{ObjectHolds, PartHolds, PartsHold, PathMeans, object, sized_as}
use Rattle.floyd_assert_meaning.specs.Parts as parts
use Rattle.floyd_assert_meaning.specs.Settings.{Setting}
use Rattle.floyd_tree_sorts.proofs.SortLemmas.{both_true}
use Rattle.floyd_arith.specs.Same.{same_term}
use Rattle.floyd_arith.proofs.SameLemmas.{same_term_true}
use Rattle.floyd_symexpr_pointers.specs.PointerRows.{object_type, type_in}
use Rattle.floyd_symexpr_pointer_laws.specs.Laws.{Sees}

-- an object of so many bytes, all of which are valid
pub record IsSeen (S : Setting) (env : Env) (look : Look) (t : SizedType) (root : Plain) : Type 0 where
  pub block : ℕ
  pub offset : ℕ
  pub count : ℕ
  pub sizes : List ℤ
  pub points : Means S.defs env root (Val (Vptr block offset))
  pub numbers : AllMean S.defs env (plains t.sizes) (map Number sizes)
  pub size : size S.defs.structs (record { shape = t.shape; sizes = sizes }) ≡ Some (pos count)
  pub room : offset + count < 2 ^ 64
  pub valid : (i : ℕ) → i < count → look.is_valid block (offset + i) ≡ true

-- what a part of a heaplet has, the heaplet has
whole_has : (g k h : Option Cell) (c : Cell) → JoinsAt g k h → g ≡ Some c → (d : Cell) × (h ≡ Some d)
whole_has None k h c j e = absurd cc
whole_has (Some x) None h c j e = (x, j)
whole_has (Some x) (Some y) h c j e = (both x y, j.2)

second_has : (g k h : Option Cell) (c : Cell) → JoinsAt g k h → k ≡ Some c → (d : Cell) × (h ≡ Some d)
second_has None k h c j e = (c, j ∙ e)
second_has (Some x) None h c j e = absurd cc
second_has (Some x) (Some y) h c j e = (both x y, j.2)

sees_first : {g k h : Heaplet} (look : Look) → Joins g k h → Sees look h → Sees look g
sees_first {g} {k} {h} look j s = record { valid = λ b o c e. let d = whole_has (g b o) (k b o) (h b o) c (j.at b o) e in s.valid b o d.0 d.1 }

sees_second : {g k h : Heaplet} (look : Look) → Joins g k h → Sees look h → Sees look k
sees_second {g} {k} {h} look j s = record { valid = λ b o c e. let d = second_has (g b o) (k b o) (h b o) c (j.at b o) e in s.valid b o d.0 d.1 }

empty_path : (defs : Defs) (env : Env) (path : List PathStep) (steps : List Step) → length path == 0 ≡ true → PathMeans defs env path steps → steps ≡ []
empty_path defs env [] [] e m = refl
empty_path defs env [] (step ∷ steps) e m = absurd m
empty_path defs env (p ∷ path) steps e m = let same : length (p ∷ path) ≡ 0 = eqb-true (length (p ∷ path)) 0 e in absurd (omega (arith, same))

where_some : {A : Type 0} (t : Bool) (x y : A) → (if t then Some x else None) ≡ Some y → (t ≡ true) × (x ≡ y)
where_some true x y e = (refl, cc)
where_some false x y e = absurd cc

some_cell : (less : ℕ) (k : Option Cell) → IsCell less true k → (c : Cell) × (k ≡ Some c)
some_cell less None w = absurd w
some_cell less (Some c) w = (c, refl)

-- the room that a whole object has
room_in : (structs : Structs) (t : Sized) (count offset : ℕ) → size structs t ≡ Some (pos count) → has_room structs t offset ≡ true → offset + count < 2 ^ 64
room_in structs t count offset e h = below (ap (λ o. option_map_or (λ n. int_lt (pos offset +ℤ n) (pos (2 ^ 64))) o false) (sym e) ∙ h)
  where
    below : int_lt (pos offset +ℤ pos count) (pos (2 ^ 64)) ≡ true → offset + count < 2 ^ 64
    below f = omega (arith, ints, f)

module _ (S : Setting) (env : Env) (look : Look) where
  -- a whole object is at its root
  at_root : (region : Region) (root value : Plain) (h : Heaplet) → length region.path == 0 ≡ true → root ≡ region.root → Sees look h → ObjectHolds S env region value h → IsSeen S env look region.ty root
  at_root region root value h empty same s (m, v, means, (l, cells)) =
      let structs = S.defs.structs in
      let whole = sized_as region m.sizes in
      let none_left : m.path ≡ [] = empty_path S.defs env region.path m.path empty m.of_path in
      let nested : type_at structs whole [] ≡ Some l.type = ap (type_at structs whole) (sym none_left) ∙ l.nested in
      let shifted : offset_at structs whole [] ≡ Some (pos l.shift) = ap (offset_at structs whole) (sym none_left) ∙ l.shifted in
      let t = where_some (is_some (size structs whole)) whole l.type nested in
      let o = where_some (is_some (size structs whole)) (pos 0) (pos l.shift) shifted in
      let here : l.offset + l.shift ≡ l.offset = no_shift l.offset l.shift o.1 in
      let x = cells_are_exact structs m.share whole v l.block l.offset h (subst (λ n. Cells structs m.share whole v l.block n h) here (subst (λ u. Cells structs m.share u v l.block (l.offset + l.shift) h) (sym t.1) cells)) in
      let fits : compatible structs whole [] (Vptr l.block l.offset) ≡ true = ap (λ p. compatible structs whole p (Vptr l.block l.offset)) (sym none_left) ∙ ap (compatible structs whole m.path) (sym l.points) ∙ l.fits in
      let parts1 = both_true (is_aligned_for structs whole l.offset && has_room structs whole l.offset && none_negative whole.sizes) (is_legal structs whole []) fits in
      let parts2 = both_true (is_aligned_for structs whole l.offset && has_room structs whole l.offset) (none_negative whole.sizes) parts1.0 in
      let parts3 = both_true (is_aligned_for structs whole l.offset) (has_room structs whole l.offset) parts2.0 in
      record {
        block = l.block;
        offset = l.offset;
        count = x.count;
        sizes = m.sizes;
        points = subst (λ u. Means S.defs env u (Val (Vptr l.block l.offset))) (sym same) (subst (λ u. Means S.defs env region.root (Val u)) l.points m.of_root);
        numbers = m.of_sizes;
        size = x.size;
        room = room_in structs whole x.count l.offset x.size parts3.1;
        valid = λ i low. byte_at x i low;
      }
    where
      no_shift : (a b : ℕ) → pos 0 ≡ pos b → a + b ≡ a
      no_shift a b e = omega (arith, ints, e)

      byte_at : {share : ℤ} {t : Sized} {b o : ℕ} (x : IsExact S.defs.structs share t b o h) (i : ℕ) → i < x.count → look.is_valid b (o + i) ≡ true
      byte_at {b = b} {o = o} x i low =
          let test : b == b && within o x.count (o + i) ≡ true = ap₂ (λ p q. p && q) (eq-eqb b b refl) (within_from o x.count (o + i) (omega arith) (omega arith)) in
          let c = some_cell x.less (h b (o + i)) (subst (λ t. IsCell x.less t (h b (o + i))) test (x.exact.at b (o + i))) in
          s.valid b (o + i) c.0 c.1

  type_found : (root : Plain) (part : Sep) (t : SizedType) (h : Heaplet) → object_type root part ≡ Some t → Sees look h → PartHolds S env part h → IsSeen S env look t root
  type_found root (sep.FieldAt region value) t h e s (object holds) =
      let p = where_some (length region.path == 0 && same_term root region.root) region.ty t e in
      let q = both_true (length region.path == 0) (same_term root region.root) p.0 in
      subst (λ u. IsSeen S env look u root) p.1 (at_root region root value h q.0 (same_term_true root region.root q.1) s holds)
  type_found root part t h e s holds = absurd cc

  pub object_seen : (all : List Sep) (root : Plain) (t : SizedType) (h : Heaplet) → type_in all root ≡ Some t → Sees look h → PartsHold S env all h → IsSeen S env look t root
  object_seen [] root t h e s holds = absurd cc
  object_seen (part ∷ all) root t h e s (parts.more {g = g} {k = k} j first rest) =
      by (object_type root part) refl e (λ i. object_seen all root t k i (sees_second look j s) rest)
    where
      by : (o : Option SizedType) → object_type root part ≡ o → option_or o (type_in all root) ≡ Some t → (type_in all root ≡ Some t → IsSeen S env look t root) → IsSeen S env look t root
      by (Some u) f i later = type_found root part t g (f ∙ i) (sees_first look j s) first
      by None f i later = later i
