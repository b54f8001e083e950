-- The block of a new local variable holds the part that a start goal has for it.
use Rattle.std.proofs.Common.{◌≡◌, ℕ, zero, suc, ◌+◌, ◌<◌, ◌≤◌, ◌%◌, ◌^◌, ◌==◌, ◌&&◌, Bool, true, false, ℤ, pos, List, [], ◌∷◌, map, length, replicate, Option, None, Some, refl, sym, ◌∙◌, ap, subst, arith, cond, eq-eqb, leb-true, lt-ltb}
use Rattle.std.specs.Prelude.{nat_eq, nat_le, int_lt, is_some, option_map, option_and_then, unwrap_or, ◌+ℤ◌}
use Rattle.std.specs.Option.{option_map_or}
use Rattle.std.proofs.Math.Nat.{div-add-mod'}
use Rattle.std.proofs.lemmas.Bool.{and_parts, and_from}
use Rattle.std.proofs.lemmas.List.{length-map, length-replicate}
use Rattle.floyd_int.specs.declared.kinds.Value.TheVariants.{Vptr}
use Rattle.floyd_int.specs.declared.kinds.Value.TheVariants as v
use Rattle.floyd_memval.specs.declared.bytes.MemByte.TheVariants.{Undef}
use Rattle.floyd_ctypes.specs.declared.ctype.CType.{CType, more_of-CType, end_of-CType}
use Rattle.floyd_ctypes.specs.declared.ctype.CType as c
use Rattle.floyd_ctypes.specs.declared.layout.Layout.{Layout}
use Rattle.floyd_ctypes.specs.Layout as l
use Rattle.floyd_ctypes.specs.Structs.{Structs}
use Rattle.floyd_clight.specs.declared.unit.Local.{Local}
use Rattle.floyd_clight_machine.specs.Machine.{LocalBlock}
use Rattle.floyd_clight_runs.specs.Calls.{fresh_cells}
use Rattle.floyd_clight_typing.specs.Bodies.{IsObject}
use Rattle.floyd_tree_sorts.specs.declared.heads.Head.TheVariants.{Default, Literal, Lv, Operator}
use Rattle.floyd_tree_sorts.specs.declared.operators.Operator.TheVariants.{Vundef}
use Rattle.floyd_tree_sorts.specs.declared.shape.Shape.{Shape, Void, Int, Pointer', Array', Struct, Function'}
use Rattle.floyd_tree_sorts.specs.declared.sorts.Sort.{Sort, Z, Val as ValSort}
use Rattle.floyd_tree_sorts.specs.Table.{all_z, arrays, sort_at, when}
use Rattle.floyd_tree.specs.Plain.{At, Done, plains}
use Rattle.floyd_tree.specs.WellSorted.{sort_of, sorts_of, with_first}
use Rattle.floyd_tree_values.specs.BuiltIns.{Env}
use Rattle.floyd_tree_values.specs.Data.{Number, Val, number_in}
use Rattle.floyd_tree_values.specs.Defaults.{default_value, value_sort}
use Rattle.floyd_tree_values.specs.Means.{AllMean, Defs, Means, built_in, more, none}
use Rattle.floyd_assert_cells.specs.Cells.{HasExactly, Located, within}
use Rattle.floyd_assert_cells.proofs.NoNegatives.{c_sizes}
use Rattle.floyd_assert_cells.specs.Types.{align, compatible, has_room, is_aligned_for, is_legal, none_negative, shape_of, size, sized, sizes_of}
use Rattle.floyd_assert_cells.proofs.Exact.{spread_exact}
use Rattle.floyd_assert_cells.proofs.FormLaws.{mapped}
use Rattle.floyd_assert_cells.proofs.ObjectLaws.{layouts_agree}
use Rattle.floyd_assert_meaning.specs.Parts.{PartHolds, RegionMeans, object}
use Rattle.floyd_assert_meaning.specs.Settings.{Setting}
use Rattle.floyd_fieldpath.specs.DefaultTerms.{default_term}
use Rattle.floyd_fieldpath.specs.Nested.{literal, sized_type}
use Rattle.floyd_fieldpath.proofs.TypeLemmas.{literals_count}
use Rattle.floyd_goal_forms.specs.Starts.{block_part, default_of}
use Rattle.floyd_start_laws.proofs.NewObjects.{new_object}

-- ---- literals

literal_means : (defs : Defs) (env : Env) (z : ℤ) → Means defs env (literal z) (Number z)
literal_means defs env z = built_in {head = Literal z} {s = Z} {ds = []} refl refl none

literals_mean : (defs : Defs) (env : Env) (zs : List ℤ) → AllMean defs env (plains (map literal zs)) (map Number zs)
literals_mean defs env [] = none
literals_mean defs env (z ∷ zs) = more (literal_means defs env z) (literals_mean defs env zs)

numbers_back : (zs : List ℤ) → map number_in (map Number zs) ≡ zs
numbers_back [] = refl
numbers_back (z ∷ zs) = ap (λ ys. z ∷ ys) (numbers_back zs)

literal_sorts : (zs : List ℤ) → sorts_of (plains (map literal zs)) ≡ Some (replicate (length zs) Z)
literal_sorts [] = refl
literal_sorts (z ∷ zs) = ap (with_first (Some Z)) (literal_sorts zs)

all_numbers : (n : ℕ) → all_z (replicate n Z) ≡ true
all_numbers zero = refl
all_numbers (suc n) = all_numbers n

-- ---- the default value of a type of C

module _ (defs : Defs) (env : Env) where
  default_sorted : (shape : Shape) (s : Sort) (zs : List ℤ) → length zs ≡ arrays shape → sort_of (At (Default shape s) (plains (map literal zs))) ≡ Some s
  default_sorted shape s zs e =
      let count : length (replicate (length zs) Z) ≡ arrays shape = length-replicate (length zs) Z ∙ e in
      sorted (sorts_of (plains (map literal zs))) (replicate (length zs) Z) (literal_sorts zs) (nat_same (length (replicate (length zs) Z)) (arrays shape) count) (all_numbers (length zs))
    where
      nat_same : (m n : ℕ) → m ≡ n → nat_eq m n ≡ true
      nat_same m n e = eq-eqb m n e

      sorted : (o : Option (List Sort)) (sorts : List Sort) → o ≡ Some sorts → nat_eq (length sorts) (arrays shape) ≡ true → all_z sorts ≡ true → option_and_then (sort_at (Default shape s)) o ≡ Some s
      sorted o sorts e f g = ap (option_and_then (sort_at (Default shape s))) e ∙ ap (λ t. when t s) (and_from (nat_eq (length sorts) (arrays shape)) (all_z sorts) f g)

  whole_default : (shape : Shape) (s : Sort) (zs : List ℤ) → length zs ≡ arrays shape → Means defs env (At (Default shape s) (plains (map literal zs))) (default_value defs.structs shape zs)
  whole_default shape s zs e =
      subst (λ ns. Means defs env (At (Default shape s) (plains (map literal zs))) (default_value defs.structs shape ns)) (numbers_back zs)
      (built_in {head = Default shape s} {s = s} {ds = map Number zs} refl (default_sorted shape s zs e) (literals_mean defs env zs))

  undefined_means : Means defs env (At (Operator Vundef) Done) (Val v.Vundef)
  undefined_means = built_in {head = Operator Vundef} {s = ValSort} {ds = []} refl refl none

  default_by : (shape : Shape) (s : Sort) (zs : List ℤ) → length zs ≡ arrays shape → Means defs env (default_term (record { shape = shape; sizes = map literal zs }) s) (default_value defs.structs shape zs)
  default_by Void s zs e = whole_default Void s zs e
  default_by (Int k) s zs e = undefined_means
  default_by (Pointer' p t) s zs e = undefined_means
  default_by (Array' p t) s zs e = whole_default (Array' p t) s zs e
  default_by (Struct tag) s zs e = whole_default (Struct tag) s zs e
  default_by (Function' shape ps p r) s zs e = whole_default (Function' shape ps p r) s zs e

  pub default_means : (t : CType) → Means defs env (default_of defs.structs t) (default_value defs.structs (shape_of t) (sizes_of t))
  default_means t =
      default_by (shape_of t) (unwrap_or (value_sort defs.structs (shape_of t)) ValSort) (sizes_of t)
      (sym (length-map (sizes_of t) literal) ∙ literals_count t)

-- ---- where it lies

nothing_left : (a : ℕ) → (0 % a == 0) ≡ true
nothing_left a =
    let e = div-add-mod' 0 a in
    eq-eqb (0 % a) 0 (omega (arith, e))

-- an object of the type may stand at the start of a block
record Placed (structs : Structs) (t : CType) (n : ℕ) : Type 0 where
  pub size : size structs (sized t) ≡ Some (pos n)
  pub fits : (block : ℕ) → compatible structs (sized t) [] (Vptr block 0) ≡ true

four : (p q r s : Bool) → p ≡ true → q ≡ true → r ≡ true → s ≡ true → (p && q && r && s) ≡ true
four true true true true e f g h = refl
four false q r s e f g h = e
four true false r s e f g h = f
four true true false s e f g h = g
four true true true false e f g h = h

room : (n : ℕ) → nat_le n l.max_object ≡ true → int_lt (pos 0 +ℤ pos n) (pos (2 ^ 64)) ≡ true
room n e =
    let le : n ≤ l.max_object = leb-true n l.max_object e in
    below n (omega (arith, le))
  where
    below : (n : ℕ) → n < 2 ^ 64 → int_lt (pos 0 +ℤ pos n) (pos (2 ^ 64)) ≡ true
    below n k = lt-ltb (0 + n) (2 ^ 64) (omega (arith, k))

placed : (structs : Structs) (t : CType) (n : ℕ) → l.size structs t ≡ Some n → IsObject structs t → Placed structs t n
placed structs t n e k =
    let lay = mapped (λ (a : Layout). a.size) (l.layout structs t) n e in
    let agree = layouts_agree structs t in
    let is_size : size structs (sized t) ≡ Some (pos n) = agree.0 ∙ ap (option_map pos) e in
    let is_align : align structs (sized t) ≡ Some lay.0.align = agree.1 ∙ ap (option_map (λ (a : Layout). a.align)) lay.1 in
    let limit : nat_le n l.max_object ≡ true = subst (λ m. nat_le m l.max_object ≡ true) lay.2
    (sym (ap l.within_limit lay.1) ∙ (and_parts (l.arrays_fit structs t) (l.within_limit (l.layout structs t)) k.1).1) in
    record {
      size = is_size;
      fits = λ block. four (is_aligned_for structs (sized t) 0) (has_room structs (sized t) 0) (none_negative (sizes_of t)) (is_legal structs (sized t) [])
          (ap (λ o. option_map_or (λ a. 0 % a == 0) o false) is_align ∙ nothing_left lay.0.align)
          (ap (λ o. option_map_or (λ m. int_lt (pos 0 +ℤ m) (pos (2 ^ 64))) o false) is_size ∙ room n limit)
          (c_sizes t)
          (ap is_some is_size);
    }

chosen : {A : Type 0} (t : Bool) (a b : A) → t ≡ true → cond t a b ≡ a
chosen true a b e = refl
chosen false a b e = absurd cc

-- the block of a local variable, where the environment has it
pub block_holds : (S : Setting) (env : Env) (b : Local) (block : LocalBlock) → block.name ≡ b.name → l.size S.defs.structs b.ctype ≡ Some block.size → IsObject S.defs.structs b.ctype → block.block ≡ env.local block.name → PartHolds S env (block_part S.defs.structs b) (fresh_cells block)
block_holds S env b block name size' sized' place =
    let structs = S.defs.structs in
    let t = sized b.ctype in
    let p = placed structs b.ctype block.size size' sized' in
    let at : env.local b.name ≡ block.block = ap env.local (sym name) ∙ sym place in
    let region : RegionMeans S.defs env (record { share = literal (pos 16); ty = sized_type b.ctype; path = []; root = At (Lv b.name) Done }) = record {
      share = pos 16;
      sizes = sizes_of b.ctype;
      path = [];
      root = Vptr block.block 0;
      of_share = literal_means S.defs env (pos 16);
      of_sizes = literals_mean S.defs env (sizes_of b.ctype);
      of_path = tt;
      of_root = subst (λ n. Means S.defs env (At (Lv b.name) Done) (Val (Vptr n 0))) at (built_in {head = Lv b.name} {s = ValSort} {ds = []} refl refl none);
    } in
    let located : Located structs t [] (Vptr block.block 0) = record {
      block = block.block;
      offset = 0;
      points = refl;
      fits = p.fits block.block;
      type = t;
      nested = chosen (is_some (size structs t)) (Some t) None (ap is_some p.size);
      shift = 0;
      shifted = chosen (is_some (size structs t)) (Some (pos 0)) None (ap is_some p.size);
    } in
    let cells = new_object structs t block.size block.block (fresh_cells block) p.size (c_sizes b.ctype)
    (subst (λ n. HasExactly 15 block.block (within 0 n) (fresh_cells block)) (length-replicate block.size Undef) (spread_exact 15 block.block (replicate block.size Undef) 0)) in
    object (region, default_value structs (shape_of b.ctype) (sizes_of b.ctype), default_means S.defs env b.ctype, (located, cells))
