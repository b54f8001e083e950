-- Limits on types as the program makes them.
use Rattle.std.proofs.Common.{◌≡◌, ℕ, ◌+◌, ◌-◌, ◌<◌, ◌≤◌, max, nat_le, nat_lt, Bool, true, false, ◌&&◌, List, length, get_or, drop, option_map, refl, ap, sym, ◌∙◌, arith}
use Rattle.std.proofs.lemmas.Bool.{leb-true, le-leb}
use Rattle.std.proofs.lemmas.List.{drop_more}
use Rattle.std.proofs.Math.ListN.{drop_of_length-le}
use denote.Hole.Carrier.{hidden}
use Rattle.floyd_ctypes.specs.declared.ctype.CType.{CType, Void, Int, Pointer, Array, Struct, Function, Pointer', Array', Function', more_of-CType, end_of-CType, Row_of-CType, items-the_row-CType}
use Rattle.floyd_ctypes.specs.declared.ctype.CType.TheBlock.{shape-the_row-CType-0, hidden-the_row-CType-0, hidden-the_row-CType-1, items_hidden-the_row-CType-1}
use Rattle.floyd_ctypes.specs.Layout.{layout, within_limit, arrays_fit, type_fits, repeated}
use Rattle.floyd_ctypes.specs.Structs.{Structs}
use Rattle.floyd_elab_names.specs.ListClauses.{most_nesting, each_within}
use Rattle.floyd_elab_names.specs.Types.{nesting, nestings, arrays_within, all_arrays_within, is_passed, has_size}

-- Nesting.

nestings_are : {m : _} (row : Row_of-CType m) → nestings row ≡ most_nesting (items-the_row-CType m row)
nestings_are end_of-CType = refl
nestings_are (more_of-CType t ts) = ap (λ n. max (nesting t) n) (nestings_are ts)

pub nesting_of_pointer : (t : CType) → nesting (Pointer t) ≡ nesting t + 1
unfolding shape-the_row-CType-0 hidden-the_row-CType-0 hidden
nesting_of_pointer t = refl

pub nesting_of_array : (t : CType) (n : ℕ) → nesting (Array t n) ≡ nesting t + 1
unfolding shape-the_row-CType-0 hidden-the_row-CType-0 hidden
nesting_of_array t n = refl

pub nesting_of_function : (ps : List CType) (r : CType) → nesting (Function ps r) ≡ max (most_nesting ps) (nesting r) + 1
unfolding shape-the_row-CType-0 hidden-the_row-CType-0 hidden
nesting_of_function ps r =
    ap (λ n. max n (nesting r) + 1) (nestings_are (hidden-the_row-CType-1 ps) ∙ ap most_nesting (items_hidden-the_row-CType-1 ps))

same_test : (a b c d : ℕ) → (a ≤ b → c ≤ d) → (c ≤ d → a ≤ b) → nat_le a b ≡ nat_le c d
same_test a b c d there back = by (nat_le a b) (nat_le c d) refl refl
  where
    by : (x y : Bool) → nat_le a b ≡ x → nat_le c d ≡ y → x ≡ y
    by true true e f = refl
    by true false e f = sym (le-leb c d (there (leb-true a b e))) ∙ f
    by false true e f = sym e ∙ le-leb a b (back (leb-true c d f))
    by false false e f = refl

pub one_less : (n limit : ℕ) → 0 < limit → nat_le n (limit - 1) ≡ nat_le (n + 1) limit
one_less n limit some = same_test n (limit - 1) (n + 1) limit (λ h. omega arith) (λ h. omega arith)

pub none_left : (n limit : ℕ) → limit ≤ 0 → nat_lt 0 limit ≡ nat_le (n + 1) limit
none_left n limit none = same_test 1 limit (n + 1) limit (λ h. absurd (omega arith)) (λ h. absurd (omega arith))

pub both_within : (a b limit : ℕ) → nat_le (max a b) limit ≡ (nat_le a limit && nat_le b limit)
both_within a b limit = by (nat_le a limit) (nat_le b limit) (nat_le (max a b) limit) refl refl refl
  where
    by : (x y z : Bool) → nat_le a limit ≡ x → nat_le b limit ≡ y → nat_le (max a b) limit ≡ z → z ≡ (x && y)
    by true true true e f g = refl
    by true true false e f g = sym g ∙ le-leb (max a b) limit (omega (arith, leb-true a limit e, leb-true b limit f))
    by true false z e f g = not_within b f z g (λ h. omega arith)
      where
        not_within : (k : ℕ) → nat_le k limit ≡ false → (z : Bool) → nat_le (max a b) limit ≡ z → (max a b ≤ limit → k ≤ limit) → z ≡ false
        not_within k e true g h = sym (le-leb k limit (h (leb-true (max a b) limit g))) ∙ e
        not_within k e false g h = refl
    by false y true e f g = sym (le-leb a limit (let h = leb-true (max a b) limit g in omega arith)) ∙ e
    by false y false e f g = refl

pub next_nested : (types : List CType) (i limit : ℕ) (d : CType) → i < length types →
    nat_le (most_nesting (drop i types)) limit ≡ (nat_le (nesting (get_or types i d)) limit && nat_le (most_nesting (drop (i + 1) types)) limit)
next_nested types i limit d h =
    ap (λ (ts : List CType). nat_le (most_nesting ts) limit) (drop_more types i d h) ∙ both_within (nesting (get_or types i d)) (most_nesting (drop (i + 1) types)) limit

pub none_nested : (types : List CType) (i limit : ℕ) → length types ≤ i → nat_le (most_nesting (drop i types)) limit ≡ true
none_nested types i limit h = ap (λ (ts : List CType). nat_le (most_nesting ts) limit) (drop_of_length-le types h) ∙ le-leb 0 limit (omega arith)

-- Arrays.

module _ (structs : Structs) where
  arrays_are : {m : _} (row : Row_of-CType m) → all_arrays_within structs row ≡ each_within structs (items-the_row-CType m row)
  arrays_are end_of-CType = refl
  arrays_are (more_of-CType t ts) = ap (λ b. arrays_within structs t && b) (arrays_are ts)

  pub within_of_pointer : (t : CType) → arrays_within structs (Pointer t) ≡ arrays_within structs t
  unfolding shape-the_row-CType-0 hidden-the_row-CType-0 hidden
  within_of_pointer t = refl

  pub within_of_function : (ps : List CType) (r : CType) → arrays_within structs (Function ps r) ≡ (each_within structs ps && arrays_within structs r)
  unfolding shape-the_row-CType-0 hidden-the_row-CType-0 hidden
  within_of_function ps r =
      ap (λ b. b && arrays_within structs r) (arrays_are (hidden-the_row-CType-1 ps) ∙ ap (each_within structs) (items_hidden-the_row-CType-1 ps))

  both : (a b : Bool) → (a && b) ≡ true → (a ≡ true) × (b ≡ true)
  both true true e = (refl, refl)
  both true false e = cc
  both false b e = cc

  -- where no array is too large behind pointers, none is in the type itself
  pub fit_where_within : (t : CType) → arrays_within structs t ≡ true → arrays_fit structs t ≡ true
  fit_where_within Void e = refl
  fit_where_within (Int k) e = refl
  fit_where_within (Pointer' p to) e = refl
  fit_where_within (Array' p (more_of-CType t end_of-CType) n) e =
      let parts = both (arrays_within structs t) (within_limit (option_map (repeated n) (layout structs t))) e in
      ap (λ b. b && within_limit (option_map (repeated n) (layout structs t))) (fit_where_within t parts.0) ∙ parts.1
  fit_where_within (Struct tag) e = refl
  fit_where_within (Function' shape ps p r) e = refl

  pub fits_where_within : (t : CType) → arrays_within structs t ≡ true → type_fits structs t ≡ within_limit (layout structs t)
  fits_where_within t e = ap (λ b. b && within_limit (layout structs t)) (fit_where_within t e)

  pub within_of_array : (t : CType) (n : ℕ) → (arrays_within structs t && type_fits structs (Array t n)) ≡ arrays_within structs (Array t n)
  unfolding shape-the_row-CType-0 hidden-the_row-CType-0 hidden
  within_of_array t n = by (arrays_within structs t) refl
    where
      again : (w : Bool) → (w && w) ≡ w
      again true = refl
      again false = refl

      by : (b : Bool) → arrays_within structs t ≡ b → (b && (arrays_fit structs t && within_limit (option_map (repeated n) (layout structs t)) && within_limit (option_map (repeated n) (layout structs t))))
          ≡ (b && within_limit (option_map (repeated n) (layout structs t)))
      by true e =
          ap (λ f. f && within_limit (option_map (repeated n) (layout structs t)) && within_limit (option_map (repeated n) (layout structs t))) (fit_where_within t e)
          ∙ again (within_limit (option_map (repeated n) (layout structs t)))
      by false e = refl

  pub next_within : (types : List CType) (i : ℕ) (d : CType) → i < length types →
      each_within structs (drop i types) ≡ (arrays_within structs (get_or types i d) && each_within structs (drop (i + 1) types))
  next_within types i d h = ap (each_within structs) (drop_more types i d h)

  pub none_within : (types : List CType) (i : ℕ) → length types ≤ i → each_within structs (drop i types) ≡ true
  none_within types i h = ap (each_within structs) (drop_of_length-le types h)

  pub passed_array : (t : CType) (n : ℕ) → is_passed structs (Array t n) ≡ has_size structs t
  unfolding shape-the_row-CType-0 hidden-the_row-CType-0 hidden
  passed_array t n = refl
