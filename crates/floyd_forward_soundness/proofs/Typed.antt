-- What a formula says that a value has a scalar type.
use Rattle.std.proofs.Common.{◌≡◌, true, List, [], ◌∷◌, ◌++◌, map, subst}
use Rattle.std.specs.Prelude.{ℤ}
use Rattle.floyd_int.specs.declared.kinds.Value.{Value}
use Rattle.floyd_ctypes.specs.declared.ctype.CType.{CType, Void, Int, Pointer', Array', Struct, Function', more_of-CType, end_of-CType}
use Rattle.floyd_ctypes.specs.Has.{has}
use Rattle.floyd_tree_sorts.specs.Rows.{is_scalar}
use Rattle.floyd_tree.specs.Plain.{Plain, Plains, More, plains}
use Rattle.floyd_tree_values.specs.BuiltIns.{Env}
use Rattle.floyd_tree_values.specs.Data.{Datum, Number, Val}
use Rattle.floyd_tree_values.specs.Means.{AllMean, Means, more, none}
use Rattle.floyd_tree_values.proofs.OneValue.{no_data, one_value}
use Rattle.floyd_truth.specs.Truth.{Truth, numbers_then}
use Rattle.floyd_truth.specs.Types.{has_shape}
use Rattle.floyd_assert_cells.specs.Types.{shape_of, sizes_of}
use Rattle.floyd_assert_meaning.specs.Settings.{Setting}
use Rattle.floyd_fieldpath.specs.Nested.{literal, sized_type}
use Rattle.floyd_fieldpath_laws.proofs.Meanings.{literal_means}
use Rattle.floyd_symexpr_rows.specs.Formulas.{of_type}

has_by : (t : CType) (y : Value) → has_shape (shape_of t) y ≡ true → has t y ≡ true
has_by Void y e = absurd cc
has_by (Int k) y e = e
has_by (Pointer' p (more_of-CType to end_of-CType)) y e = e
has_by (Array' p (more_of-CType to end_of-CType) n) y e = absurd cc
has_by (Struct tag) y e = absurd cc
has_by (Function' shape ps p (more_of-CType result end_of-CType)) y e = absurd cc

has_shape_by : (t : CType) (y : Value) → is_scalar (shape_of t) ≡ true → has t y ≡ true → has_shape (shape_of t) y ≡ true
has_shape_by Void y s e = absurd cc
has_shape_by (Int k) y s e = e
has_shape_by (Pointer' p (more_of-CType to end_of-CType)) y s e = e
has_shape_by (Array' p (more_of-CType to end_of-CType) n) y s e = absurd cc
has_shape_by (Struct tag) y s e = absurd cc
has_shape_by (Function' shape ps p (more_of-CType result end_of-CType)) y s e = absurd cc

never_empty : (ns : List ℤ) (y : Value) → map Number ns ++ Val y ∷ [] ≡ [] → ⊥
never_empty [] y e = cc
never_empty (n ∷ ns) y e = cc

module _ (S : Setting) (env : Env) where
  head_of : {u : Plain} {us : Plains} {d : Datum} {ds : List Datum} → AllMean S.defs env (More u us) (d ∷ ds) → Means S.defs env u d × AllMean S.defs env us ds
  head_of (more m k) = (m, k)

  none_given : {u : Plain} {us : Plains} → AllMean S.defs env (More u us) [] → ⊥
  none_given k = elim k [ ]

  some_left : (us : List Plain) (t : Plain) → AllMean S.defs env (plains (us ++ t ∷ [])) [] → ⊥
  some_left [] t k = none_given k
  some_left (u ∷ us) t k = none_given k

  last_value : (ts : List Plain) (ns : List ℤ) (t : Plain) (y : Value) → AllMean S.defs env (plains (ts ++ t ∷ [])) (numbers_then ns (Val y)) → Means S.defs env t (Val y)
  last_value [] [] t y k = (head_of k).0
  last_value [] (n ∷ ns) t y k = absurd (never_empty ns y (no_data (head_of k).1))
  last_value (u ∷ us) [] t y k = absurd (some_left us t (head_of k).1)
  last_value (u ∷ us) (n ∷ ns) t y k = last_value us ns t y (head_of k).1

  -- the value of a term that is said to have a type has it
  pub has_type : (t : CType) (u : Plain) (y : Value) → Truth S.defs S.has_spec env (of_type (sized_type t) u) → Means S.defs env u (Val y) → has t y ≡ true
  has_type t u y (ns, z, k, holds) m =
      let d : Val z ≡ Val y = one_value S.defs (last_value (sized_type t).sizes ns u z k) (Val y) m in
      let same : z ≡ y = cc in
      subst (λ w. has t w ≡ true) same (has_by t z holds)

  behind_sizes : (zs : List ℤ) (u : Plain) (y : Value) → Means S.defs env u (Val y) → AllMean S.defs env (plains (map literal zs ++ u ∷ [])) (numbers_then zs (Val y))
  behind_sizes [] u y m = more m none
  behind_sizes (z ∷ zs) u y m = more (literal_means S.defs env z) (behind_sizes zs u y m)

  -- and a value that has a scalar type may be said to have it
  pub type_true : (t : CType) (u : Plain) (y : Value) → is_scalar (shape_of t) ≡ true → has t y ≡ true → Means S.defs env u (Val y) → Truth S.defs S.has_spec env (of_type (sized_type t) u)
  type_true t u y scalar good m = (sizes_of t, y, behind_sizes (sizes_of t) u y m, has_shape_by t y scalar good)
