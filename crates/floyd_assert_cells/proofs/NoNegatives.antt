-- No array of a type of C has a negative size.
use Rattle.std.proofs.Common.{◌≡◌, true, ℤ, pos, negsuc, List, [], ◌∷◌, ◌++◌, refl}
use Rattle.floyd_ctypes.specs.declared.ctype.CType.{CType, Row_of-CType, more_of-CType, end_of-CType}
use Rattle.floyd_ctypes.specs.declared.ctype.CType as c
use Rattle.floyd_assert_cells.specs.Types.{all_sizes_of, none_negative, sizes_of}

none_in_both : (xs ys : List ℤ) → none_negative xs ≡ true → none_negative ys ≡ true → none_negative (xs ++ ys) ≡ true
none_in_both [] ys h k = k
none_in_both (pos n ∷ xs) ys h k = none_in_both xs ys h k
none_in_both (negsuc n ∷ xs) ys h k = absurd cc

mutual
  pub c_sizes : (t : CType) → none_negative (sizes_of t) ≡ true
  c_sizes c.Void = refl
  c_sizes (c.Int kind) = refl
  c_sizes (c.Pointer' p (more_of-CType t end_of-CType)) = c_sizes t
  c_sizes (c.Array' p (more_of-CType t end_of-CType) n) = c_sizes t
  c_sizes (c.Struct tag) = refl
  c_sizes (c.Function' shape ps p (more_of-CType r end_of-CType)) = none_in_both (all_sizes_of ps) (sizes_of r) (row_sizes ps) (c_sizes r)

  row_sizes : {n : _} (ts : Row_of-CType n) → none_negative (all_sizes_of ts) ≡ true
  row_sizes end_of-CType = refl
  row_sizes (more_of-CType t rest) = none_in_both (sizes_of t) (all_sizes_of rest) (c_sizes t) (row_sizes rest)
