-- The operators, one row each: its number, the sorts that it takes and the one that it gives. `S` and `T` stand for any sort.
use Rattle.std.specs.Prelude.{ℕ}
use Rattle.floyd_tree_sorts.specs.declared.operators.Operator.{Operator}
use Rattle.floyd_tree_sorts.specs.declared.operators.Operator.TheVariants.{Vundef, Vint, Vlong, Nullval, PtrAdd, Vints, Vlongs, Fst, Snd, Len, Nth, Upd, Rev, Sum, Sublist, Repeat, Node, Quot, Rem, Band, Bor, Bxor, Bnot, Shl, Shr, Eqz, Ltz, Lez, Eqv, Add, Sub, Mul, Cons, Append, Pair}
use Rattle.floyd_tree_sorts.specs.declared.operators.RowSort.{RowSort}
use Rattle.floyd_tree_sorts.specs.declared.operators.RowSort.TheVariants.{Z, Val, S, T, ListZ, ListVal, ListS, TreeS, ProdST}
use Rattle.floyd_tree_sorts.specs.declared.operators.Arguments.TheVariants.{Nothing, One, Two, Three}
use Rattle.floyd_tree_sorts.specs.declared.operators.Row.{Row}

abbrev pub constant : ℕ → RowSort → Row
constant n gives = record { number = n; takes = Nothing; gives = gives }

abbrev pub one : ℕ → RowSort → RowSort → Row
one n a gives = record { number = n; takes = One a; gives = gives }

abbrev pub two : ℕ → RowSort → RowSort → RowSort → Row
two n a b gives = record { number = n; takes = Two a b; gives = gives }

abbrev pub three : ℕ → RowSort → RowSort → RowSort → RowSort → Row
three n a b c gives = record { number = n; takes = Three a b c; gives = gives }

abbrev pub row : Operator → Row
row Vundef = constant 0 Val
row Vint = one 1 Z Val
row Vlong = one 2 Z Val
row Nullval = constant 3 Val
row PtrAdd = two 4 Val Z Val
row Vints = one 5 ListZ ListVal
row Vlongs = one 6 ListZ ListVal
row Fst = one 7 ProdST S
row Snd = one 8 ProdST T
row Len = one 9 ListS Z
row Nth = two 10 Z ListS S
row Upd = three 11 Z S ListS ListS
row Rev = one 12 ListS ListS
row Sum = one 13 ListZ Z
row Sublist = three 14 Z Z ListS ListS
row Repeat = two 15 S Z ListS
row Node = three 16 TreeS S TreeS TreeS
row Quot = two 17 Z Z Z
row Rem = two 18 Z Z Z
row Band = two 19 Z Z Z
row Bor = two 20 Z Z Z
row Bxor = two 21 Z Z Z
row Bnot = one 22 Z Z
row Shl = two 23 Z Z Z
row Shr = two 24 Z Z Z
row Eqz = two 25 Z Z Z
row Ltz = two 26 Z Z Z
row Lez = two 27 Z Z Z
row Eqv = two 28 Val Val Z
row Add = two 29 Z Z Z
row Sub = two 30 Z Z Z
row Mul = two 31 Z Z Z
row Cons = two 32 S ListS ListS
row Append = two 33 ListS ListS ListS
row Pair = two 34 S T ProdST
