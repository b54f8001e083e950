-- What each head but a FUN makes of the data of its kids.
use Rattle.std.specs.Prelude.{ℕ, List, ◌∷◌, ◌++◌, map, length, reverse, get_or, pos, ◌+ℤ◌, ◌-ℤ◌, ◌*ℤ◌}
use Rattle.floyd_int.specs.declared.kinds.Value.TheVariants as v
use Rattle.floyd_ctypes.specs.Structs.{Structs}
use Rattle.floyd_tree_sorts.specs.declared.sorts.Sort.{Sort}
use Rattle.floyd_tree_sorts.specs.declared.heads.Head.{Head}
use Rattle.floyd_tree_sorts.specs.declared.heads.Head.TheVariants.{Literal, Variable, Gv, Lv, Nil, Signed, Unsigned, Default, Fun}
use Rattle.floyd_tree_sorts.specs.declared.heads.Head.TheVariants as h
use Rattle.floyd_tree_sorts.specs.declared.operators.Operator.{Operator}
use Rattle.floyd_tree_sorts.specs.declared.operators.Operator.TheVariants.{Vundef, Vint, Vlong, Nullval, PtrAdd, Vints, Vlongs, Fst, Snd, Len, Nth, Upd, Rev, Sum, Sublist, Repeat, Quot, Rem, Band, Bor, Bxor, Bnot, Shl, Shr, Eqz, Ltz, Lez, Eqv, Add, Sub, Mul, Cons, Append}
use Rattle.floyd_tree_sorts.specs.declared.operators.Operator.TheVariants as o
use Rattle.floyd_tree_values.specs.Data.{Datum, Number, Val, Seq, Tree, Pair, Empty, Leaf, Node, seq, number_in, value_in, items_in, tree_in, first_in, second_in, default_of}
use Rattle.floyd_tree_values.specs.Numbers.{quot, rem, signed, unsigned, band, bor, bxor, bnot, shl, shr, eqz, ltz, lez}
use Rattle.floyd_tree_values.specs.Values.{vint, vlong, ptr_add, eqv}
use Rattle.floyd_tree_values.specs.Lists.{nth, upd, sublist, repeat, sum}
use Rattle.floyd_tree_values.specs.Defaults.{undefined, default_value}

-- data for the variables, and a block for each name under gv and each name under lv
pub record Env : Type 0 where
  pub variables : List ℕ → Datum
  pub global : List ℕ → ℕ
  pub local : List ℕ → ℕ

-- the start of a block
abbrev pub start : ℕ → Datum
start block = Val (v.Vptr block 0)

-- What an operator makes of the data of its kids, of which it has up to three; `s` is the sort of the result.
abbrev pub operator_value : Operator → Sort → Datum → Datum → Datum → Datum
operator_value Vundef s a b c = Val v.Vundef
operator_value Vint s a b c = Val (vint (number_in a))
operator_value Vlong s a b c = Val (vlong (number_in a))
operator_value Nullval s a b c = Val (v.Vlong 0)
operator_value PtrAdd s a b c = Val (ptr_add (value_in a) (number_in b))
operator_value Vints s a b c = seq (map (λ d. Val (vint (number_in d))) (items_in a))
operator_value Vlongs s a b c = seq (map (λ d. Val (vlong (number_in d))) (items_in a))
operator_value Fst s a b c = first_in a
operator_value Snd s a b c = second_in a
operator_value Len s a b c = Number (pos (length (items_in a)))
operator_value Nth s a b c = nth (default_of s) (number_in a) (items_in b)
operator_value Upd s a b c = seq (upd (number_in a) b (items_in c))
operator_value Rev s a b c = seq (reverse (items_in a))
operator_value Sum s a b c = Number (sum (items_in a))
operator_value Sublist s a b c = seq (sublist (number_in a) (number_in b) (items_in c))
operator_value Repeat s a b c = seq (repeat a (number_in b))
operator_value o.Node s a b c = Tree (Node (tree_in a) b (tree_in c))
operator_value Quot s a b c = Number (quot (number_in a) (number_in b))
operator_value Rem s a b c = Number (rem (number_in a) (number_in b))
operator_value Band s a b c = Number (band (number_in a) (number_in b))
operator_value Bor s a b c = Number (bor (number_in a) (number_in b))
operator_value Bxor s a b c = Number (bxor (number_in a) (number_in b))
operator_value Bnot s a b c = Number (bnot (number_in a))
operator_value Shl s a b c = Number (shl (number_in a) (number_in b))
operator_value Shr s a b c = Number (shr (number_in a) (number_in b))
operator_value Eqz s a b c = Number (eqz (number_in a) (number_in b))
operator_value Ltz s a b c = Number (ltz (number_in a) (number_in b))
operator_value Lez s a b c = Number (lez (number_in a) (number_in b))
operator_value Eqv s a b c = Number (eqv (value_in a) (value_in b))
operator_value Add s a b c = Number (number_in a +ℤ number_in b)
operator_value Sub s a b c = Number (number_in a -ℤ number_in b)
operator_value Mul s a b c = Number (number_in a *ℤ number_in b)
operator_value Cons s a b c = seq (a ∷ items_in b)
operator_value Append s a b c = seq (items_in a ++ items_in b)
operator_value o.Pair s a b c = Pair a b

-- the datum of the kid at that place
abbrev pub at_place : ℕ → List Datum → Datum
at_place k ds = get_or ds k undefined

-- what a head makes of the data of its kids, where the result is of sort s
abbrev pub applied : Structs → Env → Head → Sort → List Datum → Datum
applied structs env (Literal z) s ds = Number z
applied structs env (Variable x own) s ds = env.variables x
applied structs env (Gv x) s ds = start (env.global x)
applied structs env (Lv x) s ds = start (env.local x)
applied structs env (Nil item) s ds = Seq Empty
applied structs env (h.Leaf item) s ds = Tree Leaf
applied structs env (Signed w) s ds = Number (signed w (number_in (at_place 0 ds)))
applied structs env (Unsigned w) s ds = Number (unsigned w (number_in (at_place 0 ds)))
applied structs env (Default shape own) s ds = default_value structs shape (map number_in ds)
applied structs env (Fun name arguments own) s ds = undefined
applied structs env (h.Operator operator) s ds = operator_value operator s (at_place 0 ds) (at_place 1 ds) (at_place 2 ds)
