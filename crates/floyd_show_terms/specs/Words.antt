-- How sorts, operators and kinds of integers are written.
use Rattle.std.specs.Prelude.{ℕ, List, [], ◌++◌, codes}
use Rattle.floyd_int.specs.declared.kinds.IntKind.{IntKind}
use Rattle.floyd_int.specs.declared.kinds.IntKind.TheVariants.{I8, U8, I16, U16, I32, U32, I64, U64}
use Rattle.floyd_tree_sorts.specs.declared.operators.Operator.{Operator}
use Rattle.floyd_tree_sorts.specs.declared.operators.Operator.TheVariants as o
use Rattle.floyd_tree_sorts.specs.declared.sorts.Sort.{Sort, Z, Val, ListOf', TreeOf', Prod', end_of-Sort, more_of-Sort}
use Rattle.floyd_show_terms.specs.declared.words.Style.{Style}
use Rattle.floyd_show_terms.specs.declared.words.Style.TheVariants.{Alone, Applied, Between}

-- a sort, without parentheses
abbrev pub sort_text : Sort → List ℕ
sort_text Z = codes "Z"
sort_text Val = codes "val"
sort_text (ListOf' p (more_of-Sort s end_of-Sort)) = codes "list " ++ sort_text s
sort_text (TreeOf' p (more_of-Sort s end_of-Sort)) = codes "tree " ++ sort_text s
sort_text (Prod' p (more_of-Sort a end_of-Sort) q (more_of-Sort b end_of-Sort)) = codes "prod " ++ sort_text a ++ codes " " ++ sort_text b

-- a type of integers
abbrev pub kind_text : IntKind → List ℕ
kind_text I8 = codes "char"
kind_text U8 = codes "uchar"
kind_text I16 = codes "short"
kind_text U16 = codes "ushort"
kind_text I32 = codes "int"
kind_text U32 = codes "uint"
kind_text I64 = codes "long"
kind_text U64 = codes "ulong"

-- an operator stands between its arguments, or alone where it has none, or before them
abbrev pub style_of : Operator → Style
style_of o.Add = Between
style_of o.Sub = Between
style_of o.Mul = Between
style_of o.Cons = Between
style_of o.Append = Between
style_of o.Vundef = Alone
style_of o.Nullval = Alone
style_of operator = Applied

-- what is written for the operator; a pair is its parentheses alone
abbrev pub operator_text : Operator → List ℕ
operator_text o.Vundef = codes "Vundef"
operator_text o.Vint = codes "Vint"
operator_text o.Vlong = codes "Vlong"
operator_text o.Nullval = codes "nullval"
operator_text o.PtrAdd = codes "ptr_add"
operator_text o.Vints = codes "vints"
operator_text o.Vlongs = codes "vlongs"
operator_text o.Fst = codes "fst"
operator_text o.Snd = codes "snd"
operator_text o.Len = codes "len"
operator_text o.Nth = codes "nth"
operator_text o.Upd = codes "upd"
operator_text o.Rev = codes "rev"
operator_text o.Sum = codes "sum"
operator_text o.Sublist = codes "sublist"
operator_text o.Repeat = codes "repeat"
operator_text o.Node = codes "Node"
operator_text o.Quot = codes "quot"
operator_text o.Rem = codes "rem"
operator_text o.Band = codes "band"
operator_text o.Bor = codes "bor"
operator_text o.Bxor = codes "bxor"
operator_text o.Bnot = codes "bnot"
operator_text o.Shl = codes "shl"
operator_text o.Shr = codes "shr"
operator_text o.Eqz = codes "eqz"
operator_text o.Ltz = codes "ltz"
operator_text o.Lez = codes "lez"
operator_text o.Eqv = codes "eqv"
operator_text o.Add = codes " + "
operator_text o.Sub = codes " - "
operator_text o.Mul = codes " * "
operator_text o.Cons = codes " :: "
operator_text o.Append = codes " ++ "
operator_text o.Pair = []
