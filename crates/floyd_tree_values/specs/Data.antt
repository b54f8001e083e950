-- Data: numbers, values, lists, trees and pairs, and the sort of each.
use Rattle.std.specs.Prelude.{◌<◌, ◌^◌, List, [], ◌∷◌, ℤ, pos, All}
use Rattle.floyd_int.specs.declared.kinds.Value.{Value}
use Rattle.floyd_int.specs.declared.kinds.Value.TheVariants as v
use Rattle.floyd_tree_sorts.specs.declared.sorts.Sort.{Sort, Z, Val as ValSort, ListOf', TreeOf', Prod', more_of-Sort, end_of-Sort}

mutual
  pub data Datum : Type 0 where
    Number : (z : ℤ) → Datum
    Val : (value : Value) → Datum
    Seq : (items : Data) → Datum
    Tree : (tree : DataTree) → Datum
    Pair : (first : Datum) → (second : Datum) → Datum

  pub data Data : Type 0 where
    Empty : Data
    Item : (first : Datum) → (rest : Data) → Data

  pub data DataTree : Type 0 where
    Leaf : DataTree
    Node : (left : DataTree) → (item : Datum) → (right : DataTree) → DataTree

abbrev pub data_of : List Datum → Data
data_of [] = Empty
data_of (d ∷ ds) = Item d (data_of ds)

abbrev pub listed : Data → List Datum
listed Empty = []
listed (Item d ds) = d ∷ listed ds

-- the list of these items
abbrev pub seq : List Datum → Datum
seq ds = Seq (data_of ds)

-- What a datum is: an operator of another sort takes it as 0, as undefined, as the empty list or tree, or as itself.
abbrev pub number_in : Datum → ℤ
number_in (Number z) = z
number_in d = pos 0

abbrev pub value_in : Datum → Value
value_in (Val v) = v
value_in d = v.Vundef

abbrev pub items_in : Datum → List Datum
items_in (Seq items) = listed items
items_in d = []

abbrev pub tree_in : Datum → DataTree
tree_in (Tree t) = t
tree_in d = Leaf

abbrev pub first_in : Datum → Datum
first_in (Pair a b) = a
first_in d = d

abbrev pub second_in : Datum → Datum
second_in (Pair a b) = b
second_in d = d

-- a value of the machine: of 32 or 64 bits, or a block with an offset of 64 bits
abbrev pub IsValue : Value → Type 0
IsValue v.Vundef = Unit {0}
IsValue (v.Vint bits) = bits < 2 ^ 32
IsValue (v.Vlong bits) = bits < 2 ^ 64
IsValue (v.Vptr block offset) = offset < 2 ^ 64

abbrev pub IsNumber : Datum → Type 0
IsNumber (Number z) = Unit {0}
IsNumber d = ⊥

abbrev pub IsVal : Datum → Type 0
IsVal (Val v) = IsValue v
IsVal d = ⊥

-- a list with P of each item
abbrev pub IsListOf : (Datum → Type 0) → Datum → Type 0
IsListOf P (Seq items) = All P (listed items)
IsListOf P d = ⊥

abbrev pub AllIn : (Datum → Type 0) → DataTree → Type 0
AllIn P Leaf = Unit {0}
AllIn P (Node l x r) = AllIn P l × P x × AllIn P r

-- a tree with P of each item
abbrev pub IsTreeOf : (Datum → Type 0) → Datum → Type 0
IsTreeOf P (Tree t) = AllIn P t
IsTreeOf P d = ⊥

-- a pair with P of its first part and Q of its second
abbrev pub IsPairOf : (Datum → Type 0) → (Datum → Type 0) → Datum → Type 0
IsPairOf P Q (Pair a b) = P a × Q b
IsPairOf P Q d = ⊥

-- the datum is of the sort
abbrev pub HasSort : Sort → Datum → Type 0
HasSort Z d = IsNumber d
HasSort ValSort d = IsVal d
HasSort (ListOf' p (more_of-Sort a end_of-Sort)) d = IsListOf (HasSort a) d
HasSort (TreeOf' p (more_of-Sort a end_of-Sort)) d = IsTreeOf (HasSort a) d
HasSort (Prod' p (more_of-Sort a end_of-Sort) q (more_of-Sort b end_of-Sort)) d = IsPairOf (HasSort a) (HasSort b) d

-- the data are of the sorts, one by one
abbrev pub HaveSorts : List Sort → List Datum → Type 0
HaveSorts [] [] = Unit {0}
HaveSorts (a ∷ sorts) (d ∷ ds) = HasSort a d × HaveSorts sorts ds
HaveSorts sorts ds = ⊥

-- the default datum of a sort
abbrev pub default_of : Sort → Datum
default_of Z = Number (pos 0)
default_of ValSort = Val v.Vundef
default_of (ListOf' p a) = Seq Empty
default_of (TreeOf' p a) = Tree Leaf
default_of (Prod' p (more_of-Sort a end_of-Sort) q (more_of-Sort b end_of-Sort)) = Pair (default_of a) (default_of b)
