-- Lists that are written out, x :: .. :: nil, and what is made of their items.
use Rattle.std.specs.Prelude.{ℤ, pos, negsuc, ◌+ℤ◌, List, [], ◌∷◌, Option, Some, None, slice_get, Result, Ok}
use Rattle.floyd_text.specs.declared.refusal.No.{No}
use Rattle.floyd_tree_sorts.specs.declared.heads.Head.TheVariants as h
use Rattle.floyd_tree_sorts.specs.declared.operators.Operator.TheVariants.{Cons, Pair, Vundef}
use Rattle.floyd_tree_sorts.specs.declared.sorts.Sort.{Sort, Z, Val, ListOf', TreeOf', Prod', more_of-Sort, end_of-Sort}
use Rattle.floyd_tree.specs.Plain.{Plain, At, Done, More}
use Rattle.floyd_fieldpath.specs.Nested.{literal}
use Rattle.floyd_fieldpath.specs.Sums.{literal_in, two}
use Rattle.floyd_fieldpath.specs.Written.{on_ok, written}

-- an item before others, where there are such
abbrev pub before : {T : Type 0} → T → Option (List T) → Option (List T)
before a None = None
before a (Some rest) = Some (a ∷ rest)

-- the items of a list that is written out
abbrev pub items_of : Plain → Option (List Plain)
items_of (At (h.Nil s) Done) = Some []
items_of (At (h.Operator Cons) (More a (More b Done))) = before a (items_of b)
items_of t = None

-- what stands behind the last `::`
abbrev pub end_of : Plain → Plain
end_of (At (h.Operator Cons) (More a (More b Done))) = end_of b
end_of t = t

-- the items before a list; each node must be within the limits
abbrev pub chained : List Plain → Plain → Result Plain No
chained [] l = Ok l
chained (a ∷ items) l = on_ok (chained items l) (λ rest. written (two Cons a rest))

-- the numbers, where all are literals
abbrev pub numbers_by : Option ℤ → Option (List ℤ) → Option (List ℤ)
numbers_by None rest = None
numbers_by (Some z) rest = before z rest

abbrev pub numbers_of : List Plain → Option (List ℤ)
numbers_of [] = Some []
numbers_of (t ∷ ts) = numbers_by (literal_in t) (numbers_of ts)

abbrev pub total : List ℤ → ℤ
total [] = pos 0
total (z ∷ zs) = z +ℤ total zs

-- the default term of a sort
abbrev pub default_in : Sort → Result Plain No
default_in Z = Ok (literal (pos 0))
default_in Val = written (At (h.Operator Vundef) Done)
default_in (ListOf' p (more_of-Sort s end_of-Sort)) = written (At (h.Nil s) Done)
default_in (TreeOf' p (more_of-Sort s end_of-Sort)) = written (At (h.Leaf s) Done)
default_in (Prod' p (more_of-Sort a end_of-Sort) q (more_of-Sort b end_of-Sort)) =
    on_ok (default_in a) (λ x. on_ok (default_in b) (λ y. written (two Pair x y)))

-- the default of the items of a list that ends so
abbrev pub default_of_end : Plain → Result Plain No
default_of_end (At (h.Nil s) kids) = default_in s
default_of_end t = Ok t

abbrev pub or_default : Option Plain → Plain → Result Plain No
or_default (Some item) end = Ok item
or_default None end = default_of_end end

-- the item at that place, from 0, and the default out of range
abbrev pub item_at : ℤ → List Plain → Plain → Result Plain No
item_at (pos n) items end = or_default (slice_get items n) end
item_at (negsuc n) items end = default_of_end end
