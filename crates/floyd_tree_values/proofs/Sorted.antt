-- What a built-in makes of data of its kids' sorts is of its sort.
use Rattle.std.proofs.Common.{◌≡◌, ℕ, zero, suc, ◌^◌, Bool, true, false, ℤ, pos, negsuc, List, [], ◌∷◌, map, reverse, take, get_or, Some, Option, All, refl, sym, ap, subst, arith}
use Rattle.std.proofs.lemmas.List.Elements.{All-nil, All-cons, All-head, All-tail, All-replicate, All-append, All-set, All-take, All-drop, All-map}
use mathlib.Core.List.{reverse-cons}
use Rattle.floyd_int.specs.declared.kinds.Value.{Value}
use Rattle.floyd_int.specs.declared.kinds.Value.TheVariants as v
use Rattle.floyd_int.proofs.Modulo.{modulo-below}
use Rattle.floyd_tree_sorts.specs.declared.sorts.Sort.{Sort, Z, Val as ValSort, ListOf', TreeOf', Prod', more_of-Sort, end_of-Sort}
use Rattle.floyd_tree_sorts.specs.Sorts.{list_sort, tree_sort, pair_sort, is_z}
use Rattle.floyd_tree_sorts.proofs.RowLemmas.{row_taken}
use Rattle.floyd_tree_sorts.specs.declared.operators.Operator.{Operator}
use Rattle.floyd_tree_sorts.specs.declared.operators.Operator.TheVariants.{Vundef, Vint, Vlong, Nullval, PtrAdd, Vints, Vlongs, Fst, Snd, Nth, Upd, Rev, Sublist, Repeat, Cons, Append}
use Rattle.floyd_tree_sorts.specs.declared.operators.Operator.TheVariants as o
use Rattle.floyd_tree_sorts.specs.Operators.{row}
use Rattle.floyd_tree_sorts.specs.Table.{alone, by_row, forms, of_number, when, written}
use Rattle.floyd_tree_values.specs.Data.{Datum, Number, Val, Seq, Tree, Pair, data_of, listed, seq, number_in, items_in, tree_in, first_in, second_in, IsVal, IsValue, IsListOf, IsTreeOf, IsPairOf, AllIn, HasSort, HaveSorts, default_of}
use Rattle.floyd_tree_values.specs.Values.{vint, vlong, ptr_add}
use Rattle.floyd_tree_values.specs.Lists.{nth, upd, sublist, at_least_zero}
use Rattle.floyd_tree_values.specs.BuiltIns.{at_place, operator_value}

pub listed_data : (ds : List Datum) → listed (data_of ds) ≡ ds
listed_data [] = refl
listed_data (d ∷ ds) = ap (λ x. d ∷ x) (listed_data ds)

pub list_of : (P : Datum → Type 0) (ds : List Datum) → All P ds → IsListOf P (seq ds)
list_of P ds h = subst (All P) (sym (listed_data ds)) h

pub items_of : (P : Datum → Type 0) (d : Datum) → IsListOf P d → All P (items_in d)
items_of P (Seq items) h = h
items_of P (Number z) h = absurd h
items_of P (Val v) h = absurd h
items_of P (Tree t) h = absurd h
items_of P (Pair a b) h = absurd h

pub in_tree : (P : Datum → Type 0) (d : Datum) → IsTreeOf P d → AllIn P (tree_in d)
in_tree P (Tree t) h = h
in_tree P (Number z) h = absurd h
in_tree P (Val v) h = absurd h
in_tree P (Seq items) h = absurd h
in_tree P (Pair a b) h = absurd h

pub both_parts : (P Q : Datum → Type 0) (d : Datum) → IsPairOf P Q d → P (first_in d) × Q (second_in d)
both_parts P Q (Pair a b) h = h
both_parts P Q (Number z) h = absurd h
both_parts P Q (Val v) h = absurd h
both_parts P Q (Seq items) h = absurd h
both_parts P Q (Tree t) h = absurd h

pub default_sorted : (s : Sort) → HasSort s (default_of s)
default_sorted Z = tt
default_sorted ValSort = tt
default_sorted (ListOf' p (more_of-Sort a end_of-Sort)) = All-nil (HasSort a)
default_sorted (TreeOf' p (more_of-Sort a end_of-Sort)) = tt
default_sorted (Prod' p (more_of-Sort a end_of-Sort) q (more_of-Sort b end_of-Sort)) = (default_sorted a, default_sorted b)

-- lists
all_reversed : (P : Datum → Type 0) (ds : List Datum) → All P ds → All P (reverse ds)
all_reversed P [] h = All-nil P
all_reversed P (d ∷ ds) h =
    subst (All P) (sym (reverse-cons d ds)) (All-append P (reverse ds) (d ∷ []) (all_reversed P ds (All-tail P d ds h)) (All-cons P d [] (All-head P d ds h) (All-nil P)))

got : (P : Datum → Type 0) (default : Datum) → P default → (ds : List Datum) (i : ℕ) → All P ds → P (get_or ds i default)
got P default p [] i h = p
got P default p (d ∷ ds) zero h = All-head P d ds h
got P default p (d ∷ ds) (suc i) h = got P default p ds i (All-tail P d ds h)

nth_has : (P : Datum → Type 0) (default : Datum) → P default → (z : ℤ) (ds : List Datum) → All P ds → P (nth default z ds)
nth_has P default p (pos i) ds h = got P default p ds i h
nth_has P default p (negsuc i) ds h = p

upd_has : (P : Datum → Type 0) (z : ℤ) (d : Datum) (ds : List Datum) → P d → All P ds → All P (upd z d ds)
upd_has P (pos i) d ds p h = All-set P ds i d p h
upd_has P (negsuc i) d ds p h = h

sublist_has : (P : Datum → Type 0) (lo hi : ℤ) (ds : List Datum) → All P ds → All P (sublist lo hi ds)
sublist_has P lo hi ds h = All-drop P (at_least_zero lo) (take (at_least_zero hi) ds) (All-take P (at_least_zero hi) ds h)

-- values
pub vint_is : (z : ℤ) → IsValue (vint z)
vint_is z = modulo-below z (2 ^ 32) (omega arith)

pub vlong_is : (z : ℤ) → IsValue (vlong z)
vlong_is z = modulo-below z (2 ^ 64) (omega arith)

ptr_add_is : (v : Value) (z : ℤ) → IsValue (ptr_add v z)
ptr_add_is v.Vundef z = tt
ptr_add_is (v.Vint n) z = tt
ptr_add_is (v.Vlong n) z = tt
ptr_add_is (v.Vptr b o) z = modulo-below _ (2 ^ 64) (omega arith)

-- the sort table
pub moved : (a s : Sort) (d : Datum) → Option.Some a ≡ Option.Some s → HasSort a d → HasSort s d
moved a s d e h = let same : a ≡ s = cc in subst (λ x. HasSort x d) same h

pub moved_alone : (a s : Sort) (sorts : List Sort) (d : Datum) → alone a sorts ≡ Some s → HasSort a d → HasSort s d
moved_alone a s [] d e h = moved a s d e h
moved_alone a s (b ∷ sorts) d e h = absurd cc

when_gives : (test : Bool) (a s : Sort) → when test a ≡ Some s → (test ≡ true) × (a ≡ s)
when_gives true a s e = (refl, cc)
when_gives false a s e = absurd cc

pub moved_number : (s : Sort) (sorts : List Sort) (d : Datum) → of_number sorts ≡ Some s → HasSort Z d → HasSort s d
moved_number s [] d e h = absurd cc
moved_number s (a ∷ []) d e h = subst (λ x. HasSort x d) (when_gives (is_z a) Z s e).1 h
moved_number s (a ∷ b ∷ sorts) d e h = absurd cc

-- data of one, two or three sorts
one_has : (a : Sort) (ds : List Datum) → HaveSorts (a ∷ []) ds → HasSort a (at_place 0 ds)
one_has a [] h = absurd h
one_has a (x ∷ ds) h = h.0

two_have : (a b : Sort) (ds : List Datum) → HaveSorts (a ∷ b ∷ []) ds → HasSort a (at_place 0 ds) × HasSort b (at_place 1 ds)
two_have a b [] h = absurd h
two_have a b (x ∷ []) h = absurd h.1
two_have a b (x ∷ y ∷ ds) h = (h.0, h.1.0)

three_have : (a b c : Sort) (ds : List Datum) → HaveSorts (a ∷ b ∷ c ∷ []) ds → HasSort a (at_place 0 ds) × HasSort b (at_place 1 ds) × HasSort c (at_place 2 ds)
three_have a b c [] h = absurd h
three_have a b c (x ∷ []) h = absurd h.1
three_have a b c (x ∷ y ∷ []) h = absurd h.1.1
three_have a b c (x ∷ y ∷ z ∷ ds) h = (h.0, h.1.0, h.1.1.0)

vals_of : (f : ℤ → Value) → ((z : ℤ) → IsValue (f z)) → (ds : List Datum) → IsListOf IsVal (seq (map (λ x. Val (f (number_in x))) ds))
vals_of f h ds = list_of IsVal (map (λ x. Val (f (number_in x))) ds) (All-map IsVal (λ x. Val (f (number_in x))) ds (λ k x l. h _))

-- what an operator makes of data of the sorts that its row takes is of the sort that it gives
row_sorted : (operator : Operator) (s t : Sort) (ds : List Datum) → HaveSorts (map (written s t) (forms (row operator).takes)) ds → HasSort (written s t (row operator).gives) (operator_value operator (written s t (row operator).gives) (at_place 0 ds) (at_place 1 ds) (at_place 2 ds))
row_sorted Vundef s t ds h = tt
row_sorted Vint s t ds h = vint_is _
row_sorted Vlong s t ds h = vlong_is _
row_sorted Nullval s t ds h = omega arith
row_sorted PtrAdd s t ds h = ptr_add_is _ _
row_sorted Vints s t ds h = vals_of vint vint_is _
row_sorted Vlongs s t ds h = vals_of vlong vlong_is _
row_sorted Fst s t ds h = (both_parts (HasSort s) (HasSort t) _ (one_has (pair_sort s t) ds h)).0
row_sorted Snd s t ds h = (both_parts (HasSort s) (HasSort t) _ (one_has (pair_sort s t) ds h)).1
row_sorted Nth s t ds h = nth_has (HasSort s) (default_of s) (default_sorted s) _ _ (items_of (HasSort s) _ (two_have Z (list_sort s) ds h).1)
row_sorted Upd s t ds h =
    let k = three_have Z s (list_sort s) ds h in
    list_of (HasSort s) _ (upd_has (HasSort s) _ _ _ k.1 (items_of (HasSort s) _ k.2))
row_sorted Rev s t ds h = list_of (HasSort s) _ (all_reversed (HasSort s) _ (items_of (HasSort s) _ (one_has (list_sort s) ds h)))
row_sorted Sublist s t ds h = list_of (HasSort s) _ (sublist_has (HasSort s) (number_in (at_place 0 ds)) (number_in (at_place 1 ds)) _ (items_of (HasSort s) _ (three_have Z Z (list_sort s) ds h).2))
row_sorted Repeat s t ds h = list_of (HasSort s) _ (All-replicate (HasSort s) _ _ (two_have s Z ds h).0)
row_sorted o.Node s t ds h =
    let k = three_have (tree_sort s) s (tree_sort s) ds h in
    (in_tree (HasSort s) _ k.0, k.1, in_tree (HasSort s) _ k.2)
row_sorted Cons s t ds h =
    let k = two_have s (list_sort s) ds h in
    list_of (HasSort s) (at_place 0 ds ∷ items_in (at_place 1 ds)) (All-cons (HasSort s) _ _ k.0 (items_of (HasSort s) _ k.1))
row_sorted Append s t ds h =
    let k = two_have (list_sort s) (list_sort s) ds h in
    list_of (HasSort s) _ (All-append (HasSort s) _ _ (items_of (HasSort s) _ k.0) (items_of (HasSort s) _ k.1))
row_sorted o.Pair s t ds h = two_have s t ds h
row_sorted operator s t ds h = tt

pub operator_sorted : (operator : Operator) (s : Sort) (sorts : List Sort) (ds : List Datum) → by_row (row operator) sorts ≡ Some s → HaveSorts sorts ds → HasSort s (operator_value operator s (at_place 0 ds) (at_place 1 ds) (at_place 2 ds))
operator_sorted operator s sorts ds e h =
    let r = row_taken (row operator) sorts s e in
    subst (λ x. HasSort x (operator_value operator x (at_place 0 ds) (at_place 1 ds) (at_place 2 ds))) r.3
    (row_sorted operator r.0 r.1 ds (subst (λ x. HaveSorts x ds) (sym r.2) h))
