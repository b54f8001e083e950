-- What the sort of a node says of its kids.
use Rattle.std.proofs.Common.{◌≡◌, ℤ, Bool, true, false, ◌&&◌, List, [], ◌∷◌, Option, Some, None, refl, sym, ap, ◌∙◌}
use Rattle.std.specs.Prelude.{option_and_then}
use Rattle.floyd_tree_sorts.specs.declared.heads.Head.{Head}
use Rattle.floyd_tree_sorts.specs.declared.heads.Head.TheVariants as h
use Rattle.floyd_tree_sorts.specs.declared.operators.Operator.TheVariants as o
use Rattle.floyd_tree_sorts.specs.declared.sorts.Sort.{Sort, Z}
use Rattle.floyd_tree_sorts.specs.Sorts.{item_sort, list_sort, same_sort}
use Rattle.floyd_tree_sorts.specs.Table.{alone, sort_at, when}
use Rattle.floyd_tree_sorts.proofs.SortLemmas.{both_true, same_sort_self, same_sort_true}
use Rattle.floyd_tree.specs.Plain.{Plain, At, Done, More}
use Rattle.floyd_tree.specs.WellSorted.{sort_of, sorts_of, with_first}
use Rattle.floyd_goal_formulas.proofs.Values.{first_some}
use Rattle.floyd_fieldpath.specs.Sums.{literal_in, two}

pub sort_is : (a b : Sort) → Option.Some a ≡ Option.Some b → a ≡ b
sort_is a b e = cc

pub number_is : (x y : ℤ) → Option.Some x ≡ Option.Some y → x ≡ y
number_is x y e = cc

pub when_gives : (test : Bool) (a s : Sort) → when test a ≡ Some s → (test ≡ true) × (a ≡ s)
when_gives true a s e = (refl, cc)
when_gives false a s e = absurd cc

pub lists_of_same : (a b : Sort) → list_sort a ≡ list_sort b → a ≡ b
lists_of_same a b e = sort_is a b (ap item_sort e)

-- the kids of a node with a sort have sorts, which its head takes
pub kids_sorted : (head : Head) (o : Option (List Sort)) (s : Sort) → option_and_then (sort_at head) o ≡ Some s → (ss : List Sort) × (o ≡ Some ss) × (sort_at head ss ≡ Some s)
kids_sorted head (Some ss) s e = (ss, refl, e)
kids_sorted head None s e = absurd cc

none_left : (ss : List Sort) → sorts_of Done ≡ Some ss → ss ≡ []
none_left ss e = cc

pub one_sort : (a : Plain) (ss : List Sort) → sorts_of (More a Done) ≡ Some ss → (p : Sort) × (sort_of a ≡ Some p) × (ss ≡ p ∷ [])
one_sort a ss e =
    let p = first_some (sort_of a) (sorts_of Done) ss e in
    (p.0, p.2, p.4 ∙ ap (λ x. p.0 ∷ x) (none_left p.1 p.3))

pub two_sorts : (a b : Plain) (ss : List Sort) → sorts_of (More a (More b Done)) ≡ Some ss → (p : Sort) × (q : Sort) × (sort_of a ≡ Some p) × (sort_of b ≡ Some q) × (ss ≡ p ∷ q ∷ [])
two_sorts a b ss e =
    let p = first_some (sort_of a) (sorts_of (More b Done)) ss e in
    let q = one_sort b p.1 p.3 in
    (p.0, q.0, p.2, q.1, p.4 ∙ ap (λ x. p.0 ∷ x) q.2)

-- a literal is a number
alone_is : (ss : List Sort) (s : Sort) → alone Z ss ≡ Some s → s ≡ Z
alone_is [] s e = sym (sort_is Z s e)
alone_is (a ∷ ss) s e = absurd cc

pub literal_sort : (a : Plain) (z : ℤ) (s : Sort) → literal_in a ≡ Some z → sort_of a ≡ Some s → s ≡ Z
literal_sort (At (h.Literal y) kids) z s e f =
    let k = kids_sorted (h.Literal y) (sorts_of kids) s f in
    alone_is k.0 s k.2
literal_sort (At head kids) z s e f = absurd cc

-- the sorts under operators on lists
pub cons_takes : (p q s : Sort) → sort_at (h.Operator o.Cons) (p ∷ q ∷ []) ≡ Some s → (q ≡ list_sort p) × (s ≡ list_sort p)
cons_takes p q s e =
    let w = when_gives (same_sort p p && same_sort (list_sort p) q) (list_sort p) s e in
    (sym (same_sort_true (list_sort p) q (both_true (same_sort p p) (same_sort (list_sort p) q) w.0).1), sym w.1)

cons_fits : (p : Sort) → sort_at (h.Operator o.Cons) (p ∷ list_sort p ∷ []) ≡ Some (list_sort p)
cons_fits p = ap (λ c. when (c && c) (list_sort p)) (same_sort_self p)

pub cons_sorted : (a t : Plain) (p : Sort) → sort_of a ≡ Some p → sort_of t ≡ Some (list_sort p) → sort_of (two o.Cons a t) ≡ Some (list_sort p)
cons_sorted a t p i j =
    ap (λ x. option_and_then (sort_at (h.Operator o.Cons)) (with_first x (with_first (sort_of t) (Some [])))) i
    ∙ ap (λ y. option_and_then (sort_at (h.Operator o.Cons)) (with_first (Some p) (with_first y (Some [])))) j
    ∙ cons_fits p

pub rev_gives : (r s : Sort) → sort_at (h.Operator o.Rev) (list_sort r ∷ []) ≡ Some s → s ≡ list_sort r
rev_gives r s e = sym (when_gives (same_sort (list_sort r) (list_sort r)) (list_sort r) s e).1

pub len_gives : (a s : Sort) → sort_at (h.Operator o.Len) (list_sort a ∷ []) ≡ Some s → s ≡ Z
len_gives a s e = sym (when_gives (same_sort (list_sort a) (list_sort a)) Z s e).1

pub sum_gives : (a s : Sort) → sort_at (h.Operator o.Sum) (list_sort a ∷ []) ≡ Some s → s ≡ Z
sum_gives a s e = sym (when_gives (same_sort (list_sort Z) (list_sort a)) Z s e).1

pub nth_gives : (a r s : Sort) → sort_at (h.Operator o.Nth) (a ∷ list_sort r ∷ []) ≡ Some s → s ≡ r
nth_gives a r s e = sym (when_gives (same_sort Z a && same_sort (list_sort r) (list_sort r)) r s e).1

pub append_takes : (r q s : Sort) → sort_at (h.Operator o.Append) (list_sort r ∷ q ∷ []) ≡ Some s → (q ≡ list_sort r) × (s ≡ list_sort r)
append_takes r q s e =
    let w = when_gives (same_sort (list_sort r) (list_sort r) && same_sort (list_sort r) q) (list_sort r) s e in
    (sym (same_sort_true (list_sort r) q (both_true (same_sort (list_sort r) (list_sort r)) (same_sort (list_sort r) q) w.0).1), sym w.1)
