-- Two sorts are the same exactly where the test of specs/Sorts says so.
use Rattle.std.proofs.Common.{◌≡◌, IsTrue, ◌↔◌, Bool, true, false, ◌&&◌, refl, ap, sym, ◌∙◌, List, [], ◌∷◌}
use Rattle.floyd_tree_sorts.specs.declared.sorts.Sort.{Sort, Z, Val, ListOf, ListOf', TreeOf, TreeOf', Prod, Prod', end_of-Sort, more_of-Sort}
use Rattle.floyd_tree_sorts.specs.declared.sorts.Sort.TheBlock.{shape-the_row-Sort-0, hidden-the_row-Sort-0}
use denote.Hole.Carrier.{hidden}
use Rattle.floyd_tree_sorts.specs.Sorts.{same_sort, same_sorts, list_sort, tree_sort, pair_sort, is_z, is_val, is_list_of, is_tree_of, is_pair_of}

pub both_true : (a b : Bool) → (a && b) ≡ true → (a ≡ true) × (b ≡ true)
both_true true true h = (refl, refl)
both_true true false h = cc
both_true false b h = cc

pub same_sort_true : (a b : Sort) → same_sort a b ≡ true → a ≡ b
same_sort_true Z Z h = refl
same_sort_true Val Val h = refl
same_sort_true (ListOf' p (more_of-Sort a end_of-Sort)) (ListOf' q (more_of-Sort b end_of-Sort)) h = ap list_sort (same_sort_true a b h)
same_sort_true (TreeOf' p (more_of-Sort a end_of-Sort)) (TreeOf' q (more_of-Sort b end_of-Sort)) h = ap tree_sort (same_sort_true a b h)
same_sort_true (Prod' p (more_of-Sort a end_of-Sort) q (more_of-Sort c end_of-Sort)) (Prod' r (more_of-Sort b end_of-Sort) s (more_of-Sort d end_of-Sort)) h =
    let both = both_true (same_sort a b) (same_sort c d) h in
    ap (λ x. pair_sort x c) (same_sort_true a b both.0) ∙ ap (λ x. pair_sort b x) (same_sort_true c d both.1)
same_sort_true a b h = absurd cc

pub same_sort_self : (a : Sort) → same_sort a a ≡ true
same_sort_self Z = refl
same_sort_self Val = refl
same_sort_self (ListOf' p (more_of-Sort a end_of-Sort)) = same_sort_self a
same_sort_self (TreeOf' p (more_of-Sort a end_of-Sort)) = same_sort_self a
same_sort_self (Prod' p (more_of-Sort a end_of-Sort) q (more_of-Sort c end_of-Sort)) =
    ap (λ x. x && same_sort c c) (same_sort_self a) ∙ same_sort_self c

-- sorts as the program makes them
pub list_of_is : (a : Sort) → ListOf a ≡ list_sort a
unfolding shape-the_row-Sort-0 hidden-the_row-Sort-0 hidden
list_of_is a = refl

pub tree_of_is : (a : Sort) → TreeOf a ≡ tree_sort a
unfolding shape-the_row-Sort-0 hidden-the_row-Sort-0 hidden
tree_of_is a = refl

pub prod_is : (a b : Sort) → Prod a b ≡ pair_sort a b
unfolding shape-the_row-Sort-0 hidden-the_row-Sort-0 hidden
prod_is a b = refl

not_same : (r : Bool) → (r ≡ true → ⊥) → false ≡ r
not_same true h = absurd (h refl)
not_same false h = refl

pub same_sort_test : (r : Bool) (a b : Sort) → (IsTrue r ↔ (a ≡ b)) → r ≡ same_sort a b
same_sort_test true a b h = sym (ap (λ x. same_sort a x) (sym (h.0 refl)) ∙ same_sort_self a)
same_sort_test false a b h = not_same (same_sort a b) (λ e. let wrong : false ≡ true = h.1 (same_sort_true a b e) in cc)

same_sorts_true : (a b : List Sort) → same_sorts a b ≡ true → a ≡ b
same_sorts_true [] [] h = refl
same_sorts_true (a ∷ more) (b ∷ others) h =
    let both = both_true (same_sort a b) (same_sorts more others) h in
    ap (λ x. x ∷ more) (same_sort_true a b both.0) ∙ ap (λ x. b ∷ x) (same_sorts_true more others both.1)
same_sorts_true a b h = absurd cc

same_sorts_self : (a : List Sort) → same_sorts a a ≡ true
same_sorts_self [] = refl
same_sorts_self (a ∷ more) = ap (λ x. x && same_sorts more more) (same_sort_self a) ∙ same_sorts_self more

pub same_sorts_test : (r : Bool) (a b : List Sort) → (IsTrue r ↔ (a ≡ b)) → r ≡ same_sorts a b
same_sorts_test true a b h = sym (ap (λ x. same_sorts a x) (sym (h.0 refl)) ∙ same_sorts_self a)
same_sorts_test false a b h = not_same (same_sorts a b) (λ e. let wrong : false ≡ true = h.1 (same_sorts_true a b e) in cc)

-- the test against a sort that is known in part
pub same_z : (a : Sort) → same_sort Z a ≡ is_z a
same_z Z = refl
same_z Val = refl
same_z (ListOf' p (more_of-Sort a end_of-Sort)) = refl
same_z (TreeOf' p (more_of-Sort a end_of-Sort)) = refl
same_z (Prod' p (more_of-Sort a end_of-Sort) q (more_of-Sort b end_of-Sort)) = refl

pub same_val : (a : Sort) → same_sort Val a ≡ is_val a
same_val Z = refl
same_val Val = refl
same_val (ListOf' p (more_of-Sort a end_of-Sort)) = refl
same_val (TreeOf' p (more_of-Sort a end_of-Sort)) = refl
same_val (Prod' p (more_of-Sort a end_of-Sort) q (more_of-Sort b end_of-Sort)) = refl

pub same_list : (s a : Sort) → same_sort (list_sort s) a ≡ is_list_of s a
same_list s Z = refl
same_list s Val = refl
same_list s (ListOf' p (more_of-Sort a end_of-Sort)) = refl
same_list s (TreeOf' p (more_of-Sort a end_of-Sort)) = refl
same_list s (Prod' p (more_of-Sort a end_of-Sort) q (more_of-Sort b end_of-Sort)) = refl

pub same_tree : (s a : Sort) → same_sort (tree_sort s) a ≡ is_tree_of s a
same_tree s Z = refl
same_tree s Val = refl
same_tree s (ListOf' p (more_of-Sort a end_of-Sort)) = refl
same_tree s (TreeOf' p (more_of-Sort a end_of-Sort)) = refl
same_tree s (Prod' p (more_of-Sort a end_of-Sort) q (more_of-Sort b end_of-Sort)) = refl

pub same_pair : (s t a : Sort) → same_sort (pair_sort s t) a ≡ is_pair_of s t a
same_pair s t Z = refl
same_pair s t Val = refl
same_pair s t (ListOf' p (more_of-Sort a end_of-Sort)) = refl
same_pair s t (TreeOf' p (more_of-Sort a end_of-Sort)) = refl
same_pair s t (Prod' p (more_of-Sort a end_of-Sort) q (more_of-Sort b end_of-Sort)) = refl
