-- Terms of constructors are of the sort of the variable that they replace, and within the limits.
use Rattle.std.proofs.Common.{◌≡◌, ℕ, true, ◌&&◌, List, [], ◌∷◌, length, Some, refl, sym, ap, subst, arith}
use Rattle.floyd_tree_sorts.specs.declared.sorts.Sort.{Sort, ListOf', TreeOf', more_of-Sort, end_of-Sort}
use Rattle.floyd_tree_sorts.specs.Sorts.{list_sort, tree_sort}
use Rattle.floyd_tree_sorts.specs.Table.{when}
use Rattle.floyd_tree_sorts.proofs.SortLemmas.{same_sort_self}
use Rattle.floyd_tree.specs.Made.{fits}
use Rattle.floyd_tree.specs.WellSorted.{sort_of}
use Rattle.floyd_pure_formulas.specs.declared.constructors.Constructors.{Constructors}
use Rattle.floyd_pure_formulas.specs.ConstructorsClauses.{AreOf}
use Rattle.floyd_pure_formulas.specs.VariableCases.{built, constructors_of, of_list, of_tree, zipped}

pub record Two (names : List (List ℕ)) : Type 0 where
  pub first : List ℕ
  pub second : List ℕ
  pub are : names ≡ first ∷ second ∷ []

pub two : (names : List (List ℕ)) → length names ≡ 2 → Two names
two [] e = absurd (omega (arith, e))
two (a ∷ []) e = absurd (omega (arith, e))
two (a ∷ b ∷ []) e = record { first = a; second = b; are = refl }
two (a ∷ b ∷ c ∷ names) e = absurd (omega (arith, e))

pub record Three (names : List (List ℕ)) : Type 0 where
  pub first : List ℕ
  pub second : List ℕ
  pub third : List ℕ
  pub are : names ≡ first ∷ second ∷ third ∷ []

pub three : (names : List (List ℕ)) → length names ≡ 3 → Three names
three [] e = absurd (omega (arith, e))
three (a ∷ []) e = absurd (omega (arith, e))
three (a ∷ b ∷ []) e = absurd (omega (arith, e))
three (a ∷ b ∷ c ∷ []) e = record { first = a; second = b; third = c; are = refl }
three (a ∷ b ∷ c ∷ d ∷ names) e = absurd (omega (arith, e))

cons_sorted : (s : Sort) (y z : List ℕ) → sort_of (built (of_list s) (zipped (y ∷ z ∷ []) (of_list s).sorts)) ≡ Some (list_sort s)
cons_sorted s y z = ap (λ b. when (b && b) (list_sort s)) (same_sort_self s)

node_sorted : (s : Sort) (x y z : List ℕ) → sort_of (built (of_tree s) (zipped (x ∷ y ∷ z ∷ []) (of_tree s).sorts)) ≡ Some (tree_sort s)
node_sorted s x y z = ap (λ b. when (b && (b && b)) (tree_sort s)) (same_sort_self s)

pub list_is : (s : Sort) → AreOf (list_sort s) (of_list s)
list_is s = record {
  empty = refl;
  sorted = λ names e. let p = two names e in subst (λ ns. sort_of (built (of_list s) (zipped ns (of_list s).sorts)) ≡ Some (list_sort s)) (sym p.are) (cons_sorted s p.first p.second);
  fitting = λ names e. let p = two names e in subst (λ ns. fits (built (of_list s) (zipped ns (of_list s).sorts)) ≡ true) (sym p.are) refl;
}

pub tree_is : (s : Sort) → AreOf (tree_sort s) (of_tree s)
tree_is s = record {
  empty = refl;
  sorted = λ names e. let p = three names e in subst (λ ns. sort_of (built (of_tree s) (zipped ns (of_tree s).sorts)) ≡ Some (tree_sort s)) (sym p.are) (node_sorted s p.first p.second p.third);
  fitting = λ names e. let p = three names e in subst (λ ns. fits (built (of_tree s) (zipped ns (of_tree s).sorts)) ≡ true) (sym p.are) refl;
}

-- what a sort of lists or trees has
pub data Built (sort : Sort) (c : Constructors) : Type 0 where
  lists : (s : Sort) → sort ≡ list_sort s → c ≡ of_list s → Built sort c
  trees : (s : Sort) → sort ≡ tree_sort s → c ≡ of_tree s → Built sort c

pub built_by : (sort : Sort) (c : Constructors) → constructors_of sort ≡ Some c → Built sort c
built_by (ListOf' p (more_of-Sort s end_of-Sort)) c e = lists s refl cc
built_by (TreeOf' p (more_of-Sort s end_of-Sort)) c e = trees s refl cc
built_by sort c e = absurd cc

pub are_of : (sort : Sort) (c : Constructors) → constructors_of sort ≡ Some c → AreOf sort c
are_of sort c e = by (built_by sort c e)
  where
    by : Built sort c → AreOf sort c
    by (lists s i k) = subst (λ r. AreOf r c) (sym i) (subst (AreOf (list_sort s)) (sym k) (list_is s))
    by (trees s i k) = subst (λ r. AreOf r c) (sym i) (subst (AreOf (tree_sort s)) (sym k) (tree_is s))
