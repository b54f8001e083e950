-- The sorts that an operator of a row takes are those that the row writes.
use Rattle.std.proofs.Common.{◌≡◌, Bool, true, false, ◌&&◌, refl, ap, ap₂, List, [], ◌∷◌, map, Some}
use Rattle.floyd_tree_sorts.specs.declared.sorts.Sort.{Sort}
use Rattle.floyd_tree_sorts.specs.declared.operators.Arguments.{Arguments}
use Rattle.floyd_tree_sorts.specs.declared.operators.Arguments.TheVariants.{Nothing, One, Two, Three}
use Rattle.floyd_tree_sorts.specs.declared.operators.Row.{Row}
use Rattle.floyd_tree_sorts.specs.Sorts.{same_sort}
use Rattle.floyd_tree_sorts.specs.Table.{by_row, fit, forms, found, s_in, t_in, when, written}
use Rattle.floyd_tree_sorts.proofs.SortLemmas.{both_true, same_sort_true}

pub fit_true : (s t : Sort) (takes : Arguments) (sorts : List Sort) → fit s t takes sorts ≡ true → map (written s t) (forms takes) ≡ sorts
fit_true s t Nothing [] e = refl
fit_true s t (One p) (a ∷ []) e = ap (λ x. x ∷ []) (same_sort_true (written s t p) a e)
fit_true s t (Two p q) (a ∷ b ∷ []) e =
    let k = both_true (same_sort (written s t p) a) (same_sort (written s t q) b) e in
    ap₂ (λ x y. x ∷ y ∷ []) (same_sort_true (written s t p) a k.0) (same_sort_true (written s t q) b k.1)
fit_true s t (Three p q o) (a ∷ b ∷ c ∷ []) e =
    let k = both_true (same_sort (written s t p) a) (same_sort (written s t q) b && same_sort (written s t o) c) e in
    let l = both_true (same_sort (written s t q) b) (same_sort (written s t o) c) k.1 in
    ap₂ (λ x y. x ∷ y) (same_sort_true (written s t p) a k.0)
    (ap₂ (λ x y. x ∷ y ∷ []) (same_sort_true (written s t q) b l.0) (same_sort_true (written s t o) c l.1))
fit_true s t takes sorts e = absurd cc

when_gives : (test : Bool) (a s : Sort) → when test a ≡ Some s → (test ≡ true) × (a ≡ s)
when_gives true a s e = (refl, cc)
when_gives false a s e = absurd cc

-- where a row gives a sort, the arguments are what it writes for some S and T, and so is the result
pub row_taken : (own : Row) (sorts : List Sort) (r : Sort) → by_row own sorts ≡ Some r → (s : Sort) × (t : Sort) × (map (written s t) (forms own.takes) ≡ sorts) × (written s t own.gives ≡ r)
row_taken own sorts r e =
    let s = found s_in (forms own.takes) sorts in
    let t = found t_in (forms own.takes) sorts in
    let k = when_gives (fit s t own.takes sorts) (written s t own.gives) r e in
    (s, t, fit_true s t own.takes sorts k.0, k.1)
