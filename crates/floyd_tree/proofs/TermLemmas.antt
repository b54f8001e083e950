-- The sorts of the kids of a term, and the rows of the sort table.
use Rattle.std.proofs.Common.{◌≡◌, List, [], ◌∷◌, ◌++◌, false, Option, Some, None, refl, ap, sym, ◌∙◌, ◌≤◌, length, arith}
use Rattle.std.specs.Prelude.{option_and_then}
use Rattle.floyd_tree_sorts.specs.declared.operators.Arguments.{Arguments}
use Rattle.floyd_tree_sorts.specs.declared.operators.Arguments.TheVariants.{Nothing, One, Two, Three}
use Rattle.floyd_tree_sorts.specs.declared.operators.Row.{Row}
use Rattle.floyd_tree_sorts.specs.declared.sorts.Sort.{Sort}
use Rattle.floyd_tree.specs.Plain.{Plain, plains}
use Rattle.floyd_tree_sorts.specs.Table.{alone, by_row, fit, forms, found, of_number, s_in, t_in, when, written}
use Rattle.floyd_tree.specs.WellSorted.{sort_of, sorts_of, with_first}

with_first_push : (a s : Sort) (first : Option Sort) (more : Option (List Sort)) (ss : List Sort) → first ≡ Some a → more ≡ Some ss → with_first first more ≡ Some (a ∷ ss)
with_first_push a s first more ss e f = ap (λ x. with_first x more) e ∙ ap (with_first (Some a)) f

with_first_parts : (first : Option Sort) (more : Option (List Sort)) (ss : List Sort) → with_first first more ≡ Some ss → (a : Sort) × ((rest : List Sort) × ((first ≡ Some a) × (more ≡ Some rest) × (ss ≡ a ∷ rest)))
with_first_parts (Some a) (Some rest) ss h = (a, (rest, (refl, refl, cc)))
with_first_parts (Some a) None ss h = absurd cc
with_first_parts None more ss h = absurd cc

pub sorts_of-push : (ts : List Plain) (t : Plain) (ss : List Sort) (s : Sort) → sorts_of (plains ts) ≡ Some ss → sort_of t ≡ Some s → sorts_of (plains (ts ++ t ∷ [])) ≡ Some (ss ++ s ∷ [])
sorts_of-push [] t ss s e f =
    ap (λ x. with_first x (Some [])) f ∙ ap (λ x. Some (x ++ s ∷ [])) (let none : [] ≡ ss = cc in none)
sorts_of-push (x ∷ ts) t ss s e f =
    let p = with_first_parts (sort_of x) (sorts_of (plains ts)) ss e in
    with_first_push p.0 s (sort_of x) (sorts_of (plains (ts ++ t ∷ []))) (p.1.0 ++ s ∷ []) p.1.1.0 (sorts_of-push ts t p.1.0 s p.1.1.1 f)
    ∙ ap (λ x. Some (x ++ s ∷ [])) (sym p.1.1.2)

-- no row takes more than three
fit_many : (s t : Sort) (takes : Arguments) (a b c d : Sort) (more : List Sort) → fit s t takes (a ∷ b ∷ c ∷ d ∷ more) ≡ false
fit_many s t Nothing a b c d more = refl
fit_many s t (One p) a b c d more = refl
fit_many s t (Two p q) a b c d more = refl
fit_many s t (Three p q o) a b c d more = refl

by_row_many : (own : Row) (a b c d : Sort) (more : List Sort) → by_row own (a ∷ b ∷ c ∷ d ∷ more) ≡ None
by_row_many own a b c d more =
    let sorts = a ∷ b ∷ c ∷ d ∷ more in
    let s = found s_in (forms own.takes) sorts in
    let t = found t_in (forms own.takes) sorts in
    ap (λ test. when test (written s t own.gives)) (fit_many s t own.takes a b c d more)

many_sorts : (own : Row) (x y z w : Option Sort) (more : Option (List Sort)) → option_and_then (by_row own) (with_first x (with_first y (with_first z (with_first w more)))) ≡ None
many_sorts own (Some x) (Some y) (Some z) (Some w) (Some more) = by_row_many own x y z w more
many_sorts own x y z w more = refl

pub row_many : (own : Row) (kids : List Plain) → 4 ≤ length kids → option_and_then (by_row own) (sorts_of (plains kids)) ≡ None
row_many own (x ∷ y ∷ z ∷ w ∷ more) l = many_sorts own (sort_of x) (sort_of y) (sort_of z) (sort_of w) (sorts_of (plains more))
row_many own kids l = absurd (omega arith)

some_alone : (s : Sort) (x : Option Sort) (more : Option (List Sort)) → option_and_then (alone s) (with_first x more) ≡ None
some_alone s (Some x) (Some more) = refl
some_alone s x more = refl

pub alone_some : (s : Sort) (kids : List Plain) → 1 ≤ length kids → option_and_then (alone s) (sorts_of (plains kids)) ≡ None
alone_some s (x ∷ more) l = some_alone s (sort_of x) (sorts_of (plains more))
alone_some s kids l = absurd (omega arith)

two_numbers : (x y : Option Sort) (more : Option (List Sort)) → option_and_then of_number (with_first x (with_first y more)) ≡ None
two_numbers (Some x) (Some y) (Some more) = refl
two_numbers x y more = refl

pub number_of_many : (kids : List Plain) → ¬ (length kids ≡ 1) → option_and_then of_number (sorts_of (plains kids)) ≡ None
number_of_many [] n = refl
number_of_many (x ∷ []) n = absurd (n refl)
number_of_many (x ∷ y ∷ more) n = two_numbers (sort_of x) (sort_of y) (sorts_of (plains more))
