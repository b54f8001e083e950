-- Whether terms are of the sorts that a row writes, and what stands for S.
use Rattle.std.proofs.Common.{◌≡◌, ℕ, suc, ◌<◌, ◌≤◌, ◌-◌, refl, ap, ap₂, sym, subst, ◌∙◌, List, [], ◌∷◌, Bool, true, false, ◌&&◌, nat_eq, Option, Some, None, Result, Ok, Err, IfOk, IfSome, length, take, drop, get_or, arith}
use Rattle.std.proofs.lemmas.Bool.Decides.{nat_tests}
use Rattle.std.proofs.lemmas.List.{take_all}
use Rattle.floyd_tree_sorts.specs.declared.operators.Arguments.TheVariants.{One}
use Rattle.floyd_tree_sorts.specs.declared.operators.RowSort.{RowSort}
use Rattle.floyd_tree_sorts.specs.declared.operators.RowSort.TheVariants as r
use Rattle.floyd_tree_sorts.specs.declared.sorts.Sort.{Sort, Z}
use Rattle.floyd_tree_sorts.specs.Sorts.{same_sort}
use Rattle.floyd_tree_sorts.specs.Table.{by_row, found, s_in, when, written}
use Rattle.floyd_tree_sorts.proofs.SortLemmas.{same_sort_self}
use Rattle.floyd_tree.specs.Plain.{Plain, plains}
use Rattle.floyd_tree.specs.WellSorted.{sort_of, sorts_of, with_first}
use Rattle.floyd_listlaw.specs.FittingClauses.{fit_with}

pub if_ok : {T E : Type 0} {P Q : T → Type 0} (r : Result T E) → ((x : T) → P x → Q x) → IfOk r P → IfOk r Q
if_ok (Ok x) f h = f x h
if_ok (Err e) f h = tt

-- a row that takes an S gives what is written
pub taken : (form : RowSort) (s : Sort) → by_row (record { number = 0; takes = One r.S; gives = form }) (s ∷ []) ≡ Some (written s Z form)
taken form s = ap (λ b. when b (written s Z form)) (same_sort_self s)

-- the items after the first, as the program cuts them
abbrev pub tail : {T : Type 0} → List T → List T
tail xs = take (length xs - 1) (drop 1 xs)

parts : {T : Type 0} (xs : List T) (d : T) → 1 ≤ length xs → xs ≡ get_or xs 0 d ∷ tail xs
parts [] d h = absurd (omega (arith, h))
parts (x ∷ xs) d h = ap (λ ys. x ∷ ys) (sym (take_all (suc (length xs) - 1) xs (omega arith)))

-- what stands for S
found_here : (p : RowSort) (ps : List RowSort) (a rest s : Sort) (o : Option Sort) (os : Option (List Sort)) → o ≡ Some a → IfSome os (λ ss. rest ≡ found s_in ps ss) → s ≡ s_in p a rest → IfSome (with_first o os) (λ ss. s ≡ found s_in (p ∷ ps) ss)
found_here p ps a rest s None os e i g = absurd cc
found_here p ps a rest s (Some b) None e i g = tt
found_here p ps a rest s (Some b) (Some ss) e i g =
    let same : a ≡ b = cc in
    g ∙ ap₂ (s_in p) same i

pub found_more : (forms : List RowSort) (d : RowSort) (ts : List Plain) (t : Plain) (a rest s : Sort) → 1 ≤ length forms → 1 ≤ length ts → t ≡ get_or ts 0 t → sort_of t ≡ Some a → IfSome (sorts_of (plains (tail ts))) (λ ss. rest ≡ found s_in (tail forms) ss) → s ≡ s_in (get_or forms 0 d) a rest → IfSome (sorts_of (plains ts)) (λ ss. s ≡ found s_in forms ss)
found_more forms d ts t a rest s h k i e r g =
    subst (λ fs. IfSome (sorts_of (plains ts)) (λ ss. s ≡ found s_in fs ss)) (sym (parts forms d h))
    (subst (λ us. IfSome (sorts_of (plains us)) (λ ss. s ≡ found s_in (get_or forms 0 d ∷ tail forms) ss)) (sym (parts ts t k))
    (found_here (get_or forms 0 d) (tail forms) a rest s (sort_of (get_or ts 0 t)) (sorts_of (plains (tail ts))) (ap sort_of (sym i) ∙ e) r g))

-- whether the sorts are those that are written
some_left : (s : Sort) (o : Option Sort) (os : Option (List Sort)) → false ≡ fit_with s [] (with_first o os)
some_left s (Some a) (Some ss) = refl
some_left s (Some a) None = refl
some_left s None os = refl

more_than_none : (n : ℕ) → nat_eq (suc n) 0 ≡ false
more_than_none n = grind (arith, nat_tests)

pub fit_none : (s : Sort) (forms : List RowSort) (ts : List Plain) → length forms < 1 → nat_eq (length ts) 0 ≡ fit_with s forms (sorts_of (plains ts))
fit_none s [] [] h = refl
fit_none s [] (t ∷ ts) h = more_than_none (length ts) ∙ some_left s (sort_of t) (sorts_of (plains ts))
fit_none s (form ∷ forms) ts h = absurd (omega (arith, h))

and_false : (b y : Bool) → y ≡ false → (b && y) ≡ false
and_false true y e = e
and_false false y e = refl

fit_here : (s : Sort) (p : RowSort) (ps : List RowSort) (a : Sort) (b y : Bool) (o : Option Sort) (os : Option (List Sort)) → o ≡ Some a → b ≡ same_sort (written s Z p) a → y ≡ fit_with s ps os → (b && y) ≡ fit_with s (p ∷ ps) (with_first o os)
fit_here s p ps a b y None os e f g = absurd cc
fit_here s p ps a b y (Some c) None e f g = and_false b y g
fit_here s p ps a b y (Some c) (Some ss) e f g =
    let same : a ≡ c = cc in
    ap₂ (λ u v. u && v) (f ∙ ap (same_sort (written s Z p)) same) g

pub fit_more : (s : Sort) (forms : List RowSort) (d : RowSort) (ts : List Plain) (t : Plain) (a w : Sort) (b y : Bool) → 1 ≤ length forms → 1 ≤ length ts → t ≡ get_or ts 0 t → sort_of t ≡ Some a → w ≡ written s Z (get_or forms 0 d) → b ≡ same_sort w a → y ≡ fit_with s (tail forms) (sorts_of (plains (tail ts))) → (b && y) ≡ fit_with s forms (sorts_of (plains ts))
fit_more s forms d ts t a w b y h k i e v f g =
    fit_here s (get_or forms 0 d) (tail forms) a b y (sort_of (get_or ts 0 t)) (sorts_of (plains (tail ts))) (ap sort_of (sym i) ∙ e) (f ∙ ap (λ u. same_sort u a) v) g
    ∙ ap (λ us. fit_with s (get_or forms 0 d ∷ tail forms) (sorts_of (plains us))) (sym (parts ts t k))
    ∙ ap (λ fs. fit_with s fs (sorts_of (plains ts))) (sym (parts forms d h))
