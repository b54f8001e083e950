-- Parts after changes, by their terms.
use Rattle.std.proofs.Common.{◌≡◌, ℕ, zero, suc, ◌+◌, ◌-◌, ◌<◌, ◌≤◌, Bool, true, false, ◌&&◌, List, [], ◌∷◌, ◌++◌, length, get_or, drop, take, map, Some, refl, sym, ◌∙◌, ap, subst, append_assoc, arith}
use Rattle.std.specs.Prelude.{slice_get}
use Rattle.std.specs.List.{flat_map, list_all}
use Rattle.std.proofs.Math.Bool.{and_assoc}
use Rattle.std.proofs.lemmas.List.{map-append}
use Rattle.floyd_tree.specs.declared.paths.PathStep.{PathStep}
use Rattle.floyd_tree.specs.declared.paths.PathStep.TheVariants.{Field, Subscript}
use Rattle.floyd_tree.specs.Made.{fits}
use Rattle.floyd_tree.specs.Plain.{Plain, plains}
use Rattle.floyd_truth.specs.Capture.{Changes}
use Rattle.floyd_truth.specs.Replace.{AllSortsAgree, SortsAgree, replaced}
use Rattle.floyd_assert_trees.specs.declared.sep.Region.{Region}
use Rattle.floyd_assert_trees.specs.declared.sep.Sep.{Sep}
use Rattle.floyd_assert_trees.specs.declared.sep.Sep.TheVariants.{FieldAt, Padding, Valid, Anything, Predicate}
use Rattle.floyd_assert_changes.specs.Changed.{part_after, part_terms, parts_fit, region_after, region_terms, step_after, step_terms}
use Rattle.floyd_assert_changes.specs.FittingClauses.{fit_after}

-- sorts of a front, and of the rest
pub agree_append : (ch : Changes) (xs ys : List Plain) → AllSortsAgree ch (plains (xs ++ ys)) → AllSortsAgree ch (plains xs) × AllSortsAgree ch (plains ys)
agree_append ch [] ys h = (tt, h)
agree_append ch (x ∷ xs) ys h = let p = agree_append ch xs ys h.1 in ((h.0, p.0), p.1)

pub agree_in : {X : Type 0} (ch : Changes) (terms : X → List Plain) (xs : List X) (i : ℕ) (x : X) → slice_get xs i ≡ Some x → AllSortsAgree ch (plains (flat_map terms xs)) → AllSortsAgree ch (plains (terms x))
agree_in ch terms [] i x e h = absurd cc
agree_in ch terms (y ∷ ys) zero x e h =
    let same : y ≡ x = cc in
    subst (λ z. AllSortsAgree ch (plains (terms z))) same (agree_append ch (terms y) (flat_map terms ys) h).0
agree_in ch terms (y ∷ ys) (suc i) x e h = agree_in ch terms ys i x e (agree_append ch (terms y) (flat_map terms ys) h).1

pub agree_item : {X : Type 0} (ch : Changes) (terms : X → List Plain) (xs : List X) (i : ℕ) (d : X) → i < length xs → AllSortsAgree ch (plains (flat_map terms xs)) → AllSortsAgree ch (plains (terms (get_or xs i d)))
agree_item ch terms [] i d l h = absurd (omega arith)
agree_item ch terms (y ∷ ys) zero d l h = (agree_append ch (terms y) (flat_map terms ys) h).0
agree_item ch terms (y ∷ ys) (suc i) d l h = agree_item ch terms ys i d (omega arith) (agree_append ch (terms y) (flat_map terms ys) h).1

-- what is left from a place on, and what is before the next one
pub left_at : {X : Type 0} (xs : List X) (i j : ℕ) (x : X) → j ≡ i + 1 → slice_get xs i ≡ Some x → drop i xs ≡ x ∷ drop j xs
left_at xs i zero x n e = absurd (omega arith)
left_at [] zero (suc j) x n e = absurd cc
left_at [] (suc i) (suc j) x n e = absurd cc
left_at (y ∷ xs) zero (suc zero) x n e = ap (λ z. z ∷ xs) (let same : y ≡ x = cc in same)
left_at (y ∷ xs) zero (suc (suc j)) x n e = absurd (omega arith)
left_at (y ∷ xs) (suc i) (suc j) x n e = left_at xs i j x (omega arith) e

pub taken_at : {X : Type 0} (xs : List X) (i j : ℕ) (x : X) → j ≡ i + 1 → slice_get xs i ≡ Some x → take j xs ≡ take i xs ++ x ∷ []
taken_at xs i zero x n e = absurd (omega arith)
taken_at [] zero (suc j) x n e = absurd cc
taken_at [] (suc i) (suc j) x n e = absurd cc
taken_at (y ∷ xs) zero (suc zero) x n e = ap (λ z. z ∷ []) (let same : y ≡ x = cc in same)
taken_at (y ∷ xs) zero (suc (suc j)) x n e = absurd (omega arith)
taken_at (y ∷ xs) (suc i) (suc j) x n e = ap (λ zs. y ∷ zs) (taken_at xs i j x (omega arith) e)

-- whether a front fits, and the rest
pub fit_append : (ch : Changes) (xs ys : List Plain) → fit_after ch (xs ++ ys) ≡ (fit_after ch xs && fit_after ch ys)
fit_append ch [] ys = refl
fit_append ch (x ∷ xs) ys =
    ap (λ b. fits (replaced ch x) && b) (fit_append ch xs ys) ∙ sym (and_assoc (fits (replaced ch x)) (fit_after ch xs) (fit_after ch ys))

and_false : (a b : Bool) → b ≡ false → (a && b) ≡ false
and_false true b h = h
and_false false b h = refl

pub front_unfit : (ch : Changes) (xs ys : List Plain) → fit_after ch xs ≡ false → fit_after ch (xs ++ ys) ≡ false
front_unfit ch xs ys h = fit_append ch xs ys ∙ ap (λ b. b && fit_after ch ys) h

pub rest_unfit : (ch : Changes) (xs ys : List Plain) → fit_after ch ys ≡ false → fit_after ch (xs ++ ys) ≡ false
rest_unfit ch xs ys h = fit_append ch xs ys ∙ and_false (fit_after ch xs) (fit_after ch ys) h

pub front_fit : (ch : Changes) (xs ys : List Plain) → fit_after ch xs ≡ true → fit_after ch (xs ++ ys) ≡ fit_after ch ys
front_fit ch xs ys h = fit_append ch xs ys ∙ ap (λ b. b && fit_after ch ys) h

pub one_fit : (ch : Changes) (t : Plain) (b : Bool) → fits (replaced ch t) ≡ b → fit_after ch (t ∷ []) ≡ b
one_fit ch t true h = ap (λ b. b && true) h
one_fit ch t false h = ap (λ b. b && true) h

-- of a region
pub unfit_share : (ch : Changes) (r : Region) → fits (replaced ch r.share) ≡ false → fit_after ch (region_terms r) ≡ false
unfit_share ch r h = ap (λ b. b && fit_after ch (r.ty.sizes ++ (flat_map step_terms r.path ++ r.root ∷ []))) h

pub unfit_sizes : (ch : Changes) (r : Region) → fit_after ch r.ty.sizes ≡ false → fit_after ch (region_terms r) ≡ false
unfit_sizes ch r h = rest_unfit ch (r.share ∷ []) (r.ty.sizes ++ (flat_map step_terms r.path ++ r.root ∷ [])) (front_unfit ch r.ty.sizes (flat_map step_terms r.path ++ r.root ∷ []) h)

pub unfit_path : (ch : Changes) (r : Region) → fit_after ch (flat_map step_terms r.path) ≡ false → fit_after ch (region_terms r) ≡ false
unfit_path ch r h = rest_unfit ch (r.share ∷ r.ty.sizes) (flat_map step_terms r.path ++ r.root ∷ []) (front_unfit ch (flat_map step_terms r.path) (r.root ∷ []) h)

pub unfit_root : (ch : Changes) (r : Region) → fits (replaced ch r.root) ≡ false → fit_after ch (region_terms r) ≡ false
unfit_root ch r h = rest_unfit ch (r.share ∷ r.ty.sizes) (flat_map step_terms r.path ++ r.root ∷ []) (rest_unfit ch (flat_map step_terms r.path) (r.root ∷ []) (one_fit ch r.root false h))

pub region_fits : (ch : Changes) (r : Region) → fits (replaced ch r.share) ≡ true → fit_after ch r.ty.sizes ≡ true → fit_after ch (flat_map step_terms r.path) ≡ true → fits (replaced ch r.root) ≡ true → fit_after ch (region_terms r) ≡ true
region_fits ch r s z p o =
    front_fit ch (r.share ∷ []) (r.ty.sizes ++ (flat_map step_terms r.path ++ r.root ∷ [])) (one_fit ch r.share true s)
    ∙ front_fit ch r.ty.sizes (flat_map step_terms r.path ++ r.root ∷ []) z
    ∙ front_fit ch (flat_map step_terms r.path) (r.root ∷ []) p
    ∙ one_fit ch r.root true o

-- the sorts of a region's terms
pub agree_share : (ch : Changes) (r : Region) → AllSortsAgree ch (plains (region_terms r)) → SortsAgree ch r.share
agree_share ch r h = h.0

pub agree_sizes : (ch : Changes) (r : Region) → AllSortsAgree ch (plains (region_terms r)) → AllSortsAgree ch (plains r.ty.sizes)
agree_sizes ch r h = (agree_append ch r.ty.sizes (flat_map step_terms r.path ++ r.root ∷ []) h.1).0

pub agree_path : (ch : Changes) (r : Region) → AllSortsAgree ch (plains (region_terms r)) → AllSortsAgree ch (plains (flat_map step_terms r.path))
agree_path ch r h = (agree_append ch (flat_map step_terms r.path) (r.root ∷ []) (agree_append ch r.ty.sizes (flat_map step_terms r.path ++ r.root ∷ []) h.1).1).0

pub agree_root : (ch : Changes) (r : Region) → AllSortsAgree ch (plains (region_terms r)) → SortsAgree ch r.root
agree_root ch r h = (agree_append ch (flat_map step_terms r.path) (r.root ∷ []) (agree_append ch r.ty.sizes (flat_map step_terms r.path ++ r.root ∷ []) h.1).1).1.0

-- the terms after changes are the terms, each after the changes
step_terms_after : (ch : Changes) (s : PathStep) → step_terms (step_after ch s) ≡ map (replaced ch) (step_terms s)
step_terms_after ch (Field name) = refl
step_terms_after ch (Subscript t) = refl

path_terms_after : (ch : Changes) (path : List PathStep) → flat_map step_terms (map (step_after ch) path) ≡ map (replaced ch) (flat_map step_terms path)
path_terms_after ch [] = refl
path_terms_after ch (s ∷ path) =
    ap (λ ts. ts ++ flat_map step_terms (map (step_after ch) path)) (step_terms_after ch s)
    ∙ ap (λ ts. map (replaced ch) (step_terms s) ++ ts) (path_terms_after ch path)
    ∙ sym (map-append (replaced ch) (step_terms s) (flat_map step_terms path))

region_terms_after : (ch : Changes) (r : Region) → region_terms (region_after ch r) ≡ map (replaced ch) (region_terms r)
region_terms_after ch r =
    ap (λ ts. replaced ch r.share ∷ map (replaced ch) r.ty.sizes ++ (ts ++ replaced ch r.root ∷ [])) (path_terms_after ch r.path)
    ∙ ap (λ ts. replaced ch r.share ∷ map (replaced ch) r.ty.sizes ++ ts) (sym (map-append (replaced ch) (flat_map step_terms r.path) (r.root ∷ [])))
    ∙ ap (λ ts. replaced ch r.share ∷ ts) (sym (map-append (replaced ch) r.ty.sizes (flat_map step_terms r.path ++ r.root ∷ [])))

part_terms_after : (ch : Changes) (part : Sep) → part_terms (part_after ch part) ≡ map (replaced ch) (part_terms part)
part_terms_after ch (FieldAt r value) =
    ap (λ ts. ts ++ replaced ch value ∷ []) (region_terms_after ch r) ∙ sym (map-append (replaced ch) (region_terms r) (value ∷ []))
part_terms_after ch (Padding r) = region_terms_after ch r
part_terms_after ch (Valid address) = refl
part_terms_after ch Anything = refl
part_terms_after ch (Predicate name terms) = refl

pub parts_terms_after : (ch : Changes) (parts : List Sep) → flat_map part_terms (map (part_after ch) parts) ≡ map (replaced ch) (flat_map part_terms parts)
parts_terms_after ch [] = refl
parts_terms_after ch (p ∷ parts) =
    ap (λ ts. ts ++ flat_map part_terms (map (part_after ch) parts)) (part_terms_after ch p)
    ∙ ap (λ ts. map (replaced ch) (part_terms p) ++ ts) (parts_terms_after ch parts)
    ∙ sym (map-append (replaced ch) (part_terms p) (flat_map part_terms parts))

pub parts_fit_after : (ch : Changes) (parts : List Sep) → parts_fit (map (part_after ch) parts) ≡ fit_after ch (flat_map part_terms parts)
parts_fit_after ch parts = ap (list_all fits) (parts_terms_after ch parts)

-- one more of a list is done
pub taken_more : {X Y : Type 0} (f : X → Y) (xs : List X) (i j : ℕ) (x : X) (y : Y) (done : List Y) → j ≡ i + 1 → slice_get xs i ≡ Some x → done ≡ map f (take i xs) → y ≡ f x → done ++ y ∷ [] ≡ map f (take j xs)
taken_more f xs i j x y done n e h k =
    ap (λ ys. ys ++ y ∷ []) h
    ∙ ap (λ z. map f (take i xs) ++ z ∷ []) k
    ∙ sym (map-append f (take i xs) (x ∷ []))
    ∙ ap (map f) (sym (taken_at xs i j x n e))

pub fit_left : {X : Type 0} (ch : Changes) (terms : X → List Plain) (xs : List X) (i j : ℕ) (x : X) → j ≡ i + 1 → slice_get xs i ≡ Some x → fit_after ch (terms x) ≡ true → fit_after ch (flat_map terms (drop j xs)) ≡ fit_after ch (flat_map terms (drop i xs))
fit_left ch terms xs i j x n e h =
    sym (ap (λ ys. fit_after ch (flat_map terms ys)) (left_at xs i j x n e) ∙ front_fit ch (terms x) (flat_map terms (drop j xs)) h)

pub unfit_left : {X : Type 0} (ch : Changes) (terms : X → List Plain) (xs : List X) (i : ℕ) (x : X) → slice_get xs i ≡ Some x → fit_after ch (terms x) ≡ false → fit_after ch (flat_map terms (drop i xs)) ≡ false
unfit_left ch terms xs i x e h =
    ap (λ ys. fit_after ch (flat_map terms ys)) (left_at xs i (i + 1) x refl e) ∙ front_unfit ch (terms x) (flat_map terms (drop (i + 1) xs)) h

-- the same of an item that a loop has
pub item_there : {X : Type 0} (xs : List X) (i : ℕ) (x : X) → i < length xs → x ≡ get_or xs i x → slice_get xs i ≡ Some x
item_there [] i x l e = absurd (omega arith)
item_there (y ∷ xs) zero x l e = ap Some (sym e)
item_there (y ∷ xs) (suc i) x l e = item_there xs i x (omega arith) e

-- what is taken of the rest is all of it
whole_taken : {X : Type 0} (n : ℕ) (xs : List X) → length xs ≤ n → take n xs ≡ xs
whole_taken zero [] l = refl
whole_taken zero (x ∷ xs) l = absurd (omega arith)
whole_taken (suc n) [] l = refl
whole_taken (suc n) (x ∷ xs) l = ap (λ ys. x ∷ ys) (whole_taken n xs (omega arith))

rest_short : {X : Type 0} (xs : List X) (j : ℕ) → length (drop j xs) ≤ length xs - j
rest_short [] zero = omega arith
rest_short [] (suc j) = omega arith
rest_short (x ∷ xs) zero = omega arith
rest_short (x ∷ xs) (suc j) = omega (arith, rest_short xs j)

pub rest_taken : {X : Type 0} (xs : List X) (j : ℕ) → take (length xs - j) (drop j xs) ≡ drop j xs
rest_taken xs j = whole_taken (length xs - j) (drop j xs) (rest_short xs j)

-- the terms of one more step are there
pub pushed_step : (path : List PathStep) (i : ℕ) (s : PathStep) (done all : List Plain) → slice_get path i ≡ Some s → all ≡ done ++ step_terms s → all ++ flat_map step_terms (drop (i + 1) path) ≡ done ++ flat_map step_terms (drop i path)
pushed_step path i s done all e h =
    ap (λ ts. ts ++ flat_map step_terms (drop (i + 1) path)) h
    ∙ append_assoc done (step_terms s) (flat_map step_terms (drop (i + 1) path))
    ∙ ap (λ p. done ++ flat_map step_terms p) (sym (left_at path i (i + 1) s refl e))
