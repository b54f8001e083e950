-- Distinct variables have distinct places.
use Rattle.std.proofs.Common.{append_assoc, ◌≡◌, ℕ, ◌+◌, ◌<◌, ◌≤◌, ◌^◌, Bool, true, false, not, ◌||◌, List, [], ◌∷◌, ◌++◌, length, cond, refl, sym, ◌∙◌, ap, arith, decimal, codes, if◌then◌else◌, true≢false, bytes_eq}
use Rattle.std.specs.Prelude.{◌==◌, count_by}
use Rattle.std.specs.List.{list_all}
use Rattle.std.proofs.lemmas.Bool.{and_parts, eqb-true, eq-eqb}
use Rattle.std.proofs.lemmas.List.Sums.{sum_by-cons, count_by-le-length}
use Rattle.std.proofs.lemmas.Fmt.{decimal_injective}
use Rattle.std.proofs.lemmas.Slice.Eq.{bytes_eq-Decides}
use Rattle.floyd_clight.specs.declared.syntax.Binding.{Binding}
use Rattle.floyd_clight.specs.declared.syntax.Binding.TheVariants.{Block, File}
use Rattle.floyd_elab_expressions.specs.Clight.{kth_name}
use Rattle.floyd_elab_statements.specs.Locals.{name_among}
use Rattle.floyd_elab_laws.specs.Laws.{has_mark}
use Rattle.floyd_elab_laws.specs.Places.{Seen, OfFile, Own, place, IsSeen}

tail : {A : Type 0} → List A → List A
tail [] = []
tail (a ∷ rest) = rest

head : {A : Type 0} → A → List A → A
head a [] = a
head a (b ∷ rest) = b

both_false : (a b : Bool) → (a || b) ≡ false → (a ≡ false) × (b ≡ false)
both_false true b h = absurd (true≢false h)
both_false false b h = (refl, h)

-- a name with a mark behind it
marked_behind : (x more : List ℕ) → has_mark (x ++ 39 ∷ more) ≡ true
marked_behind [] more = refl
marked_behind (a ∷ rest) more = ap (λ b. (a == 39) || b) (marked_behind rest more) ∙ by (a == 39)
  where
    by : (b : Bool) → (b || true) ≡ true
    by true = refl
    by false = refl

-- what stands before the first mark, and behind two
same_parts : (x y ds es : List ℕ) → has_mark x ≡ false → has_mark y ≡ false → x ++ 39 ∷ 39 ∷ ds ≡ y ++ 39 ∷ 39 ∷ es → (x ≡ y) × (ds ≡ es)
unfolding tail head
same_parts [] [] ds es h g e = (refl, ap (λ l. tail (tail l)) e)
same_parts [] (b ∷ bs) ds es h g e =
    let first : 39 ≡ b = ap (head 0) e in
    absurd (true≢false (sym (eq-eqb b 39 (sym first)) ∙ (both_false (b == 39) (has_mark bs) g).0))
same_parts (a ∷ as_) [] ds es h g e =
    let first : a ≡ 39 = ap (head 0) e in
    absurd (true≢false (sym (eq-eqb a 39 first) ∙ (both_false (a == 39) (has_mark as_) h).0))
same_parts (a ∷ as_) (b ∷ bs) ds es h g e =
    let rest = same_parts as_ bs ds es (both_false (a == 39) (has_mark as_) h).1 (both_false (b == 39) (has_mark bs) g).1 (ap tail e) in
    (ap (λ c. c ∷ as_) (ap (head 0) e) ∙ ap (λ l. b ∷ l) rest.0, rest.1)

-- no more are counted than there are
counted : (x : List ℕ) (names : List (List ℕ)) → count_by (bytes_eq x) names ≤ length names
counted x names = count_by-le-length (bytes_eq x) names

marks : (k : ℕ) → codes "''" ++ decimal k ≡ 39 ∷ 39 ∷ decimal k
marks k = refl

kth_is : (x : List ℕ) (k : ℕ) → kth_name x k ≡ x ++ 39 ∷ 39 ∷ decimal k
kth_is x k = append_assoc x (codes "''") (decimal k) ∙ ap (λ l. x ++ l) (marks k)

kth_marked : (x : List ℕ) (k : ℕ) → has_mark (kth_name x k) ≡ true
kth_marked x k = ap has_mark (kth_is x k) ∙ marked_behind x (39 ∷ decimal k)

abbrev pub named : Bool → List ℕ → ℕ → List ℕ
named first x n = if first then x else kth_name x (n + 1)

is_zero : (n : ℕ) → (n == 0) ≡ true → n ≡ 0
is_zero n h = eqb-true n 0 h

-- one name of Clight is of one name of C, declared as often before
same_names : (x y : List ℕ) (m n : ℕ) → has_mark x ≡ false → has_mark y ≡ false → m + 1 < 2 ^ 64 → n + 1 < 2 ^ 64 → named (m == 0) x m ≡ named (n == 0) y n → (x ≡ y) × (m ≡ n)
same_names x y m n h g k l = by (m == 0) (n == 0) refl refl
  where
    by : (a b : Bool) → (m == 0) ≡ a → (n == 0) ≡ b → named a x m ≡ named b y n → (x ≡ y) × (m ≡ n)
    by true true p q e = (e, is_zero m p ∙ sym (is_zero n q))
    by true false p q e =
        let found : x ≡ kth_name y (n + 1) = e in
        absurd (true≢false (sym (kth_marked y (n + 1)) ∙ ap has_mark (sym found) ∙ h))
    by false true p q e =
        let found : kth_name x (m + 1) ≡ y = e in
        absurd (true≢false (sym (kth_marked x (m + 1)) ∙ ap has_mark found ∙ g))
    by false false p q e =
        let found : kth_name x (m + 1) ≡ kth_name y (n + 1) = e in
        let parts = same_parts x y (decimal (m + 1)) (decimal (n + 1)) h g (sym (kth_is x (m + 1)) ∙ found ∙ kth_is y (n + 1)) in
        let same : m + 1 ≡ n + 1 = decimal_injective (m + 1) (n + 1) k l parts.1 in
        (parts.0, omega (arith, same))

self_equal : (x : List ℕ) → bytes_eq x x ≡ true
self_equal x = (bytes_eq-Decides x x).1 refl

one_more : (x y : List ℕ) (ys : List (List ℕ)) → x ≡ y → count_by (bytes_eq x) (y ∷ ys) ≡ 1 + count_by (bytes_eq x) ys
one_more x y ys e =
    sum_by-cons (λ z. cond (bytes_eq x z) 1 0) y ys
    ∙ ap (λ c. cond c 1 0 + count_by (bytes_eq x) ys) (ap (bytes_eq x) (sym e) ∙ self_equal x)

-- a name that stands in two places of a list was there before a different number of times
same_before : (x : List ℕ) (before other rest more : List (List ℕ)) → before ++ x ∷ rest ≡ other ++ x ∷ more → count_by (bytes_eq x) before ≡ count_by (bytes_eq x) other → before ≡ other
unfolding tail head
same_before x [] [] rest more e c = refl
same_before x [] (b ∷ bs) rest more e c = let one = one_more x b bs (ap (head []) e) in absurd (omega (arith, c, one))
same_before x (a ∷ as_) [] rest more e c = let one = one_more x a as_ (sym (ap (head []) e)) in absurd (omega (arith, c, one))
same_before x (a ∷ as_) (b ∷ bs) rest more e c =
    let first : a ≡ b = ap (head []) e in
    let weigh : ◌≡◌ {A = ℕ} (cond (bytes_eq x a) 1 0) (cond (bytes_eq x b) 1 0) = ap (λ z. cond (bytes_eq x z) 1 0) first in
    let one : count_by (bytes_eq x) (a ∷ as_) ≡ cond (bytes_eq x a) 1 0 + count_by (bytes_eq x) as_ = sum_by-cons (λ z. cond (bytes_eq x z) 1 0) a as_ in
    let two : count_by (bytes_eq x) (b ∷ bs) ≡ cond (bytes_eq x b) 1 0 + count_by (bytes_eq x) bs = sum_by-cons (λ z. cond (bytes_eq x z) 1 0) b bs in
    ap (λ z. z ∷ as_) first ∙ ap (λ l. b ∷ l) (same_before x as_ bs rest more (ap tail e) (omega (arith, c, weigh, one, two)))

-- a name in a list of names without marks
abbrev are_plain : List (List ℕ) → Bool
are_plain names = list_all (λ x. not (has_mark x)) names

not_true : (b : Bool) → not b ≡ true → b ≡ false
not_true true h = absurd (true≢false (sym h))
not_true false h = refl

plain_in : (before : List (List ℕ)) (x : List ℕ) (rest : List (List ℕ)) → are_plain (before ++ x ∷ rest) ≡ true → has_mark x ≡ false
plain_in [] x rest h = not_true (has_mark x) (and_parts (not (has_mark x)) (are_plain rest) h).0
plain_in (b ∷ bs) x rest h = plain_in bs x rest (and_parts (not (has_mark b)) (are_plain (bs ++ x ∷ rest)) h).1

longer : (before : List (List ℕ)) (x : List ℕ) (rest : List (List ℕ)) → length before + 1 ≤ length (before ++ x ∷ rest)
longer [] x rest = omega arith
longer (b ∷ bs) x rest = omega (arith, longer bs x rest)

is_file : Binding → Bool
is_file File = true
is_file Block = false

pub places_distinct : (names : List (List ℕ)) (v w : Seen) → list_all (λ x. not (has_mark x)) names ≡ true → length names < 2 ^ 64 → IsSeen names v → IsSeen names w → place v ≡ place w → v ≡ w
unfolding is_file
places_distinct names (OfFile x) (OfFile y) plain few v w e = ap (λ (p : Binding × List ℕ). OfFile p.1) e
places_distinct names (OfFile x) (Own other y) plain few v w e = absurd (true≢false (ap (λ (p : Binding × List ℕ). is_file p.0) e))
places_distinct names (Own before x) (OfFile y) plain few v w e = absurd (true≢false (sym (ap (λ (p : Binding × List ℕ). is_file p.0) e)))
places_distinct names (Own before x) (Own other y) plain few (rest, h) (more, g) e =
    let name : name_among before x ≡ name_among other y = ap (λ (p : Binding × List ℕ). p.1) e in
    let few_before : length before + 1 < 2 ^ 64 = omega (arith, few, longer before x rest, ap length h) in
    let few_other : length other + 1 < 2 ^ 64 = omega (arith, few, longer other y more, ap length g) in
    let parts =
    same_names x y (count_by (bytes_eq x) before) (count_by (bytes_eq y) other)
    (plain_in before x rest (ap are_plain (sym h) ∙ plain)) (plain_in other y more (ap are_plain (sym g) ∙ plain))
    (omega (arith, few_before, counted x before)) (omega (arith, few_other, counted y other)) name in
    let same : before ≡ other =
    same_before x before other rest more (sym h ∙ g ∙ ap (λ z. other ++ z ∷ more) (sym parts.0)) (parts.1 ∙ ap (λ z. count_by (bytes_eq z) other) (sym parts.0)) in
    ap (λ b. Own b x) same ∙ ap (λ z. Own other z) parts.0
