-- The items of a list, as the program takes them.
use Rattle.std.proofs.Common.{◌≡◌, ◌<◌, Bool, true, false, List, [], ◌∷◌, ◌++◌, Option, Some, None, Result, Ok, Err, IfOk, refl, sym, ap, subst, ◌∙◌, arith, append_assoc}
use Rattle.std.specs.Prelude.{if◌then◌else◌, option_map}
use Rattle.std.proofs.lemmas.List.{append-nil}
use Rattle.floyd_tree_sorts.specs.declared.heads.Head.TheVariants as h
use Rattle.floyd_tree_sorts.specs.declared.operators.Operator.TheVariants.{Cons}
use Rattle.floyd_tree.specs.Plain.{Plain, At, Done, More, height}
use Rattle.floyd_simplifying.specs.ListClauses.{is_nil, parts, pushed}
use Rattle.floyd_simplifying.specs.WrittenLists.{before, end_of, items_of}

abbrev some_pair : Plain → Plain → Option (Plain × Plain)
some_pair a b = Some (a, b)

pair_is : (x y a b : Plain) → some_pair a b ≡ some_pair x y → (x ≡ a) × (y ≡ b)
pair_is x y a b e =
    let p : ◌≡◌ {A = Plain × Plain} (a, b) (x, y) = cc in
    (sym (ap (λ (q : Plain × Plain). q.0) p), sym (ap (λ (q : Plain × Plain). q.1) p))

items_more : (t a b : Plain) → some_pair a b ≡ parts t → items_of t ≡ before a (items_of b)
items_more (At (h.Operator Cons) (More x (More y Done))) a b e =
    let p = pair_is x y a b e in
    ap (λ u. before u (items_of y)) p.0 ∙ ap (λ u. before a (items_of u)) p.1
items_more t a b e = absurd cc

items_none : (t : Plain) → None ≡ parts t → items_of t ≡ (if is_nil t then Some [] else None)
items_none (At (h.Nil s) Done) e = refl
items_none (At (h.Operator Cons) (More x (More y Done))) e = absurd cc
items_none t e = refl

pub end_more : (t a b : Plain) → some_pair a b ≡ parts t → end_of b ≡ end_of t
end_more (At (h.Operator Cons) (More x (More y Done))) a b e = ap end_of (sym (pair_is x y a b e).1)
end_more t a b e = absurd cc

pub end_none : (t : Plain) → None ≡ parts t → t ≡ end_of t
end_none (At (h.Operator Cons) (More x (More y Done))) e = absurd cc
end_none t e = refl

pub rest_lower : (t a b : Plain) → some_pair a b ≡ parts t → height b < height t
rest_lower (At (h.Operator Cons) (More x (More y Done))) a b e =
    let same : height y ≡ height b = ap height (pair_is x y a b e).1 in
    omega (arith, same)
rest_lower t a b e = absurd cc

more_by : (old : List Plain) (a : Plain) (o : Option (List Plain)) → option_map (λ items. (old ++ a ∷ []) ++ items) o ≡ option_map (λ items. old ++ items) (before a o)
more_by old a (Some items) = ap Some (append_assoc old (a ∷ []) items)
more_by old a None = refl

-- an item more
pub pushed_more : (t a b : Plain) (old new : List Plain) (told : Bool) → some_pair a b ≡ parts t → pushed told new ≡ option_map (λ items. (old ++ a ∷ []) ++ items) (items_of b) → pushed told new ≡ option_map (λ items. old ++ items) (items_of t)
pushed_more t a b old new told e k = k ∙ more_by old a (items_of b) ∙ ap (option_map (λ items. old ++ items)) (sym (items_more t a b e))

pub pushed_ok : {E : Type 0} (t a b : Plain) (old mid new : List Plain) (x : Plain) (r : Result Bool E) → some_pair a b ≡ parts t → mid ≡ old ++ x ∷ [] → x ≡ a → IfOk r (λ told. pushed told new ≡ option_map (λ items. mid ++ items) (items_of b)) → IfOk r (λ told. pushed told new ≡ option_map (λ items. old ++ items) (items_of t))
pushed_ok t a b old mid new x (Ok told) e i j h =
    pushed_more t a b old new told e (subst (λ m. pushed told new ≡ option_map (λ items. m ++ items) (items_of b)) (i ∙ ap (λ y. old ++ y ∷ []) j) h)
pushed_ok t a b old mid new x (Err stop) e i j h = tt

none_by : (old : List Plain) (b : Bool) → pushed b old ≡ option_map (λ items. old ++ items) (if b then Some [] else None)
none_by old true = ap Some (sym (append-nil old))
none_by old false = refl

pub pushed_none : (t : Plain) (old : List Plain) → None ≡ parts t → pushed (is_nil t) old ≡ option_map (λ items. old ++ items) (items_of t)
pushed_none t old e = none_by old (is_nil t) ∙ ap (option_map (λ items. old ++ items)) (sym (items_none t e))

empty_map : (o : Option (List Plain)) → option_map (λ items. [] ++ items) o ≡ o
empty_map (Some items) = refl
empty_map None = refl

pub all_pushed : (t : Plain) (all : List Plain) (told : Bool) → told ≡ true → pushed told all ≡ option_map (λ items. [] ++ items) (items_of t) → Some all ≡ items_of t
all_pushed t all true e k = k ∙ empty_map (items_of t)
all_pushed t all false e k = absurd cc

pub not_pushed : (t : Plain) (all : List Plain) (told : Bool) → told ≡ false → pushed told all ≡ option_map (λ items. [] ++ items) (items_of t) → None ≡ items_of t
not_pushed t all false e k = k ∙ empty_map (items_of t)
not_pushed t all true e k = absurd cc
