-- Lists that are written out: their items have the data of the list, and lists that are made of them have these.
use Rattle.std.proofs.Common.{◌≡◌, ℕ, zero, suc, ℤ, pos, negsuc, ◌+ℤ◌, Bool, true, false, ◌&&◌, cond, List, [], ◌∷◌, ◌++◌, length, reverse, get_or, Option, Some, None, Result, Ok, Err, refl, sym, ap, ◌∙◌, subst}
use Rattle.std.specs.Prelude.{is_some, option_and_then, slice_get}
use Rattle.std.proofs.lemmas.List.{reverse-append}
use Rattle.floyd_text.specs.declared.refusal.No.{No}
use Rattle.floyd_tree_sorts.specs.declared.heads.Head.TheVariants as h
use Rattle.floyd_tree_sorts.specs.declared.operators.Operator.TheVariants as o
use Rattle.floyd_tree_sorts.specs.declared.sorts.Sort.{Sort, Z, Val, ListOf', TreeOf', Prod', more_of-Sort, end_of-Sort}
use Rattle.floyd_tree_sorts.specs.Sorts.{list_sort, pair_sort, same_sort, tree_sort}
use Rattle.floyd_tree_sorts.specs.Table.{sort_at, when}
use Rattle.floyd_tree_sorts.proofs.SortLemmas.{same_sort_self}
use Rattle.floyd_tree.specs.Made.{fits}
use Rattle.floyd_tree.specs.Plain.{Plain, At, Done, More, plains}
use Rattle.floyd_tree.specs.WellSorted.{sort_of, sorts_of, with_first}
use Rattle.floyd_tree_values.specs.BuiltIns.{Env}
use Rattle.floyd_tree_values.specs.Data.{Datum, Number, Empty, Item, Data, data_of, default_of, items_in, listed, seq}
use Rattle.floyd_tree_values.specs.Lists.{nth, sum}
use Rattle.floyd_tree_values.specs.Means.{Defs, Means, AllMean, built_in, none, more}
use Rattle.floyd_tree_values.proofs.OneValue.{applies, no_data, split}
use Rattle.floyd_tree_values.proofs.Sorted.{listed_data}
use Rattle.floyd_fieldpath.specs.Nested.{literal}
use Rattle.floyd_fieldpath.specs.Sums.{literal_in, two}
use Rattle.floyd_fieldpath.specs.Written.{ill_sorted, on_ok, too_large, written}
use Rattle.floyd_simplifying.specs.WrittenLists.{before, chained, default_in, end_of, item_at, items_of, numbers_by, numbers_of, or_default, total}
use Rattle.floyd_simplifying.proofs.Keeping.{applies_two, literal_means, means_literal}
use Rattle.floyd_simplifying.proofs.Sorting.{cons_sorted, cons_takes, kids_sorted, lists_of_same, sort_is, two_sorts}

made_same : (t u : Plain) → ◌≡◌ {A = Result Plain No} (Ok t) (Ok u) → t ≡ u
made_same t u e = cc

written_by : (b c : Bool) (t u : Plain) → ◌≡◌ {A = Result Plain No} (cond b (cond c (Ok t) (Err too_large)) (Err ill_sorted)) (Ok u) → (b ≡ true) × (t ≡ u)
written_by true true t u e = (refl, made_same t u e)
written_by true false t u e = absurd cc
written_by false c t u e = absurd cc

pub written_is : (t u : Plain) → written t ≡ Ok u → t ≡ u
written_is t u e = (written_by (is_some (sort_of t)) (fits t) t u e).1

pub on_ok_some : {A B : Type 0} (x : Result A No) (f : A → Result B No) (made : B) → on_ok x f ≡ Ok made → (t : A) × (x ≡ Ok t) × (f t ≡ Ok made)
on_ok_some (Ok t) f made e = (t, refl, e)
on_ok_some (Err refusal) f made e = absurd cc

-- each of the terms is of the sort
abbrev pub EachOf : Sort → List Plain → Type 0
EachOf r [] = Unit {0}
EachOf r (t ∷ ts) = (sort_of t ≡ Some r) × EachOf r ts

pub record Written (r : Sort) (a : Plain) (items : List Plain) : Type 0 where
  pub each : EachOf r items
  pub sort : sort_of a ≡ Some (list_sort r)
  pub end : end_of a ≡ At (h.Nil r) Done

before_some : (a : Plain) (o : Option (List Plain)) (items : List Plain) → before a o ≡ Some items → (rest : List Plain) × (o ≡ Some rest) × (a ∷ rest ≡ items)
before_some a (Some rest) items e = (rest, refl, cc)
before_some a None items e = absurd cc

nothing_is : (items : List Plain) → Option.Some (List.[]) ≡ Option.Some items → [] ≡ items
nothing_is items e = cc

pub written_sorts : (a : Plain) (items : List Plain) (s : Sort) → items_of a ≡ Some items → sort_of a ≡ Some s → (r : Sort) × (s ≡ list_sort r) × Written r a items
written_sorts (At (h.Nil r) Done) items s e f = (r, sym (sort_is (list_sort r) s f), record { each = subst (EachOf r) (nothing_is items e) tt; sort = refl; end = refl })
written_sorts (At (h.Operator o.Cons) (More a (More b Done))) items s e f =
    let k = kids_sorted (h.Operator o.Cons) (sorts_of (More a (More b Done))) s f in
    let t = two_sorts a b k.0 k.1 in
    let c = cons_takes t.0 t.1 s (subst (λ ss. sort_at (h.Operator o.Cons) ss ≡ Some s) t.4 k.2) in
    let p = before_some a (items_of b) items e in
    let w = written_sorts b p.0 t.1 p.1 t.3 in
    let same : t.0 ≡ w.0 = lists_of_same t.0 w.0 (sym c.0 ∙ w.1) in
    let is : s ≡ list_sort w.0 = c.1 ∙ ap list_sort same in
    (w.0, is, record { each = subst (EachOf w.0) p.2 (t.2 ∙ ap Some same, w.2.each); sort = f ∙ ap Some is; end = w.2.end })
written_sorts t items s e f = absurd cc

each_behind : (r : Sort) (ts : List Plain) (t : Plain) → EachOf r ts → sort_of t ≡ Some r → EachOf r (ts ++ t ∷ [])
each_behind r [] t k e = (e, tt)
each_behind r (u ∷ ts) t k e = (k.0, each_behind r ts t k.1 e)

pub each_back : (r : Sort) (ts : List Plain) → EachOf r ts → EachOf r (reverse ts)
each_back r [] k = tt
each_back r (t ∷ ts) k = subst (EachOf r) (sym (reverse-append (t ∷ []) ts)) (each_behind r (reverse ts) t (each_back r ts k.1) k.0)

each_at : (r : Sort) (ts : List Plain) (n : ℕ) (t : Plain) → EachOf r ts → slice_get ts n ≡ Some t → sort_of t ≡ Some r
each_at r [] zero t k e = absurd cc
each_at r [] (suc n) t k e = absurd cc
each_at r (u ∷ ts) zero t k e = let same : u ≡ t = cc in subst (λ v. sort_of v ≡ Some r) same k.0
each_at r (u ∷ ts) (suc n) t k e = each_at r ts n t k.1 e

-- the default term of a sort
default_pair_sorted : (a b : Sort) (x y : Plain) → sort_of x ≡ Some a → sort_of y ≡ Some b → sort_of (two o.Pair x y) ≡ Some (pair_sort a b)
default_pair_sorted a b x y i j =
    ap (λ p. pair_of p (sort_of y)) i ∙ ap (pair_of (Some a)) j ∙ fitting
  where
    pair_of : Option Sort → Option Sort → Option Sort
    pair_of p q = option_and_then (sort_at (h.Operator o.Pair)) (with_first p (with_first q (Some [])))

    fitting : sort_at (h.Operator o.Pair) (a ∷ b ∷ []) ≡ Some (pair_sort a b)
    fitting = ap (λ c. when (c && same_sort b b) (pair_sort a b)) (same_sort_self a) ∙ ap (λ c. when c (pair_sort a b)) (same_sort_self b)

-- numbers
numbers_some : (o : Option ℤ) (rest : Option (List ℤ)) (zs : List ℤ) → numbers_by o rest ≡ Some zs → (z : ℤ) × (ys : List ℤ) × (o ≡ Some z) × (rest ≡ Some ys) × (z ∷ ys ≡ zs)
numbers_some (Some z) (Some ys) zs e = (z, ys, refl, refl, cc)
numbers_some (Some z) None zs e = absurd cc
numbers_some None rest zs e = absurd cc

no_numbers : (zs : List ℤ) → Option.Some (List.[]) ≡ Option.Some zs → [] ≡ zs
no_numbers zs e = cc

pub data_listed : (items : Data) → data_of (listed items) ≡ items
data_listed Empty = refl
data_listed (Item d items) = ap (Item d) (data_listed items)

module _ (defs : Defs) (env : Env) where
  pub written_means : (a : Plain) (items : List Plain) (d : Datum) → items_of a ≡ Some items → Means defs env a d → (ds : List Datum) × AllMean defs env (plains items) ds × (d ≡ seq ds)
  written_means (At (h.Nil r) Done) items d e m =
      let p = applies {head = h.Nil r} refl m in
      ([], subst (λ ts. AllMean defs env (plains ts) []) (nothing_is items e) none, p.is)
  written_means (At (h.Operator o.Cons) (More a (More b Done))) items d e m =
      let p = before_some a (items_of b) items e in
      let v = applies_two defs env o.Cons a b d m in
      let rest = written_means b p.0 v.second p.1 v.right in (
        v.first ∷ rest.0,
        subst (λ ts. AllMean defs env (plains ts) (v.first ∷ rest.0)) p.2 (more v.left rest.1),
        v.is ∙ ap (λ x. seq (v.first ∷ items_in x)) rest.2 ∙ ap (λ es. seq (v.first ∷ es)) (listed_data rest.0),
      )
  written_means t items d e m = absurd cc

  pub counted : (ts : List Plain) (ds : List Datum) → AllMean defs env (plains ts) ds → length ds ≡ length ts
  counted [] ds m = ap length (no_data m)
  counted (t ∷ ts) ds m = let p = split m in ap length p.is ∙ ap suc (counted ts p.data' p.rest)

  behind_means : (ts : List Plain) (ds : List Datum) (t : Plain) (d : Datum) → AllMean defs env (plains ts) ds → Means defs env t d → AllMean defs env (plains (ts ++ t ∷ [])) (ds ++ d ∷ [])
  behind_means [] ds t d m n = subst (λ es. AllMean defs env (plains (t ∷ [])) (es ++ d ∷ [])) (sym (no_data m)) (more n none)
  behind_means (u ∷ ts) ds t d m n =
      let p = split m in
      subst (λ es. AllMean defs env (plains (u ∷ (ts ++ t ∷ []))) (es ++ d ∷ [])) (sym p.is) (more p.first (behind_means ts p.data' t d p.rest n))

  pub all_back : (ts : List Plain) (ds : List Datum) → AllMean defs env (plains ts) ds → AllMean defs env (plains (reverse ts)) (reverse ds)
  all_back [] ds m = subst (λ es. AllMean defs env (plains []) (reverse es)) (sym (no_data m)) none
  all_back (t ∷ ts) ds m =
      let p = split m in
      subst (λ es. AllMean defs env (plains (reverse (t ∷ ts))) (reverse es)) (sym p.is)
      (subst (λ us. AllMean defs env (plains us) (reverse (p.datum ∷ p.data'))) (sym (reverse-append (t ∷ []) ts))
      (subst (AllMean defs env (plains (reverse ts ++ t ∷ []))) (sym (reverse-append (p.datum ∷ []) p.data'))
      (behind_means (reverse ts) (reverse p.data') t p.datum (all_back ts p.data' p.rest) p.first)))

  -- the items before a list
  pub record Chain (r : Sort) (items : List Plain) (l made : Plain) : Type 0 where
    pub sort : sort_of made ≡ Some (list_sort r)
    pub means : (ds es : List Datum) → AllMean defs env (plains items) ds → Means defs env l (seq es) → Means defs env made (seq (ds ++ es))

  cons_means : (a t : Plain) (r : Sort) (d : Datum) (es : List Datum) → sort_of (two o.Cons a t) ≡ Some (list_sort r) → Means defs env a d → Means defs env t (seq es) → Means defs env (two o.Cons a t) (seq (d ∷ es))
  cons_means a t r d es e m n =
      subst (λ xs. Means defs env (two o.Cons a t) (seq (d ∷ xs))) (listed_data es) (built_in {head = h.Operator o.Cons} {s = list_sort r} refl e (more m (more n none)))

  pub chain : (r : Sort) (items : List Plain) (l made : Plain) → chained items l ≡ Ok made → EachOf r items → sort_of l ≡ Some (list_sort r) → Chain r items l made
  chain r [] l made e each f =
      let same : l ≡ made = made_same l made e in
      record {
        sort = subst (λ t. sort_of t ≡ Some (list_sort r)) same f;
        means = λ ds es m n. subst (λ t. Means defs env t (seq (ds ++ es))) same (subst (λ xs. Means defs env l (seq (xs ++ es))) (sym (no_data m)) n);
      }
  chain r (a ∷ items) l made e each f =
      let p = on_ok_some (chained items l) (λ rest. written (two o.Cons a rest)) made e in
      let k = chain r items l p.0 p.1 each.1 f in
      let same : two o.Cons a p.0 ≡ made = written_is (two o.Cons a p.0) made p.2 in
      let sorts = cons_sorted a p.0 r each.0 k.sort in
      record {
        sort = subst (λ t. sort_of t ≡ Some (list_sort r)) same sorts;
        means = λ ds es m n.
            let q = split m in
            subst (λ t. Means defs env t (seq (ds ++ es))) same
            (subst (λ xs. Means defs env (two o.Cons a p.0) (seq (xs ++ es))) (sym q.is)
            (cons_means a p.0 r q.datum (q.data' ++ es) sorts q.first (k.means q.data' es q.rest n)));
      }

  -- the default of a sort
  pub record Defaults (r : Sort) (t : Plain) : Type 0 where
    pub sort : sort_of t ≡ Some r
    pub means : Means defs env t (default_of r)

  defaults_same : (r : Sort) (t u : Plain) → t ≡ u → Defaults r t → Defaults r u
  defaults_same r t u e k = subst (Defaults r) e k

  pub defaults : (r : Sort) (t : Plain) → default_in r ≡ Ok t → Defaults r t
  defaults Z t e = defaults_same Z (literal (pos 0)) t (made_same (literal (pos 0)) t e) (record { sort = refl; means = means_literal defs env (pos 0) })
  defaults Val t e =
      defaults_same Val (At (h.Operator o.Vundef) Done) t (written_is (At (h.Operator o.Vundef) Done) t e)
      (record { sort = refl; means = built_in {head = h.Operator o.Vundef} {s = Val} refl refl none })
  defaults (ListOf' p (more_of-Sort s end_of-Sort)) t e =
      defaults_same (list_sort s) (At (h.Nil s) Done) t (written_is (At (h.Nil s) Done) t e)
      (record { sort = refl; means = built_in {head = h.Nil s} {s = list_sort s} refl refl none })
  defaults (TreeOf' p (more_of-Sort s end_of-Sort)) t e =
      defaults_same (tree_sort s) (At (h.Leaf s) Done) t (written_is (At (h.Leaf s) Done) t e)
      (record { sort = refl; means = built_in {head = h.Leaf s} {s = tree_sort s} refl refl none })
  defaults (Prod' p (more_of-Sort a end_of-Sort) q (more_of-Sort b end_of-Sort)) t e =
      let i = on_ok_some (default_in a) (λ x. on_ok (default_in b) (λ y. written (two o.Pair x y))) t e in
      let j = on_ok_some (default_in b) (λ y. written (two o.Pair i.0 y)) t i.2 in
      let x = defaults a i.0 i.1 in
      let y = defaults b j.0 j.1 in
      let sorts = default_pair_sorted a b i.0 j.0 x.sort y.sort in
      defaults_same (pair_sort a b) (two o.Pair i.0 j.0) t (written_is (two o.Pair i.0 j.0) t j.2)
      (record { sort = sorts; means = built_in {head = h.Operator o.Pair} {s = pair_sort a b} refl sorts (more x.means (more y.means none)) })

  -- the item at a place
  item_found : (items : List Plain) (ds : List Datum) (n : ℕ) (t : Plain) (d : Datum) → AllMean defs env (plains items) ds → slice_get items n ≡ Some t → Means defs env t (get_or ds n d)
  item_found [] ds zero t d m e = absurd cc
  item_found [] ds (suc n) t d m e = absurd cc
  item_found (u ∷ items) ds zero t d m e =
      let p = split m in
      let same : u ≡ t = cc in
      subst (λ es. Means defs env t (get_or es zero d)) (sym p.is) (subst (λ v. Means defs env v p.datum) same p.first)
  item_found (u ∷ items) ds (suc n) t d m e =
      let p = split m in
      subst (λ es. Means defs env t (get_or es (suc n) d)) (sym p.is) (item_found items p.data' n t d p.rest e)

  item_missing : (items : List Plain) (ds : List Datum) (n : ℕ) (d : Datum) → AllMean defs env (plains items) ds → slice_get items n ≡ None → d ≡ get_or ds n d
  item_missing [] ds zero d m e = ap (λ es. get_or es zero d) (sym (no_data m))
  item_missing [] ds (suc n) d m e = ap (λ es. get_or es (suc n) d) (sym (no_data m))
  item_missing (u ∷ items) ds zero d m e = absurd cc
  item_missing (u ∷ items) ds (suc n) d m e =
      let p = split m in
      item_missing items p.data' n d p.rest e ∙ ap (λ es. get_or es (suc n) d) (sym p.is)

  pub found_sort : (r : Sort) (z : ℤ) (items : List Plain) (t : Plain) → EachOf r items → item_at z items (At (h.Nil r) Done) ≡ Ok t → sort_of t ≡ Some r
  found_sort r (pos n) items t each e = by (slice_get items n) refl e
    where
      by : (q : Option Plain) → slice_get items n ≡ q → or_default q (At (h.Nil r) Done) ≡ Ok t → sort_of t ≡ Some r
      by (Some u) i e = subst (λ v. sort_of v ≡ Some r) (made_same u t e) (each_at r items n u each i)
      by None i e = (defaults r t e).sort
  found_sort r (negsuc n) items t each e = (defaults r t e).sort

  pub found_means : (r : Sort) (z : ℤ) (items : List Plain) (ds : List Datum) (t : Plain) → AllMean defs env (plains items) ds → item_at z items (At (h.Nil r) Done) ≡ Ok t → Means defs env t (nth (default_of r) z ds)
  found_means r (pos n) items ds t m e = by (slice_get items n) refl e
    where
      by : (q : Option Plain) → slice_get items n ≡ q → or_default q (At (h.Nil r) Done) ≡ Ok t → Means defs env t (get_or ds n (default_of r))
      by (Some u) i e = subst (λ v. Means defs env v (get_or ds n (default_of r))) (made_same u t e) (item_found items ds n u (default_of r) m i)
      by None i e = subst (Means defs env t) (item_missing items ds n (default_of r) m i) (defaults r t e).means
  found_means r (negsuc n) items ds t m e = (defaults r t e).means

  -- the sum of literals
  pub summed : (items : List Plain) (zs : List ℤ) (ds : List Datum) → numbers_of items ≡ Some zs → AllMean defs env (plains items) ds → sum ds ≡ total zs
  summed [] zs ds e m = ap sum (no_data m) ∙ ap total (no_numbers zs e)
  summed (t ∷ items) zs ds e m =
      let p = split m in
      let n = numbers_some (literal_in t) (numbers_of items) zs e in
      let first : p.datum ≡ Number n.0 = literal_means defs env t n.0 p.datum n.2 p.first in
      ap sum p.is
      ∙ ap (λ x. sum (x ∷ p.data')) first
      ∙ ap (λ y. n.0 +ℤ y) (summed items n.1 p.data' n.3 p.rest)
      ∙ ap total n.4
