-- What takes the place of a node is well formed: it has the node's sort, and each of its nodes is allowed and known.
use Rattle.std.proofs.Common.{◌≡◌, ℕ, zero, suc, ℤ, pos, negsuc, Bool, true, false, cond, List, [], ◌∷◌, ◌++◌, length, reverse, Option, Some, None, Result, Ok, Err, refl, sym, ap, ◌∙◌, subst}
use Rattle.std.specs.Prelude.{option_and_then, option_map, slice_get}
use Rattle.std.specs.List.{AllByRecursion}
use Rattle.std.specs.Option.{unwrap_or}
use Rattle.std.proofs.lemmas.List.{reverse-append}
use Rattle.floyd_text.specs.declared.refusal.No.{No}
use Rattle.floyd_tree_sorts.specs.declared.heads.Head.{Head}
use Rattle.floyd_tree_sorts.specs.declared.heads.Head.TheVariants as h
use Rattle.floyd_tree_sorts.specs.declared.operators.Operator.{Operator}
use Rattle.floyd_tree_sorts.specs.declared.operators.Operator.TheVariants as o
use Rattle.floyd_tree_sorts.specs.declared.sorts.Sort.{Sort, Z, Val, ListOf', TreeOf', Prod', more_of-Sort, end_of-Sort}
use Rattle.floyd_tree_sorts.specs.Table.{sort_at}
use Rattle.floyd_tree.specs.Plain.{Plain, Plains, At, Done, More}
use Rattle.floyd_tree.specs.WellSorted.{sort_of, sorts_of}
use Rattle.floyd_tree_values.specs.BuiltIns.{Env}
use Rattle.floyd_tree_values.specs.Data.{Number}
use Rattle.floyd_tree_values.specs.Means as m
use Rattle.floyd_tree_values.specs.Rules.{AllAllowed, CallsOf, EachAllowed, Scope}
use Rattle.floyd_assert_trees.specs.declared.items.Defs.{Defs}
use Rattle.floyd_assert_trees.specs.Meanings.{value_defs}
use Rattle.floyd_fieldpath.specs.Nested.{literal}
use Rattle.floyd_fieldpath.specs.Sums.{is_small, literal_in, small, two}
use Rattle.floyd_fieldpath.specs.Written.{on_ok, written}
use Rattle.floyd_folding.specs.Folding.{number_of_one, number_of_two, of_literals}
use Rattle.floyd_goal_forms.specs.Terms.{AllKnown, GlobalsKnown}
use Rattle.floyd_simplifying.specs.Simplified.{Step, folded_one, folded_two, item_step, literal_step, of_items, some_of, step, step_of_one, step_of_two}
use Rattle.floyd_simplifying.specs.WrittenLists.{before, chained, default_in, default_of_end, end_of, item_at, items_of, numbers_of, or_default, total}
use Rattle.floyd_simplifying.proofs.ListsKept.{chain, found_sort, on_ok_some, written_is, written_sorts}
use Rattle.floyd_simplifying.proofs.NumbersKept.{two_kept}
use Rattle.floyd_simplifying.proofs.Sorting.{append_takes, nth_gives, number_is, two_sorts}
use Rattle.floyd_simplifying.proofs.StepsKept.{kept_one}

same_made : (t u : Plain) → ◌≡◌ {A = Result Plain No} (Ok t) (Ok u) → t ≡ u
same_made t u e = cc

-- ---- what a step gives

abbrev step_none : Step
step_none = Ok None

abbrev step_some : Plain → Step
step_some t = Ok (Some t)

none_is : (r : Option Plain) → step_none ≡ Ok r → None ≡ r
none_is r e = cc

some_is : (t : Plain) (r : Option Plain) → step_some t ≡ Ok r → Some t ≡ r
some_is t r e = cc

-- P is so of the node, or of what takes its place
module _ (P : Plain → Type 0) (node : Plain) (own : P node) where
  abbrev Gives : Option Plain → Type 0
  Gives r = P (unwrap_or r node)

  nothing : (r : Option Plain) → step_none ≡ Ok r → Gives r
  nothing r i = subst Gives (none_is r i) own

  literal_or : (q : Option ℤ) (r : Option Plain) → literal_step q ≡ Ok r → ((z : ℤ) → q ≡ Some z → P (literal z)) → Gives r
  literal_or (Some z) r i k = subst Gives (some_is (literal z) r i) (k z refl)
  literal_or None r i k = nothing r i

  made_or : (x : Result Plain No) (r : Option Plain) → some_of x ≡ Ok r → ((made : Plain) → x ≡ Ok made → P made) → Gives r
  made_or (Ok made) r i k = subst Gives (some_is made r i) (k made refl)
  made_or (Err refusal) r i k = absurd cc

  items_or : (q : Option (List Plain)) (make : List Plain → Result Plain No) (r : Option Plain) → of_items q make ≡ Ok r → ((items : List Plain) (made : Plain) → q ≡ Some items → make items ≡ Ok made → P made) → Gives r
  items_or (Some items) make r i k = made_or (make items) r i (λ made j. k items made refl j)
  items_or None make r i k = nothing r i

small_by : (b : Bool) (x z : ℤ) → cond b (Option.Some x) None ≡ Some z → x ≡ z
small_by true x z e = number_is x z e
small_by false x z e = absurd cc

small_is : (q : Option ℤ) (z : ℤ) → small q ≡ Some z → q ≡ Some z
small_is (Some x) z e = ap Some (small_by (is_small x) x z e)
small_is None z e = absurd cc

both_given : (f : ℤ → ℤ → Option ℤ) (q r : Option ℤ) (z : ℤ) → of_literals f q r ≡ Some z → (x : ℤ) × (y : ℤ) × (q ≡ Some x) × (r ≡ Some y) × (f x y ≡ Some z)
both_given f (Some x) (Some y) z e = (x, y, refl, refl, e)
both_given f (Some x) None z e = absurd cc
both_given f None r z e = absurd cc

-- ---- its sort

-- sorts do not depend on data
abbrev any_data : Env
any_data = record { variables = λ x. Number (pos 0); global = λ x. 0; local = λ x. 0 }

module _ (defs : m.Defs) (s : Sort) where
  abbrev HasIt : Plain → Type 0
  HasIt t = sort_of t ≡ Some s

  module _ (a b : Plain) (ss : List Sort) (sorts : sorts_of (More a (More b Done)) ≡ Some ss) where
    node_sorted : (head : Head) → sort_at head ss ≡ Some s → HasIt (At head (More a (More b Done)))
    node_sorted head f = ap (option_and_then (sort_at head)) sorts ∙ f

    folded_sorted : (operator : Operator) (r : Option Plain) → sort_at (h.Operator operator) ss ≡ Some s → folded_two operator a b ≡ Ok r → HasIt (unwrap_or r (two operator a b))
    folded_sorted operator r f i =
        literal_or HasIt (two operator a b) (node_sorted (h.Operator operator) f) (small (of_literals (number_of_two operator) (literal_in a) (literal_in b))) r i
        (λ z j.
        let p = both_given (number_of_two operator) (literal_in a) (literal_in b) z (small_is (of_literals (number_of_two operator) (literal_in a) (literal_in b)) z j) in
        (two_kept defs any_data operator a b p.0 p.1 z ss s p.2 p.3 p.4 sorts f).sort)

    append_sorted : (items : List Plain) (made : Plain) → items_of a ≡ Some items → chained items b ≡ Ok made → sort_at (h.Operator o.Append) ss ≡ Some s → HasIt made
    append_sorted items made i j f =
        let t = two_sorts a b ss sorts in
        let w = written_sorts a items t.0 i t.2 in
        let l = append_takes w.0 t.1 s (subst (λ rs. sort_at (h.Operator o.Append) rs ≡ Some s) (t.4 ∙ ap (λ p. p ∷ t.1 ∷ []) w.1) f) in
        (chain defs any_data w.0 items b made j w.2.each (t.3 ∙ ap Some l.0)).sort ∙ ap Some (sym l.1)

    nth_sorted : (z : ℤ) (items : List Plain) (made : Plain) → items_of b ≡ Some items → item_at z items (end_of b) ≡ Ok made → sort_at (h.Operator o.Nth) ss ≡ Some s → HasIt made
    nth_sorted z items made i j f =
        let t = two_sorts a b ss sorts in
        let w = written_sorts b items t.1 i t.3 in
        let is : s ≡ w.0 = nth_gives t.0 w.0 s (subst (λ rs. sort_at (h.Operator o.Nth) rs ≡ Some s) (t.4 ∙ ap (λ q. t.0 ∷ q ∷ []) w.1) f) in
        found_sort defs any_data w.0 z items made w.2.each (subst (λ e. item_at z items e ≡ Ok made) w.2.end j) ∙ ap Some (sym is)

    item_sorted : (q : Option ℤ) (r : Option Plain) → sort_at (h.Operator o.Nth) ss ≡ Some s → item_step q b ≡ Ok r → HasIt (unwrap_or r (two o.Nth a b))
    item_sorted (Some z) r f i =
        items_or HasIt (two o.Nth a b) (node_sorted (h.Operator o.Nth) f) (items_of b) (λ items. item_at z items (end_of b)) r i (λ items made e j. nth_sorted z items made e j f)
    item_sorted None r f i = nothing HasIt (two o.Nth a b) (node_sorted (h.Operator o.Nth) f) r i

    two_sorted : (head : Head) (r : Option Plain) → sort_at head ss ≡ Some s → step_of_two head a b ≡ Ok r → HasIt (unwrap_or r (At head (More a (More b Done))))
    two_sorted (h.Operator o.Append) r f i =
        items_or HasIt (two o.Append a b) (node_sorted (h.Operator o.Append) f) (items_of a) (λ items. chained items b) r i (λ items made j k. append_sorted items made j k f)
    two_sorted (h.Operator o.Nth) r f i = item_sorted (literal_in a) r f i
    two_sorted (h.Operator operator) r f i = folded_sorted operator r f i
    two_sorted head r f i = nothing HasIt (At head (More a (More b Done))) (node_sorted head f) r i

  pub step_sorted : (head : Head) (us : Plains) (ss : List Sort) → sorts_of us ≡ Some ss → sort_at head ss ≡ Some s → (r : Option Plain) → step (At head us) ≡ Ok r → HasIt (unwrap_or r (At head us))
  step_sorted head Done ss e f r i = nothing HasIt (At head Done) (ap (option_and_then (sort_at head)) e ∙ f) r i
  step_sorted head (More a Done) ss e f r i = (kept_one defs any_data s a ss e head r f i).sort
  step_sorted head (More a (More b Done)) ss e f r i = two_sorted a b ss e head r f i
  step_sorted head (More a (More b (More c us))) ss e f r i = nothing HasIt (At head (More a (More b (More c us)))) (ap (option_and_then (sort_at head)) e ∙ f) r i

-- ---- its nodes

before_some : (a : Plain) (q : Option (List Plain)) (items : List Plain) → before a q ≡ Some items → (rest : List Plain) × (q ≡ Some rest) × (a ∷ rest ≡ items)
before_some a (Some rest) items e = (rest, refl, cc)
before_some a None items e = absurd cc

nothing_is : (items : List Plain) → Option.Some (List.[]) ≡ Option.Some items → [] ≡ items
nothing_is items e = cc

module _ (defs : Defs) (scope : Scope) where
  -- each node of the term is allowed, and its names are known
  abbrev pub Fine : Plain → Type 0
  Fine t = EachAllowed defs.structs scope (CallsOf (value_defs defs).funs) t × GlobalsKnown defs t

  abbrev pub AllFine : Plains → Type 0
  AllFine ts = AllAllowed defs.structs scope (CallsOf (value_defs defs).funs) ts × AllKnown defs ts

  abbrev ListFine : List Plain → Type 0
  ListFine items = AllByRecursion Fine items

  literal_fine : (z : ℤ) → Fine (literal z)
  literal_fine z = ((tt, tt), (tt, tt))

  two_fine : (operator : Operator) (a b : Plain) → Fine a → Fine b → Fine (two operator a b)
  two_fine operator a b p q = ((tt, (p.0, (q.0, tt))), (tt, (p.1, (q.1, tt))))

  written_fine : (t made : Plain) → Fine t → written t ≡ Ok made → Fine made
  written_fine t made k e = subst Fine (written_is t made e) k

  items_fine : (a : Plain) (items : List Plain) → items_of a ≡ Some items → Fine a → ListFine items
  items_fine (At (h.Nil r) Done) items e k = subst ListFine (nothing_is items e) tt
  items_fine (At (h.Operator o.Cons) (More a (More b Done))) items e k =
      let p = before_some a (items_of b) items e in
      subst ListFine p.2 ((k.0.1.0, k.1.1.0), items_fine b p.0 p.1 (k.0.1.1.0, k.1.1.1.0))
  items_fine t items e k = absurd cc

  end_fine : (t : Plain) → Fine t → Fine (end_of t)
  end_fine (At (h.Operator o.Cons) (More a (More b Done))) k = end_fine b (k.0.1.1.0, k.1.1.1.0)
  end_fine t k = k

  chained_fine : (items : List Plain) (l made : Plain) → chained items l ≡ Ok made → ListFine items → Fine l → Fine made
  chained_fine [] l made e i k = subst Fine (same_made l made e) k
  chained_fine (a ∷ items) l made e i k =
      let p = on_ok_some (chained items l) (λ rest. written (two o.Cons a rest)) made e in
      written_fine (two o.Cons a p.0) made (two_fine o.Cons a p.0 i.0 (chained_fine items l p.0 p.1 i.1 k)) p.2

  behind_fine : (ts : List Plain) (t : Plain) → ListFine ts → Fine t → ListFine (ts ++ t ∷ [])
  behind_fine [] t k i = (i, tt)
  behind_fine (u ∷ ts) t k i = (k.0, behind_fine ts t k.1 i)

  back_fine : (ts : List Plain) → ListFine ts → ListFine (reverse ts)
  back_fine [] k = tt
  back_fine (t ∷ ts) k = subst ListFine (sym (reverse-append (t ∷ []) ts)) (behind_fine (reverse ts) t (back_fine ts k.1) k.0)

  default_fine : (r : Sort) (t : Plain) → default_in r ≡ Ok t → Fine t
  default_fine Z t e = subst Fine (same_made (literal (pos 0)) t e) (literal_fine (pos 0))
  default_fine Val t e = written_fine (At (h.Operator o.Vundef) Done) t ((tt, tt), (tt, tt)) e
  default_fine (ListOf' p (more_of-Sort s end_of-Sort)) t e = written_fine (At (h.Nil s) Done) t ((tt, tt), (tt, tt)) e
  default_fine (TreeOf' p (more_of-Sort s end_of-Sort)) t e = written_fine (At (h.Leaf s) Done) t ((tt, tt), (tt, tt)) e
  default_fine (Prod' p (more_of-Sort a end_of-Sort) q (more_of-Sort b end_of-Sort)) t e =
      let i = on_ok_some (default_in a) (λ x. on_ok (default_in b) (λ y. written (two o.Pair x y))) t e in
      let j = on_ok_some (default_in b) (λ y. written (two o.Pair i.0 y)) t i.2 in
      written_fine (two o.Pair i.0 j.0) t (two_fine o.Pair i.0 j.0 (default_fine a i.0 i.1) (default_fine b j.0 j.1)) j.2

  end_default : (end t : Plain) → default_of_end end ≡ Ok t → Fine end → Fine t
  end_default (At (h.Nil s) kids) t e k = default_fine s t e
  end_default end t e k = subst Fine (same_made end t e) k

  found_fine : (items : List Plain) (n : ℕ) (t : Plain) → slice_get items n ≡ Some t → ListFine items → Fine t
  found_fine [] zero t e k = absurd cc
  found_fine [] (suc n) t e k = absurd cc
  found_fine (u ∷ items) zero t e k = let same : u ≡ t = cc in subst Fine same k.0
  found_fine (u ∷ items) (suc n) t e k = found_fine items n t e k.1

  item_fine : (z : ℤ) (items : List Plain) (end t : Plain) → item_at z items end ≡ Ok t → ListFine items → Fine end → Fine t
  item_fine (pos n) items end t e i k = by (slice_get items n) refl e
    where
      by : (q : Option Plain) → slice_get items n ≡ q → or_default q end ≡ Ok t → Fine t
      by (Some u) j f = subst Fine (same_made u t f) (found_fine items n u j i)
      by None j f = end_default end t f k
  item_fine (negsuc n) items end t e i k = end_default end t e k

  one_fine : (head : Head) (a : Plain) (r : Option Plain) → Fine (At head (More a Done)) → step_of_one head a ≡ Ok r → Fine (unwrap_or r (At head (More a Done)))
  one_fine (h.Operator o.Len) a r k i =
      items_or Fine (At (h.Operator o.Len) (More a Done)) k (items_of a) (λ items. Ok (literal (pos (length items)))) r i (λ items made j e. subst Fine (same_made (literal (pos (length items))) made e) (literal_fine (pos (length items))))
  one_fine (h.Operator o.Rev) a r k i =
      items_or Fine (At (h.Operator o.Rev) (More a Done)) k (items_of a) (λ items. chained (reverse items) (end_of a)) r i
      (λ items made j e. chained_fine (reverse items) (end_of a) made e (back_fine items (items_fine a items j (k.0.1.0, k.1.1.0))) (end_fine a (k.0.1.0, k.1.1.0)))
  one_fine (h.Operator o.Sum) a r k i = literal_or Fine (At (h.Operator o.Sum) (More a Done)) k (small (option_map total (option_and_then numbers_of (items_of a)))) r i (λ z j. literal_fine z)
  one_fine (h.Operator operator) a r k i = literal_or Fine (At (h.Operator operator) (More a Done)) k (small (option_and_then (number_of_one (h.Operator operator)) (literal_in a))) r i (λ z j. literal_fine z)
  one_fine head a r k i = literal_or Fine (At head (More a Done)) k (small (option_and_then (number_of_one head) (literal_in a))) r i (λ z j. literal_fine z)

  nth_fine : (q : Option ℤ) (a b : Plain) (r : Option Plain) → Fine (two o.Nth a b) → item_step q b ≡ Ok r → Fine (unwrap_or r (two o.Nth a b))
  nth_fine (Some z) a b r k i =
      items_or Fine (two o.Nth a b) k (items_of b) (λ items. item_at z items (end_of b)) r i
      (λ items made j e. item_fine z items (end_of b) made e (items_fine b items j (k.0.1.1.0, k.1.1.1.0)) (end_fine b (k.0.1.1.0, k.1.1.1.0)))
  nth_fine None a b r k i = nothing Fine (two o.Nth a b) k r i

  both_fine : (head : Head) (a b : Plain) (r : Option Plain) → Fine (At head (More a (More b Done))) → step_of_two head a b ≡ Ok r → Fine (unwrap_or r (At head (More a (More b Done))))
  both_fine (h.Operator o.Append) a b r k i =
      items_or Fine (two o.Append a b) k (items_of a) (λ items. chained items b) r i (λ items made j e. chained_fine items b made e (items_fine a items j (k.0.1.0, k.1.1.0)) (k.0.1.1.0, k.1.1.1.0))
  both_fine (h.Operator o.Nth) a b r k i = nth_fine (literal_in a) a b r k i
  both_fine (h.Operator operator) a b r k i = literal_or Fine (two operator a b) k (small (of_literals (number_of_two operator) (literal_in a) (literal_in b))) r i (λ z j. literal_fine z)
  both_fine head a b r k i = nothing Fine (At head (More a (More b Done))) k r i

  pub step_fine : (head : Head) (us : Plains) (r : Option Plain) → Fine (At head us) → step (At head us) ≡ Ok r → Fine (unwrap_or r (At head us))
  step_fine head Done r k i = nothing Fine (At head Done) k r i
  step_fine head (More a Done) r k i = one_fine head a r k i
  step_fine head (More a (More b Done)) r k i = both_fine head a b r k i
  step_fine head (More a (More b (More c us))) r k i = nothing Fine (At head (More a (More b (More c us)))) k r i
