-- What takes the place of a node keeps its sort and its value.
use Rattle.std.proofs.Common.{◌≡◌, ℤ, pos, Bool, true, false, cond, List, [], ◌∷◌, ◌++◌, length, reverse, Option, Some, None, Result, Ok, Err, refl, sym, ap, ◌∙◌, subst}
use Rattle.std.specs.Prelude.{option_and_then, option_map}
use Rattle.std.specs.Option.{unwrap_or}
use Rattle.std.proofs.lemmas.List.{append-nil}
use Rattle.floyd_text.specs.declared.refusal.No.{No}
use Rattle.floyd_tree_sorts.specs.declared.heads.Head.{Head}
use Rattle.floyd_tree_sorts.specs.declared.heads.Head.TheVariants as h
use Rattle.floyd_tree_sorts.specs.declared.operators.Operator.{Operator}
use Rattle.floyd_tree_sorts.specs.declared.operators.Operator.TheVariants.{Len, Rev, Sum, Nth, Append}
use Rattle.floyd_tree_sorts.specs.declared.sorts.Sort.{Sort}
use Rattle.floyd_tree_sorts.specs.Sorts.{list_sort}
use Rattle.floyd_tree_sorts.specs.Table.{sort_at}
use Rattle.floyd_tree.specs.Plain.{Plain, Plains, At, Done, More}
use Rattle.floyd_tree.specs.WellSorted.{sort_of, sorts_of}
use Rattle.floyd_tree_values.specs.BuiltIns.{Env}
use Rattle.floyd_tree_values.specs.Data.{Datum, Number, Val, Seq, Tree, Pair, HasSort, HaveSorts, default_of, items_in, number_in, seq}
use Rattle.floyd_tree_values.specs.Lists.{nth, sum}
use Rattle.floyd_tree_values.specs.Means.{Defs, Means, AllMean, built_in, none}
use Rattle.floyd_tree_values.proofs.Sorted.{listed_data}
use Rattle.floyd_fieldpath.specs.Nested.{literal}
use Rattle.floyd_fieldpath.specs.Sums.{is_small, literal_in, small, two}
use Rattle.floyd_folding.specs.Folding.{number_of_one, number_of_two, of_literals}
use Rattle.floyd_simplifying.specs.Simplified.{Step, folded_one, folded_two, item_step, literal_step, of_items, some_of, step, step_of_one, step_of_two}
use Rattle.floyd_simplifying.specs.WrittenLists.{chained, end_of, item_at, items_of, numbers_of, total}
use Rattle.floyd_simplifying.proofs.Keeping.{Kept, applies_one, applies_two, itself, literal_means, means_literal}
use Rattle.floyd_simplifying.proofs.ListsKept.{all_back, chain, counted, data_listed, each_back, found_means, found_sort, summed, written_means, written_sorts}
use Rattle.floyd_simplifying.proofs.NumbersKept.{one_kept, two_kept}
use Rattle.floyd_simplifying.proofs.Sorting.{append_takes, len_gives, nth_gives, number_is, one_sort, rev_gives, sort_is, sum_gives, two_sorts}

-- where there is a small number there is that number
small_by : (b : Bool) (x z : ℤ) → cond b (Option.Some x) None ≡ Some z → x ≡ z
small_by true x z e = number_is x z e
small_by false x z e = absurd cc

small_is : (q : Option ℤ) (z : ℤ) → small q ≡ Some z → q ≡ Some z
small_is (Some x) z e = ap Some (small_by (is_small x) x z e)
small_is None z e = absurd cc

one_given : (f : ℤ → Option ℤ) (q : Option ℤ) (z : ℤ) → option_and_then f q ≡ Some z → (x : ℤ) × (q ≡ Some x) × (f x ≡ Some z)
one_given f (Some x) z e = (x, refl, e)
one_given f None z e = absurd cc

both_given : (f : ℤ → ℤ → Option ℤ) (q r : Option ℤ) (z : ℤ) → of_literals f q r ≡ Some z → (x : ℤ) × (y : ℤ) × (q ≡ Some x) × (r ≡ Some y) × (f x y ≡ Some z)
both_given f (Some x) (Some y) z e = (x, y, refl, refl, e)
both_given f (Some x) None z e = absurd cc
both_given f None r z e = absurd cc

total_given : (q : Option (List ℤ)) (z : ℤ) → option_map total q ≡ Some z → (zs : List ℤ) × (q ≡ Some zs) × (total zs ≡ z)
total_given (Some zs) z e = (zs, refl, number_is (total zs) z e)
total_given None z e = absurd cc

numbers_given : (q : Option (List Plain)) (zs : List ℤ) → option_and_then numbers_of q ≡ Some zs → (items : List Plain) × (q ≡ Some items) × (numbers_of items ≡ Some zs)
numbers_given (Some items) zs e = (items, refl, e)
numbers_given None zs e = absurd cc

-- a datum of a list's sort is a list
is_list : (r : Sort) (d : Datum) → HasSort (list_sort r) d → d ≡ seq (items_in d)
is_list r (Seq items) k = ap Seq (sym (data_listed items))
is_list r (Number z) k = absurd k
is_list r (Val v) k = absurd k
is_list r (Tree t) k = absurd k
is_list r (Pair a b) k = absurd k

module _ (defs : Defs) (env : Env) (s : Sort) where
  -- the term, or what takes its place
  abbrev pub KeptBy : Plain → Option Plain → Type 0
  KeptBy node r = Kept defs env s node (unwrap_or r node)

  abbrev step_none : Step
  step_none = Ok None

  abbrev step_some : Plain → Step
  step_some t = Ok (Some t)

  none_is : (r : Option Plain) → step_none ≡ Ok r → None ≡ r
  none_is r e = cc

  some_is : (t : Plain) (r : Option Plain) → step_some t ≡ Ok r → Some t ≡ r
  some_is t r e = cc

  literal_or : (node : Plain) (q : Option ℤ) (r : Option Plain) → sort_of node ≡ Some s → literal_step q ≡ Ok r → ((z : ℤ) → q ≡ Some z → Kept defs env s node (literal z)) → KeptBy node r
  literal_or node (Some z) r e i k = subst (KeptBy node) (some_is (literal z) r i) (k z refl)
  literal_or node None r e i k = subst (KeptBy node) (none_is r i) (itself defs env s node e)

  made_or : (node : Plain) (x : Result Plain No) (r : Option Plain) → some_of x ≡ Ok r → ((made : Plain) → x ≡ Ok made → Kept defs env s node made) → KeptBy node r
  made_or node (Ok made) r i k = subst (KeptBy node) (some_is made r i) (k made refl)
  made_or node (Err refusal) r i k = absurd cc

  items_or : (node : Plain) (q : Option (List Plain)) (make : List Plain → Result Plain No) (r : Option Plain) → sort_of node ≡ Some s → of_items q make ≡ Ok r → ((items : List Plain) (made : Plain) → q ≡ Some items → make items ≡ Ok made → Kept defs env s node made) → KeptBy node r
  items_or node (Some items) make r e i k = made_or node (make items) r i (λ made j. k items made refl j)
  items_or node None make r e i k = subst (KeptBy node) (none_is r i) (itself defs env s node e)

  -- of one kid
  module _ (a : Plain) (ss : List Sort) (sorts : sorts_of (More a Done) ≡ Some ss) where
    abbrev over : Head → Plain
    over head = At head (More a Done)

    node_sorted : (head : Head) → sort_at head ss ≡ Some s → sort_of (over head) ≡ Some s
    node_sorted head f = ap (option_and_then (sort_at head)) sorts ∙ f

    one_folded : (head : Head) (r : Option Plain) → sort_at head ss ≡ Some s → folded_one head a ≡ Ok r → KeptBy (over head) r
    one_folded head r f i =
        literal_or (over head) (small (option_and_then (number_of_one head) (literal_in a))) r (node_sorted head f) i
        (λ z j.
        let p = one_given (number_of_one head) (literal_in a) z (small_is (option_and_then (number_of_one head) (literal_in a)) z j) in
        one_kept defs env head a p.0 z ss s p.1 p.2 sorts f)

    -- the kid is a list that is written out
    list_under : (operator : Operator) (items : List Plain) → items_of a ≡ Some items → sort_at (h.Operator operator) ss ≡ Some s → (r : Sort) × (sort_at (h.Operator operator) (list_sort r ∷ []) ≡ Some s) × (p : Sort) × (sort_of a ≡ Some p)
    list_under operator items i f =
        let t = one_sort a ss sorts in
        let w = written_sorts a items t.0 i t.1 in
        (w.0, subst (λ rs. sort_at (h.Operator operator) rs ≡ Some s) (t.2 ∙ ap (λ p. p ∷ []) w.1) f, t.0, t.1)

    len_kept : (items : List Plain) → items_of a ≡ Some items → sort_at (h.Operator Len) ss ≡ Some s → Kept defs env s (over (h.Operator Len)) (literal (pos (length items)))
    len_kept items i f =
        let l = list_under Len items i f in
        record {
          sort = ap Some (sym (len_gives l.0 s l.1));
          means = λ d m.
              let p = applies_one defs env (h.Operator Len) a d refl m in
              let w = written_means defs env a items p.datum i p.means in
              let is : d ≡ Number (pos (length items)) = p.is ∙ ap (λ x. Number (pos (length (items_in x)))) w.2 ∙ ap (λ ds. Number (pos (length ds))) (listed_data w.0) ∙ ap (λ n. Number (pos n)) (counted defs env items w.0 w.1) in
              subst (Means defs env (literal (pos (length items)))) (sym is) (means_literal defs env (pos (length items)));
        }

    rev_kept : (items : List Plain) (made : Plain) → items_of a ≡ Some items → chained (reverse items) (end_of a) ≡ Ok made → sort_at (h.Operator Rev) ss ≡ Some s → Kept defs env s (over (h.Operator Rev)) made
    rev_kept items made i j f =
        let t = one_sort a ss sorts in
        let w = written_sorts a items t.0 i t.1 in
        let is : s ≡ list_sort w.0 = rev_gives w.0 s (subst (λ rs. sort_at (h.Operator Rev) rs ≡ Some s) (t.2 ∙ ap (λ p. p ∷ []) w.1) f) in
        let c = chain defs env w.0 (reverse items) (At (h.Nil w.0) Done) made (subst (λ e. chained (reverse items) e ≡ Ok made) w.2.end j) (each_back w.0 items w.2.each) refl in
        record {
          sort = c.sort ∙ ap Some (sym is);
          means = λ d m.
              let p = applies_one defs env (h.Operator Rev) a d refl m in
              let v = written_means defs env a items p.datum i p.means in
              let value : d ≡ seq (reverse v.0) = p.is ∙ ap (λ x. seq (reverse (items_in x))) v.2 ∙ ap (λ ds. seq (reverse ds)) (listed_data v.0) in
              let there : Means defs env made (seq (reverse v.0 ++ [])) = c.means (reverse v.0) [] (all_back defs env items v.0 v.1) (built_in {head = h.Nil w.0} {s = list_sort w.0} refl refl none) in
              subst (Means defs env made) (ap seq (append-nil (reverse v.0)) ∙ sym value) there;
        }

    sum_kept : (items : List Plain) (zs : List ℤ) → items_of a ≡ Some items → numbers_of items ≡ Some zs → sort_at (h.Operator Sum) ss ≡ Some s → Kept defs env s (over (h.Operator Sum)) (literal (total zs))
    sum_kept items zs i j f =
        let l = list_under Sum items i f in
        record {
          sort = ap Some (sym (sum_gives l.0 s l.1));
          means = λ d m.
              let p = applies_one defs env (h.Operator Sum) a d refl m in
              let w = written_means defs env a items p.datum i p.means in
              let is : d ≡ Number (total zs) = p.is ∙ ap (λ x. Number (sum (items_in x))) w.2 ∙ ap (λ ds. Number (sum ds)) (listed_data w.0) ∙ ap Number (summed defs env items zs w.0 j w.1) in
              subst (Means defs env (literal (total zs))) (sym is) (means_literal defs env (total zs));
        }

    sum_or : (r : Option Plain) → sort_at (h.Operator Sum) ss ≡ Some s → step_of_one (h.Operator Sum) a ≡ Ok r → KeptBy (over (h.Operator Sum)) r
    sum_or r f i =
        literal_or (over (h.Operator Sum)) (small (option_map total (option_and_then numbers_of (items_of a)))) r (node_sorted (h.Operator Sum) f) i
        (λ z j.
        let p = total_given (option_and_then numbers_of (items_of a)) z (small_is (option_map total (option_and_then numbers_of (items_of a))) z j) in
        let q = numbers_given (items_of a) p.0 p.1 in
        subst (λ x. Kept defs env s (over (h.Operator Sum)) (literal x)) p.2 (sum_kept q.0 p.0 q.1 q.2 f))

    pub kept_one : (head : Head) (r : Option Plain) → sort_at head ss ≡ Some s → step_of_one head a ≡ Ok r → KeptBy (over head) r
    kept_one (h.Operator Len) r f i =
        items_or (over (h.Operator Len)) (items_of a) (λ items. Ok (literal (pos (length items)))) r (node_sorted (h.Operator Len) f) i
        (λ items made j k. subst (Kept defs env s (over (h.Operator Len))) (same (literal (pos (length items))) made k) (len_kept items j f))
      where
        same : (t u : Plain) → ◌≡◌ {A = Result Plain No} (Ok t) (Ok u) → t ≡ u
        same t u e = cc
    kept_one (h.Operator Rev) r f i =
        items_or (over (h.Operator Rev)) (items_of a) (λ items. chained (reverse items) (end_of a)) r (node_sorted (h.Operator Rev) f) i (λ items made j k. rev_kept items made j k f)
    kept_one (h.Operator Sum) r f i = sum_or r f i
    kept_one (h.Operator operator) r f i = one_folded (h.Operator operator) r f i
    kept_one head r f i = one_folded head r f i

  -- of two kids, whose data have their sorts
  module _ (a b : Plain) (ss : List Sort) (sorts : sorts_of (More a (More b Done)) ≡ Some ss) (typed : (ds : List Datum) → AllMean defs env (More a (More b Done)) ds → HaveSorts ss ds) where
    two_sorted : (operator : Operator) → sort_at (h.Operator operator) ss ≡ Some s → sort_of (two operator a b) ≡ Some s
    two_sorted operator f = ap (option_and_then (sort_at (h.Operator operator))) sorts ∙ f

    two_folded : (operator : Operator) (r : Option Plain) → sort_at (h.Operator operator) ss ≡ Some s → folded_two operator a b ≡ Ok r → KeptBy (two operator a b) r
    two_folded operator r f i =
        literal_or (two operator a b) (small (of_literals (number_of_two operator) (literal_in a) (literal_in b))) r (two_sorted operator f) i
        (λ z j.
        let p = both_given (number_of_two operator) (literal_in a) (literal_in b) z (small_is (of_literals (number_of_two operator) (literal_in a) (literal_in b)) z j) in
        two_kept defs env operator a b p.0 p.1 z ss s p.2 p.3 p.4 sorts f)

    append_kept : (items : List Plain) (made : Plain) → items_of a ≡ Some items → chained items b ≡ Ok made → sort_at (h.Operator Append) ss ≡ Some s → Kept defs env s (two Append a b) made
    append_kept items made i j f =
        let t = two_sorts a b ss sorts in
        let w = written_sorts a items t.0 i t.2 in
        let l = append_takes w.0 t.1 s (subst (λ rs. sort_at (h.Operator Append) rs ≡ Some s) (t.4 ∙ ap (λ p. p ∷ t.1 ∷ []) w.1) f) in
        let c = chain defs env w.0 items b made j w.2.each (t.3 ∙ ap Some l.0) in
        record {
          sort = c.sort ∙ ap Some (sym l.1);
          means = λ d m.
              let p = applies_two defs env Append a b d m in
              let v = written_means defs env a items p.first i p.left in
              let have : HaveSorts (t.0 ∷ t.1 ∷ []) (p.first ∷ p.second ∷ []) = subst (λ rs. HaveSorts rs (p.first ∷ p.second ∷ [])) t.4 (typed (p.first ∷ p.second ∷ []) p.both) in
              let of_list : HasSort (list_sort w.0) p.second = subst (λ q. HasSort q p.second) l.0 have.1.0 in
              let value : d ≡ seq (v.0 ++ items_in p.second) = p.is ∙ ap (λ x. seq (items_in x ++ items_in p.second)) v.2 ∙ ap (λ ds. seq (ds ++ items_in p.second)) (listed_data v.0) in
              subst (Means defs env made) (sym value) (c.means v.0 (items_in p.second) v.1 (subst (Means defs env b) (is_list w.0 p.second of_list) p.right));
        }

    nth_kept : (z : ℤ) (items : List Plain) (made : Plain) → literal_in a ≡ Some z → items_of b ≡ Some items → item_at z items (end_of b) ≡ Ok made → sort_at (h.Operator Nth) ss ≡ Some s → Kept defs env s (two Nth a b) made
    nth_kept z items made k i j f =
        let t = two_sorts a b ss sorts in
        let w = written_sorts b items t.1 i t.3 in
        let is : s ≡ w.0 = nth_gives t.0 w.0 s (subst (λ rs. sort_at (h.Operator Nth) rs ≡ Some s) (t.4 ∙ ap (λ q. t.0 ∷ q ∷ []) w.1) f) in
        let at : item_at z items (At (h.Nil w.0) Done) ≡ Ok made = subst (λ e. item_at z items e ≡ Ok made) w.2.end j in
        record {
          sort = found_sort defs env w.0 z items made w.2.each at ∙ ap Some (sym is);
          means = λ d m.
              let p = applies_two defs env Nth a b d m in
              let v = written_means defs env b items p.second i p.right in
              let own : p.sort ≡ w.0 = sort_is p.sort s (sym p.sorted ∙ two_sorted Nth f) ∙ is in
              let value : d ≡ nth (default_of w.0) z v.0 =
              p.is
              ∙ ap (λ x. nth (default_of p.sort) (number_in x) (items_in p.second)) (literal_means defs env a z p.first k p.left)
              ∙ ap (λ x. nth (default_of p.sort) z (items_in x)) v.2
              ∙ ap (nth (default_of p.sort) z) (listed_data v.0)
              ∙ ap (λ q. nth (default_of q) z v.0) own in
              subst (Means defs env made) (sym value) (found_means defs env w.0 z items v.0 made v.1 at);
        }

    item_or : (q : Option ℤ) (r : Option Plain) → literal_in a ≡ q → sort_at (h.Operator Nth) ss ≡ Some s → item_step q b ≡ Ok r → KeptBy (two Nth a b) r
    item_or (Some z) r k f i =
        items_or (two Nth a b) (items_of b) (λ items. item_at z items (end_of b)) r (two_sorted Nth f) i (λ items made e j. nth_kept z items made k e j f)
    item_or None r k f i = subst (KeptBy (two Nth a b)) (none_is r i) (itself defs env s (two Nth a b) (two_sorted Nth f))

    pub kept_two : (head : Head) (r : Option Plain) → sort_at head ss ≡ Some s → step_of_two head a b ≡ Ok r → KeptBy (At head (More a (More b Done))) r
    kept_two (h.Operator Append) r f i =
        items_or (two Append a b) (items_of a) (λ items. chained items b) r (two_sorted Append f) i (λ items made j k. append_kept items made j k f)
    kept_two (h.Operator Nth) r f i = item_or (literal_in a) r refl f i
    kept_two (h.Operator operator) r f i = two_folded operator r f i
    kept_two head r f i = subst (KeptBy (At head (More a (More b Done)))) (none_is r i) (itself defs env s (At head (More a (More b Done))) (ap (option_and_then (sort_at head)) sorts ∙ f))

  -- over kids whose data have their sorts
  pub step_kept : (head : Head) (us : Plains) (ss : List Sort) → sorts_of us ≡ Some ss → sort_at head ss ≡ Some s → ((ds : List Datum) → AllMean defs env us ds → HaveSorts ss ds) → (r : Option Plain) → step (At head us) ≡ Ok r → KeptBy (At head us) r
  step_kept head Done ss e f typed r i = subst (KeptBy (At head Done)) (none_is r i) (itself defs env s (At head Done) (ap (option_and_then (sort_at head)) e ∙ f))
  step_kept head (More a Done) ss e f typed r i = kept_one a ss e head r f i
  step_kept head (More a (More b Done)) ss e f typed r i = kept_two a b ss e typed head r f i
  step_kept head (More a (More b (More c us))) ss e f typed r i =
      subst (KeptBy (At head (More a (More b (More c us))))) (none_is r i) (itself defs env s (At head (More a (More b (More c us)))) (ap (option_and_then (sort_at head)) e ∙ f))
