-- A goal is true where it is for each constructor in the place of a variable.
use Rattle.std.proofs.Common.{◌≡◌, ◌⊎◌, inl, inr, ℕ, Bool, true, false, ◌||◌, cond, List, [], ◌∷◌, ◌++◌, map, length, All, Option, Some, None, Result, Ok, Err, refl, sym, ap, subst, ◌∙◌, true≢false}
use Rattle.std.specs.Prelude.{bytes_eq, nat_eq, option_and_then}
use Rattle.std.specs.Map.{lookup}
use Rattle.std.proofs.lemmas.Bool.Decides.{Decides-eqb}
use Rattle.std.proofs.lemmas.List.Elements.{All-head, All-tail}
use Rattle.std.proofs.lemmas.Slice.Eq.{bytes_eq-Decides}
use Rattle.floyd_text.specs.declared.refusal.No.{No}
use Rattle.floyd_tree_sorts.specs.declared.heads.Head.TheVariants as h
use Rattle.floyd_tree_sorts.specs.declared.operators.Operator.TheVariants as o
use Rattle.floyd_tree_sorts.specs.declared.sorts.Sort.{Sort}
use Rattle.floyd_tree_sorts.specs.Sorts.{list_sort, tree_sort}
use Rattle.floyd_tree.specs.Made.{fits}
use Rattle.floyd_tree.specs.Plain.{Plain}
use Rattle.floyd_tree.specs.WellSorted.{sort_of}
use Rattle.floyd_tree_values.specs.BuiltIns.{Env}
use Rattle.floyd_tree_values.specs.Data.{Datum, Data, DataTree, Number, Val, Seq, Tree, Pair, Empty, Item, Leaf, Node, AllIn, HasSort, data_of, listed}
use Rattle.floyd_tree_values.specs.Means.{Defs, Means, built_in, none, more}
use Rattle.floyd_tree_values.specs.Rules.{Suits}
use Rattle.floyd_truth.specs.Truth.{Truth, AllTrue}
use Rattle.floyd_truth.proofs.OneTruth.{giving, put}
use Rattle.floyd_assert_trees.specs.declared.binder.Binder.{Binder}
use Rattle.floyd_assert_changes.specs.Changed.{has_name}
use Rattle.floyd_goal_changes.specs.Changed.{of_two}
use Rattle.floyd_goal_trees.specs.declared.args.Args.{Args}
use Rattle.floyd_goal_trees.specs.declared.goal.Goal.{Goal}
use Rattle.floyd_goal_trees.specs.declared.goal.Goal.TheVariants as g
use Rattle.floyd_goal_trees.specs.declared.goal.Pure.{Pure}
use Rattle.floyd_goal.specs.Goals.{wrong_goal}
use Rattle.floyd_goal.specs.Sides.{context_of}
use Rattle.floyd_goal_formulas.specs.Fits.{Fits}
use Rattle.floyd_goal_truth.specs.Scopes.{AllFit, scope_of}
use Rattle.floyd_goal_truth.specs.Truths.{Under}
use Rattle.floyd_pure_formulas.specs.declared.constructors.Constructors.{Constructors}
use Rattle.floyd_pure_formulas.specs.Holds.{Specs}
use Rattle.floyd_pure_formulas.specs.Keeps.{AreTrueFrom, IsTrueFrom}
use Rattle.floyd_pure_formulas.specs.Naming.{variable}
use Rattle.floyd_pure_formulas.specs.VariableCases.{binders, built, case_with, constructors_of, first_taken, of_binders, of_constructors, of_list, of_tree, sort_named, unless_taken, variable_cases, without, zipped}
use Rattle.floyd_pure_formulas.proofs.Building.{Built, lists, trees, built_by, list_is, three, tree_is, two}
use Rattle.floyd_pure_formulas.proofs.Exchanged.{case_true, pair}
use Rattle.floyd_pure_formulas.proofs.NewVariables.{found_by}
use Rattle.floyd_pure_formulas.proofs.Rowing.{goals_are, no_goals}

pub nat_eq_is : (m n : ℕ) → nat_eq m n ≡ true → m ≡ n
nat_eq_is m n e = (Decides-eqb m n).0 e

-- what is found in a list with others behind it
pub found_in : (xs bs : List Binder) (v : List ℕ) (r : Sort) → lookup (bytes_eq v) (map pair (xs ++ bs)) ≡ Some r → (lookup (bytes_eq v) (map pair xs) ≡ Some r) ⊎ (lookup (bytes_eq v) (map pair bs) ≡ Some r)
found_in [] bs v r e = inr e
found_in (a ∷ xs) bs v r e =
    found_by (bytes_eq v a.name) a.sort (lookup (bytes_eq v) (map pair (xs ++ bs))) (lookup (bytes_eq v) (map pair xs)) (lookup (bytes_eq v) (map pair bs) ≡ Some r) r (λ i. found_in xs bs v r i) e

-- the name of a binder differs from one that the binder does not have
differs : (v x a : List ℕ) → bytes_eq v a ≡ true → bytes_eq x a ≡ false → bytes_eq v x ≡ false
differs v x a i k = by (bytes_eq v x) refl
  where
    by : (c : Bool) → bytes_eq v x ≡ c → bytes_eq v x ≡ false
    by false j = j
    by true j =
        let same : v ≡ x = (bytes_eq-Decides v x).0 j in
        absurd (true≢false (sym (subst (λ n. bytes_eq n a ≡ true) same i) ∙ k))

-- what is found without x is found with it, and is not x
abbrev pub FoundToo : List ℕ → List Binder → List ℕ → Sort → Type 0
FoundToo x xs v r = (lookup (bytes_eq v) (map pair xs) ≡ Some r) × (bytes_eq v x ≡ false)

here_too : (x : List ℕ) (a : Binder) (xs : List Binder) (v : List ℕ) (r : Sort) → (lookup (bytes_eq v) (map pair (without x xs)) ≡ Some r → FoundToo x xs v r) → (c : Bool) → bytes_eq v a.name ≡ c → bytes_eq x a.name ≡ false → cond c (Some a.sort) (lookup (bytes_eq v) (map pair (without x xs))) ≡ Some r → (cond c (Some a.sort) (lookup (bytes_eq v) (map pair xs)) ≡ Some r) × (bytes_eq v x ≡ false)
here_too x a xs v r again true i k e = (e, differs v x a.name i k)
here_too x a xs v r again false i k e = again e

skipped_too : (x : List ℕ) (a : Binder) (xs : List Binder) (v : List ℕ) (r : Sort) → (c : Bool) → bytes_eq v a.name ≡ c → bytes_eq x a.name ≡ true → FoundToo x xs v r → (cond c (Some a.sort) (lookup (bytes_eq v) (map pair xs)) ≡ Some r) × (bytes_eq v x ≡ false)
skipped_too x a xs v r true i k p =
    let same : x ≡ a.name = (bytes_eq-Decides x a.name).0 k in
    absurd (true≢false (sym (subst (λ n. bytes_eq v n ≡ true) (sym same) i) ∙ p.1))
skipped_too x a xs v r false i k p = p

either_too : (x : List ℕ) (a : Binder) (xs : List Binder) (v : List ℕ) (r : Sort) → (lookup (bytes_eq v) (map pair (without x xs)) ≡ Some r → FoundToo x xs v r) → (c : Bool) → bytes_eq x a.name ≡ c → lookup (bytes_eq v) (map pair (cond c (without x xs) (a ∷ without x xs))) ≡ Some r → FoundToo x (a ∷ xs) v r
either_too x a xs v r again true k e = skipped_too x a xs v r (bytes_eq v a.name) refl k (again e)
either_too x a xs v r again false k e = here_too x a xs v r again (bytes_eq v a.name) refl k e

pub found_without : (x : List ℕ) (xs : List Binder) (v : List ℕ) (r : Sort) → lookup (bytes_eq v) (map pair (without x xs)) ≡ Some r → FoundToo x xs v r
found_without x [] v r e = absurd cc
found_without x (a ∷ xs) v r e = either_too x a xs v r (λ i. found_without x xs v r i) (bytes_eq x a.name) refl e

sort_by : (c : Bool) (sort s : Sort) (o p : Option Sort) → (o ≡ Some s → p ≡ Some s) → cond c (Some sort) o ≡ Some s → cond c (Some sort) p ≡ Some s
sort_by true sort s o p k e = e
sort_by false sort s o p k e = k e

pub sort_found : (x : List ℕ) (xs : List Binder) (s : Sort) → sort_named x xs ≡ Some s → lookup (bytes_eq x) (map pair xs) ≡ Some s
sort_found x [] s e = absurd cc
sort_found x (a ∷ xs) s e = sort_by (bytes_eq x a.name) a.sort s (sort_named x xs) (lookup (bytes_eq x) (map pair xs)) (λ i. sort_found x xs s i) e

-- a name that no binder has is not found
other_here : (x v : List ℕ) (a : Binder) (o : Option Sort) (r : Sort) → (o ≡ Some r → bytes_eq v x ≡ false) → (c : Bool) → bytes_eq v a.name ≡ c → bytes_eq x a.name ≡ false → cond c (Some a.sort) o ≡ Some r → bytes_eq v x ≡ false
other_here x v a o r again true i k e = differs v x a.name i k
other_here x v a o r again false i k e = again e

other_named : (x v : List ℕ) (a : Binder) (others : Bool) (o : Option Sort) (r : Sort) → (others ≡ false → o ≡ Some r → bytes_eq v x ≡ false) → (c : Bool) → bytes_eq x a.name ≡ c → (c || others) ≡ false → cond (bytes_eq v a.name) (Some a.sort) o ≡ Some r → bytes_eq v x ≡ false
other_named x v a others o r again true k h e = absurd (true≢false h)
other_named x v a others o r again false k h e = other_here x v a o r (λ i. again h i) (bytes_eq v a.name) refl k e

not_named : (x : List ℕ) (xs : List Binder) → has_name x xs ≡ false → (v : List ℕ) (r : Sort) → lookup (bytes_eq v) (map pair xs) ≡ Some r → bytes_eq v x ≡ false
not_named x [] h v r e = absurd cc
not_named x (a ∷ xs) h v r e = other_named x v a (has_name x xs) (lookup (bytes_eq v) (map pair xs)) r (λ k i. not_named x xs k v r i) (bytes_eq x a.name) refl h e

-- variables mean their data
put_own : (f : List ℕ → Datum) (x : List ℕ) (d : Datum) → put f x d x ≡ d
put_own f x d = ap (λ c. cond c d (f x)) ((bytes_eq-Decides x x).1 refl)

put_other : (f : List ℕ → Datum) (x v : List ℕ) (d : Datum) → bytes_eq v x ≡ false → put f x d v ≡ f v
put_other f x v d e = ap (λ c. cond c d (f v)) e

means_variable : (defs : Defs) (env : Env) (f : List ℕ → Datum) (x : List ℕ) (s : Sort) (d : Datum) → f x ≡ d → Means defs (giving env f) (variable x s) d
means_variable defs env f x s d e = subst (Means defs (giving env f) (variable x s)) e (built_in {head = h.Variable x s} {s = s} refl refl none)

pub data_listed : (items : Data) → data_of (listed items) ≡ items
data_listed Empty = refl
data_listed (Item d items) = ap (λ x. Item d x) (data_listed items)

-- what is not taken is not in the context, and differs from the others
left_false : (a b : Bool) → (a || b) ≡ false → (a ≡ false) × (b ≡ false)
left_false true b e = absurd cc
left_false false b e = (refl, e)

not_taken : (p : Bool) (x : List ℕ) (rest : Option (List ℕ)) → cond p (Some x) rest ≡ None → (p ≡ false) × (rest ≡ None)
not_taken true x rest e = absurd cc
not_taken false x rest e = (refl, e)

pub record Fresh (variables earlier : List Binder) (x : List ℕ) : Type 0 where
  pub free : has_name x variables ≡ false
  pub apart : has_name x earlier ≡ false

pub fresh : (variables earlier : List Binder) (b : Binder) (new : List Binder) → first_taken variables earlier (b ∷ new) ≡ None → Fresh variables earlier b.name × (first_taken variables (earlier ++ b ∷ []) new ≡ None)
fresh variables earlier b new e =
    let p = not_taken (has_name b.name variables || has_name b.name earlier) b.name (first_taken variables (earlier ++ b ∷ []) new) e in
    let q = left_false (has_name b.name variables) (has_name b.name earlier) p.0 in
    (record { free = q.0; apart = q.1 }, p.1)

module _ (defs : Defs) (specs : Specs) (pure : Pure) (x : List ℕ) (env : Env) (hyps_fit : AllFit defs pure.context pure.context.hypotheses) (fit : Fits defs (scope_of pure.context) pure.target) (suits : Suits (scope_of pure.context) env) (hyps : AllTrue defs specs env pure.context.hypotheses) where
  -- the same data suit the context without x
  suits_less : Suits (map pair (without x pure.context.variables ++ [])) env
  suits_less = record { each = λ v r e. by v r (found_in (without x pure.context.variables) [] v r e) }
    where
      by : (v : List ℕ) (r : Sort) → (lookup (bytes_eq v) (map pair (without x pure.context.variables)) ≡ Some r) ⊎ (lookup (bytes_eq v) (map pair []) ≡ Some r) → HasSort r (env.variables v)
      by v r (inl e) = suits.each v r (found_without x pure.context.variables v r e).0
      by v r (inr e) = absurd cc

  -- where the variable is the constructor without arguments
  empty_true : (sort : Sort) (t : Plain) (made : Goal) → lookup (bytes_eq x) (scope_of pure.context) ≡ Some sort → sort_of t ≡ Some sort → fits t ≡ true → case_with (g.Pure pure) x t [] ≡ Ok made → IsTrueFrom defs specs pure.context env made → Means defs env t (env.variables x) → Truth defs specs env pure.target
  empty_true sort t made here sorted small row true' means =
      case_true defs specs pure x sort t [] made env env.variables hyps_fit fit hyps here sorted small row true' (λ v r i. refl) means suits_less

  -- data that are put for new variables suit the new context, where they have their sorts
  suits_new : (new : List Binder) (f : List ℕ → Datum) → ((v : List ℕ) (r : Sort) → lookup (bytes_eq v) (scope_of pure.context) ≡ Some r → env.variables v ≡ f v) → ((v : List ℕ) (r : Sort) → lookup (bytes_eq v) (map pair new) ≡ Some r → HasSort r (f v)) → Suits (map pair (without x pure.context.variables ++ new)) (giving env f)
  suits_new new f same own = record { each = λ v r e. by v r (found_in (without x pure.context.variables) new v r e) }
    where
      by : (v : List ℕ) (r : Sort) → (lookup (bytes_eq v) (map pair (without x pure.context.variables)) ≡ Some r) ⊎ (lookup (bytes_eq v) (map pair new) ≡ Some r) → HasSort r (f v)
      by v r (inl e) =
          let known = (found_without x pure.context.variables v r e).0 in
          subst (HasSort r) (same v r known) (suits.each v r known)
      by v r (inr e) = own v r e

  module _ (s : Sort) (y z : List ℕ) (item : Datum) (rest : Data) (is : env.variables x ≡ Seq (Item item rest)) (has : All (HasSort s) (item ∷ listed rest)) (here : lookup (bytes_eq x) (scope_of pure.context) ≡ Some (list_sort s)) where
    abbrev first : Binder
    first = record { name = y; sort = s }

    abbrev second : Binder
    second = record { name = z; sort = list_sort s }

    module _ (y_free : Fresh pure.context.variables [] y) (z_free : Fresh pure.context.variables (first ∷ []) z) where
      abbrev f : List ℕ → Datum
      f = put (put env.variables y item) z (Seq rest)

      y_other : bytes_eq y z ≡ false
      y_other = by (bytes_eq y z) refl
        where
          by : (c : Bool) → bytes_eq y z ≡ c → bytes_eq y z ≡ false
          by false e = e
          by true e =
              let same : y ≡ z = (bytes_eq-Decides y z).0 e in
              let p = left_false (bytes_eq z y) false z_free.apart in
              absurd (true≢false (sym ((bytes_eq-Decides z y).1 (sym same)) ∙ p.0))

      f_y : f y ≡ item
      f_y = put_other (put env.variables y item) z y (Seq rest) y_other ∙ put_own env.variables y item

      f_z : f z ≡ Seq rest
      f_z = put_own (put env.variables y item) z (Seq rest)

      kept : (v : List ℕ) (r : Sort) → lookup (bytes_eq v) (scope_of pure.context) ≡ Some r → env.variables v ≡ f v
      kept v r e =
          sym (put_other (put env.variables y item) z v (Seq rest) (not_named z pure.context.variables z_free.free v r e)
          ∙ put_other env.variables y v item (not_named y pure.context.variables y_free.free v r e))

      own_sorts : (v : List ℕ) (r : Sort) → lookup (bytes_eq v) (map pair (first ∷ second ∷ [])) ≡ Some r → HasSort r (f v)
      own_sorts v r e = by (bytes_eq v y) refl (bytes_eq v z) refl e
        where
          by : (c : Bool) → bytes_eq v y ≡ c → (q : Bool) → bytes_eq v z ≡ q → cond c (Some s) (cond q (Some (list_sort s)) None) ≡ Some r → HasSort r (f v)
          by true i q k e =
              let name : v ≡ y = (bytes_eq-Decides v y).0 i in
              let sort : s ≡ r = cc in
              subst (λ n. HasSort r (f n)) (sym name) (subst (λ o. HasSort o (f y)) sort (subst (HasSort s) (sym f_y) (All-head (HasSort s) item (listed rest) has)))
          by false i true k e =
              let name : v ≡ z = (bytes_eq-Decides v z).0 k in
              let sort : list_sort s ≡ r = cc in
              subst (λ n. HasSort r (f n)) (sym name) (subst (λ o. HasSort o (f z)) sort (subst (HasSort (list_sort s)) (sym f_z) (All-tail (HasSort s) item (listed rest) has)))
          by false i false k e = absurd cc

      means_cons : Means defs (giving env f) (built (of_list s) (first ∷ second ∷ [])) (env.variables x)
      means_cons =
          let whole : Seq (Item item (data_of (listed rest))) ≡ env.variables x = ap (λ r. Seq (Item item r)) (data_listed rest) ∙ sym is in
          subst (Means defs (giving env f) (built (of_list s) (first ∷ second ∷ []))) whole
          (built_in {head = h.Operator o.Cons} {s = list_sort s} refl ((list_is s).sorted (y ∷ z ∷ []) refl) (more (means_variable defs env f y s item f_y) (more (means_variable defs env f z (list_sort s) (Seq rest) f_z) none)))

      cons_true : (made : Goal) → case_with (g.Pure pure) x (built (of_list s) (first ∷ second ∷ [])) (first ∷ second ∷ []) ≡ Ok made → IsTrueFrom defs specs pure.context env made → Truth defs specs env pure.target
      cons_true made row true' =
          case_true defs specs pure x (list_sort s) (built (of_list s) (first ∷ second ∷ [])) (first ∷ second ∷ []) made env f hyps_fit fit hyps here ((list_is s).sorted (y ∷ z ∷ []) refl) ((list_is s).fitting (y ∷ z ∷ []) refl) row true' kept means_cons (suits_new (first ∷ second ∷ []) f kept own_sorts)

  module _ (s : Sort) (y z w : List ℕ) (left : DataTree) (item : Datum) (right : DataTree) (is : env.variables x ≡ Tree (Node left item right)) (has : AllIn (HasSort s) left × HasSort s item × AllIn (HasSort s) right) (here : lookup (bytes_eq x) (scope_of pure.context) ≡ Some (tree_sort s)) where
    abbrev of_left : Binder
    of_left = record { name = y; sort = tree_sort s }

    abbrev of_item : Binder
    of_item = record { name = z; sort = s }

    abbrev of_right : Binder
    of_right = record { name = w; sort = tree_sort s }

    abbrev all_three : List Binder
    all_three = of_left ∷ of_item ∷ of_right ∷ []

    module _ (y_free : Fresh pure.context.variables [] y) (z_free : Fresh pure.context.variables (of_left ∷ []) z) (w_free : Fresh pure.context.variables (of_left ∷ of_item ∷ []) w) where
      abbrev at_first : List ℕ → Datum
      at_first = put env.variables y (Tree left)

      abbrev at_second : List ℕ → Datum
      at_second = put at_first z item

      abbrev at_third : List ℕ → Datum
      at_third = put at_second w (Tree right)

      other_way : (a b : List ℕ) → bytes_eq b a ≡ false → bytes_eq a b ≡ false
      other_way a b e = by (bytes_eq a b) refl
        where
          by : (c : Bool) → bytes_eq a b ≡ c → bytes_eq a b ≡ false
          by false k = k
          by true k = absurd (true≢false (sym ((bytes_eq-Decides b a).1 (sym ((bytes_eq-Decides a b).0 k))) ∙ e))

      y_z : bytes_eq y z ≡ false
      y_z = other_way y z (left_false (bytes_eq z y) false z_free.apart).0

      y_w : bytes_eq y w ≡ false
      y_w = other_way y w (left_false (bytes_eq w y) (bytes_eq w z || false) w_free.apart).0

      z_w : bytes_eq z w ≡ false
      z_w = other_way z w (left_false (bytes_eq w z) false (left_false (bytes_eq w y) (bytes_eq w z || false) w_free.apart).1).0

      is_y : at_third y ≡ Tree left
      is_y = put_other at_second w y (Tree right) y_w ∙ put_other at_first z y item y_z ∙ put_own env.variables y (Tree left)

      is_z : at_third z ≡ item
      is_z = put_other at_second w z (Tree right) z_w ∙ put_own at_first z item

      is_w : at_third w ≡ Tree right
      is_w = put_own at_second w (Tree right)

      all_kept : (v : List ℕ) (r : Sort) → lookup (bytes_eq v) (scope_of pure.context) ≡ Some r → env.variables v ≡ at_third v
      all_kept v r e =
          sym (put_other at_second w v (Tree right) (not_named w pure.context.variables w_free.free v r e)
          ∙ put_other at_first z v item (not_named z pure.context.variables z_free.free v r e)
          ∙ put_other env.variables y v (Tree left) (not_named y pure.context.variables y_free.free v r e))

      of_own : (v a : List ℕ) (q r : Sort) (d : Datum) → bytes_eq v a ≡ true → Option.Some q ≡ Some r → at_third a ≡ d → HasSort q d → HasSort r (at_third v)
      of_own v a q r d i e k p =
          let name : v ≡ a = (bytes_eq-Decides v a).0 i in
          let sort : q ≡ r = cc in
          subst (λ n. HasSort r (at_third n)) (sym name) (subst (λ o. HasSort o (at_third a)) sort (subst (HasSort q) (sym k) p))

      all_sorts : (v : List ℕ) (r : Sort) → lookup (bytes_eq v) (map pair all_three) ≡ Some r → HasSort r (at_third v)
      all_sorts v r e = by (bytes_eq v y) refl (bytes_eq v z) refl (bytes_eq v w) refl e
        where
          by : (a : Bool) → bytes_eq v y ≡ a → (b : Bool) → bytes_eq v z ≡ b → (c : Bool) → bytes_eq v w ≡ c → cond a (Some (tree_sort s)) (cond b (Some s) (cond c (Some (tree_sort s)) None)) ≡ Some r → HasSort r (at_third v)
          by true i b j c k e = of_own v y (tree_sort s) r (Tree left) i e is_y has.0
          by false i true j c k e = of_own v z s r item j e is_z has.1
          by false i false j true k e = of_own v w (tree_sort s) r (Tree right) k e is_w has.2
          by false i false j false k e = absurd cc

      means_node : Means defs (giving env at_third) (built (of_tree s) all_three) (env.variables x)
      means_node =
          subst (Means defs (giving env at_third) (built (of_tree s) all_three)) (sym is)
          (built_in {head = h.Operator o.Node} {s = tree_sort s} refl ((tree_is s).sorted (y ∷ z ∷ w ∷ []) refl) (more (means_variable defs env at_third y (tree_sort s) (Tree left) is_y) (more (means_variable defs env at_third z s item is_z) (more (means_variable defs env at_third w (tree_sort s) (Tree right) is_w) none))))

      node_true : (made : Goal) → case_with (g.Pure pure) x (built (of_tree s) all_three) all_three ≡ Ok made → IsTrueFrom defs specs pure.context env made → Truth defs specs env pure.target
      node_true made row true' =
          case_true defs specs pure x (tree_sort s) (built (of_tree s) all_three) all_three made env at_third hyps_fit fit hyps here ((tree_is s).sorted (y ∷ z ∷ w ∷ []) refl) ((tree_is s).fitting (y ∷ z ∷ w ∷ []) refl) row true' all_kept means_node (suits_new all_three at_third all_kept all_sorts)

  -- by the datum of a list
  list_true : (s : Sort) (names : List (List ℕ)) (a b : Goal) → length names ≡ 2 → first_taken pure.context.variables [] (zipped names (of_list s).sorts) ≡ None → lookup (bytes_eq x) (scope_of pure.context) ≡ Some (list_sort s) → case_with (g.Pure pure) x (of_list s).empty [] ≡ Ok a → case_with (g.Pure pure) x (built (of_list s) (zipped names (of_list s).sorts)) (zipped names (of_list s).sorts) ≡ Ok b → IsTrueFrom defs specs pure.context env a → IsTrueFrom defs specs pure.context env b → (d : Datum) → env.variables x ≡ d → HasSort (list_sort s) d → Truth defs specs env pure.target
  list_true s names a b count new here e k p q (Seq Empty) is has =
      empty_true (list_sort s) (of_list s).empty a here refl refl e p
      (subst (Means defs env (of_list s).empty) (sym is) (built_in {head = h.Nil s} {s = list_sort s} refl refl none))
  list_true s names a b count new here e k p q (Seq (Item item rest)) is has =
      let t = two names count in
      let first : Binder = record { name = t.first; sort = s } in
      let second : Binder = record { name = t.second; sort = list_sort s } in
      let new' : first_taken pure.context.variables [] (first ∷ second ∷ []) ≡ None = subst (λ ns. first_taken pure.context.variables [] (zipped ns (of_list s).sorts) ≡ None) t.are new in
      let y_free = fresh pure.context.variables [] first (second ∷ []) new' in
      let z_free = fresh pure.context.variables (first ∷ []) second [] y_free.1 in
      cons_true s t.first t.second item rest is has here y_free.0 z_free.0 b (subst (λ ns. case_with (g.Pure pure) x (built (of_list s) (zipped ns (of_list s).sorts)) (zipped ns (of_list s).sorts) ≡ Ok b) t.are k) q
  list_true s names a b count new here e k p q (Number n) is has = absurd has
  list_true s names a b count new here e k p q (Val v) is has = absurd has
  list_true s names a b count new here e k p q (Tree tree) is has = absurd has
  list_true s names a b count new here e k p q (Pair l r) is has = absurd has

  -- by the datum of a tree
  tree_true : (s : Sort) (names : List (List ℕ)) (a b : Goal) → length names ≡ 3 → first_taken pure.context.variables [] (zipped names (of_tree s).sorts) ≡ None → lookup (bytes_eq x) (scope_of pure.context) ≡ Some (tree_sort s) → case_with (g.Pure pure) x (of_tree s).empty [] ≡ Ok a → case_with (g.Pure pure) x (built (of_tree s) (zipped names (of_tree s).sorts)) (zipped names (of_tree s).sorts) ≡ Ok b → IsTrueFrom defs specs pure.context env a → IsTrueFrom defs specs pure.context env b → (d : Datum) → env.variables x ≡ d → HasSort (tree_sort s) d → Truth defs specs env pure.target
  tree_true s names a b count new here e k p q (Tree Leaf) is has =
      empty_true (tree_sort s) (of_tree s).empty a here refl refl e p
      (subst (Means defs env (of_tree s).empty) (sym is) (built_in {head = h.Leaf s} {s = tree_sort s} refl refl none))
  tree_true s names a b count new here e k p q (Tree (Node left item right)) is has =
      let t = three names count in
      let first : Binder = record { name = t.first; sort = tree_sort s } in
      let second : Binder = record { name = t.second; sort = s } in
      let third : Binder = record { name = t.third; sort = tree_sort s } in
      let new' : first_taken pure.context.variables [] (first ∷ second ∷ third ∷ []) ≡ None = subst (λ ns. first_taken pure.context.variables [] (zipped ns (of_tree s).sorts) ≡ None) t.are new in
      let y_free = fresh pure.context.variables [] first (second ∷ third ∷ []) new' in
      let z_free = fresh pure.context.variables (first ∷ []) second (third ∷ []) y_free.1 in
      let w_free = fresh pure.context.variables (first ∷ second ∷ []) third [] z_free.1 in
      node_true s t.first t.second t.third left item right is has here y_free.0 z_free.0 w_free.0 b (subst (λ ns. case_with (g.Pure pure) x (built (of_tree s) (zipped ns (of_tree s).sorts)) (zipped ns (of_tree s).sorts) ≡ Ok b) t.are k) q
  tree_true s names a b count new here e k p q (Number n) is has = absurd has
  tree_true s names a b count new here e k p q (Val v) is has = absurd has
  tree_true s names a b count new here e k p q (Seq items) is has = absurd has
  tree_true s names a b count new here e k p q (Pair l r) is has = absurd has

-- what a row that gives goals has gone through
pub record Gone (goal : Goal) (x : List ℕ) (names : List (List ℕ)) (c : Constructors) (goals : List Goal) : Type 0 where
  pub count : length names ≡ length c.sorts
  pub new : first_taken (context_of goal).variables [] (zipped names c.sorts) ≡ None
  pub empty : Goal
  pub full : Goal
  pub empty_is : case_with goal x c.empty [] ≡ Ok empty
  pub full_is : case_with goal x (built c (zipped names c.sorts)) (zipped names c.sorts) ≡ Ok full
  pub goals' : goals ≡ empty ∷ full ∷ []

pub gone : (goal : Goal) (x : List ℕ) (names : List (List ℕ)) (c : Constructors) (goals : List Goal) → Ok goals ≡ of_binders goal x c (binders names c.sorts) → Gone goal x names c goals
gone goal x names c goals row = counted (nat_eq (length names) (length c.sorts)) refl row
  where
    both : length names ≡ length c.sorts → first_taken (context_of goal).variables [] (zipped names c.sorts) ≡ None → (p q : Result Goal No) → case_with goal x c.empty [] ≡ p → case_with goal x (built c (zipped names c.sorts)) (zipped names c.sorts) ≡ q → Ok goals ≡ of_two (λ a b. a ∷ b ∷ []) p q → Gone goal x names c goals
    both count new (Ok a) (Ok b) e k row = record { count = count; new = new; empty = a; full = b; empty_is = e; full_is = k; goals' = goals_are goals (a ∷ b ∷ []) row }
    both count new (Ok a) (Err why) e k row = absurd (no_goals goals why row)
    both count new (Err why) q e k row = absurd (no_goals goals why row)

    named : length names ≡ length c.sorts → (t : Option (List ℕ)) → first_taken (context_of goal).variables [] (zipped names c.sorts) ≡ t → Ok goals ≡ unless_taken goal x c (zipped names c.sorts) t → Gone goal x names c goals
    named count (Some y) e row = absurd (no_goals goals _ row)
    named count None e row = both count e (case_with goal x c.empty []) (case_with goal x (built c (zipped names c.sorts)) (zipped names c.sorts)) refl refl row

    counted : (b : Bool) → nat_eq (length names) (length c.sorts) ≡ b → Ok goals ≡ of_binders goal x c (cond b (Some (zipped names c.sorts)) None) → Gone goal x names c goals
    counted true e row = named (nat_eq_is (length names) (length c.sorts) e) (first_taken (context_of goal).variables [] (zipped names c.sorts)) refl row
    counted false e row = absurd (no_goals goals _ row)

pub record Sorted (goal : Goal) (x : List ℕ) (names : List (List ℕ)) (goals : List Goal) : Type 0 where
  pub sort : Sort
  pub c : Constructors
  pub is : sort_named x (context_of goal).variables ≡ Some sort
  pub of' : constructors_of sort ≡ Some c
  pub went : Gone goal x names c goals

pub sorted_by : (goal : Goal) (args : Args) (goals : List Goal) → Ok goals ≡ variable_cases goal args → Sorted goal args.name args.names goals
sorted_by goal args goals row = by (sort_named args.name (context_of goal).variables) refl row
  where
    constructed : (sort : Sort) → sort_named args.name (context_of goal).variables ≡ Some sort → (o : Option Constructors) → constructors_of sort ≡ o → Ok goals ≡ of_constructors goal args.name args.names o → Sorted goal args.name args.names goals
    constructed sort e (Some c) k row = record { sort = sort; c = c; is = e; of' = k; went = gone goal args.name args.names c goals row }
    constructed sort e None k row = absurd (no_goals goals wrong_goal row)

    by : (o : Option Sort) → sort_named args.name (context_of goal).variables ≡ o → Ok goals ≡ of_constructors goal args.name args.names (option_and_then constructors_of o) → Sorted goal args.name args.names goals
    by (Some sort) e row = constructed sort e (constructors_of sort) refl row
    by None e row = absurd (no_goals goals wrong_goal row)

module _ (defs : Defs) (specs : Specs) (pure : Pure) (args : Args) (goals : List Goal) (hyps_fit : AllFit defs pure.context pure.context.hypotheses) (fit : Fits defs (scope_of pure.context) pure.target) (env : Env) (all : AreTrueFrom defs specs pure.context env goals) (suits : Suits (scope_of pure.context) env) (hyps : AllTrue defs specs env pure.context.hypotheses) where
  by_constructors : (sort : Sort) (c : Constructors) → sort_named args.name pure.context.variables ≡ Some sort → Gone (g.Pure pure) args.name args.names c goals → Built sort c → Truth defs specs env pure.target
  by_constructors sort c is w0 (lists r e k) =
      let w : Gone (g.Pure pure) args.name args.names (of_list r) goals = subst (λ c. Gone (g.Pure pure) args.name args.names c goals) k w0 in
      let there : lookup (bytes_eq args.name) (scope_of pure.context) ≡ Some (list_sort r) = sort_found args.name pure.context.variables sort is ∙ ap (λ q. Some q) e in
      let t : AreTrueFrom defs specs pure.context env (w.empty ∷ w.full ∷ []) = subst (AreTrueFrom defs specs pure.context env) w.goals' all in
      list_true defs specs pure args.name env hyps_fit fit suits hyps r args.names w.empty w.full w.count w.new there w.empty_is w.full_is t.0 t.1.0 (env.variables args.name) refl (suits.each args.name (list_sort r) there)
  by_constructors sort c is w0 (trees r e k) =
      let w : Gone (g.Pure pure) args.name args.names (of_tree r) goals = subst (λ c. Gone (g.Pure pure) args.name args.names c goals) k w0 in
      let there : lookup (bytes_eq args.name) (scope_of pure.context) ≡ Some (tree_sort r) = sort_found args.name pure.context.variables sort is ∙ ap (λ q. Some q) e in
      let t : AreTrueFrom defs specs pure.context env (w.empty ∷ w.full ∷ []) = subst (AreTrueFrom defs specs pure.context env) w.goals' all in
      tree_true defs specs pure args.name env hyps_fit fit suits hyps r args.names w.empty w.full w.count w.new there w.empty_is w.full_is t.0 t.1.0 (env.variables args.name) refl (suits.each args.name (tree_sort r) there)

pub variable_true : (defs : Defs) (specs : Specs) (pure : Pure) (args : Args) (goals : List Goal) → AllFit defs pure.context pure.context.hypotheses → Fits defs (scope_of pure.context) pure.target → Ok goals ≡ variable_cases (g.Pure pure) args → Under defs specs pure.context (λ env. AreTrueFrom defs specs pure.context env goals → Truth defs specs env pure.target)
variable_true defs specs pure args goals hyps_fit fit row env suits hyps all =
    let s = sorted_by (g.Pure pure) args goals row in
    by_constructors defs specs pure args goals hyps_fit fit env all suits hyps s.sort s.c s.is s.went (built_by s.sort s.c s.of')
