-- A goal of any kind holds where it does in each case of a variable, or of a hypothesis.
use Rattle.std.proofs.Common.{◌≡◌, ℕ, Bool, true, false, List, [], ◌∷◌, length, Some, None, Ok, refl, sym, ap, subst, ◌∙◌}
use Rattle.std.specs.List.{AllByRecursion}
use Rattle.std.proofs.lemmas.List.Elements.{All-head, All-tail}
use Rattle.floyd_text.specs.declared.refusal.No.{No}
use Rattle.floyd_tree_sorts.specs.declared.heads.Head.TheVariants as h
use Rattle.floyd_tree_sorts.specs.declared.operators.Operator.TheVariants as o
use Rattle.floyd_tree_sorts.specs.declared.sorts.Sort.{Sort}
use Rattle.floyd_tree_sorts.specs.Sorts.{list_sort, tree_sort}
use Rattle.floyd_tree_values.specs.BuiltIns.{Env}
use Rattle.floyd_tree_values.specs.Data.{Datum, Number, Val, Seq, Tree, Pair, Empty, Item, Leaf, Node, HasSort, data_of, listed}
use Rattle.floyd_tree_values.specs.Means.{Means, built_in, none}
use Rattle.floyd_truth.proofs.OneTruth.{giving}
use Rattle.floyd_assert_meaning.specs.Settings.{AreFor, Setting, with_each}
use Rattle.floyd_assert_trees.specs.declared.binder.Binder.{Binder}
use Rattle.floyd_assert_trees.specs.declared.items.Defs.{Defs}
use Rattle.floyd_assert_trees.specs.declared.spec.SpecTable.{SpecTable}
use Rattle.floyd_goal.specs.Goals.{intros_first, is_pending}
use Rattle.floyd_goal_forms.specs.Goals.{IsWellFormed}
use Rattle.floyd_goal_meaning.specs.declared.linked.Linked.{Linked}
use Rattle.floyd_goal_meaning.specs.GoalHolds.{Given, HoldsFor, HoldsUnder, LemmasAreTrue}
use Rattle.floyd_goal_meaning.specs.Links.{AreApart, Has}
use Rattle.floyd_goal_meaning.specs.Programs.{Further, Places, setting}
use Rattle.floyd_goal_trees.specs.Contexts.{context_of}
use Rattle.floyd_goal_trees.specs.declared.args.Target.{Target}
use Rattle.floyd_goal_trees.specs.declared.args.Target.TheVariants.{Nothing, Part, Hypothesis}
use Rattle.floyd_goal_trees.specs.declared.goal.Goal.{Goal}
use Rattle.floyd_pure_formulas.specs.declared.constructors.Constructors.{Constructors}
use Rattle.floyd_pure_formulas.specs.Destruct.{DestructRow, OfTarget}
use Rattle.floyd_pure_formulas.specs.HypothesisCases.{HypothesisCases}
use Rattle.floyd_pure_formulas.specs.Rows.{Answer, Unless, WhenNamed}
use Rattle.floyd_pure_formulas.specs.VariableCases.{built, case_with, first_taken, of_list, of_tree, sort_named, variable_cases, zipped}
use Rattle.floyd_pure_formulas.proofs.Building.{Built, lists, trees, built_by, list_is, three, tree_is, two}
use Rattle.floyd_pure_formulas.proofs.Rowing.{no_goals, passed}
use Rattle.floyd_pure_formulas.proofs.VariableTrue.{Gone, data_listed, sort_found, sorted_by}
use Rattle.floyd_pure_soundness.proofs.Divided.{hypothesis_row}
use Rattle.floyd_rewriting_soundness.specs.Small.{IsSmallGoal, IsSoundOnSmall}
use Rattle.floyd_destruct_soundness.proofs.Cases.{case_under}
use Rattle.floyd_destruct_soundness.proofs.NewVariables.{are_distinct, own_mean}

module _ (L : Linked) (more : List Further) (place : Places) (defs : Defs) (specs : SpecTable) (n : ℕ) (has : Has L defs specs) (apart : AreApart L more place) (lemmas : LemmasAreTrue (setting L more place) defs) (goal : Goal) (formed : IsWellFormed defs specs goal) (few : IsSmallGoal goal) (env : Env) (given : Given (setting L more place) defs (context_of goal) env) (x : List ℕ) where
  abbrev S : Setting
  S = setting L more place

  abbrev variables : List Binder
  variables = (context_of goal).variables

  abbrev Under : Type 0
  Under = HoldsUnder L more place specs n env goal

  -- by the datum of a list
  list_under : (s : Sort) (names : List (List ℕ)) (a b : Goal) → sort_named x variables ≡ Some (list_sort s) → length names ≡ 2 → first_taken variables [] (zipped names (of_list s).sorts) ≡ None → case_with goal x (of_list s).empty [] ≡ Ok a → case_with goal x (built (of_list s) (zipped names (of_list s).sorts)) (zipped names (of_list s).sorts) ≡ Ok b → HoldsFor defs specs n a → HoldsFor defs specs n b → (d : Datum) → env.variables x ≡ d → HasSort (list_sort s) d → Under
  list_under s names a b here count new e k p q (Seq Empty) is sorted =
      case_under L more place defs specs n has apart lemmas goal formed few env given x (list_sort s) (of_list s).empty [] [] a here refl refl refl tt e
      (subst (Means S.defs env (of_list s).empty) (sym is) (built_in {head = h.Nil s} {s = list_sort s} refl refl none)) p
  list_under s names a b here count new e k p q (Seq (Item item rest)) is sorted =
      let t = two names count in
      let ns = t.first ∷ t.second ∷ [] in
      let bs = zipped ns (of_list s).sorts in
      let ds = item ∷ Seq rest ∷ [] in
      let fresh : first_taken variables [] bs ≡ None = subst (λ ns. first_taken variables [] (zipped ns (of_list s).sorts) ≡ None) t.are new in
      let made : case_with goal x (built (of_list s) bs) bs ≡ Ok b = subst (λ ns. case_with goal x (built (of_list s) (zipped ns (of_list s).sorts)) (zipped ns (of_list s).sorts) ≡ Ok b) t.are k in
      let are : AreFor bs ds = (All-head (HasSort s) item (listed rest) sorted, (All-tail (HasSort s) item (listed rest) sorted, tt)) in
      let whole : Seq (Item item (data_of (listed rest))) ≡ env.variables x = ap (λ r. Seq (Item item r)) (data_listed rest) ∙ sym is in
      let means : Means S.defs (giving env (with_each env.variables bs ds)) (built (of_list s) bs) (env.variables x) =
      subst (Means S.defs (giving env (with_each env.variables bs ds)) (built (of_list s) bs)) whole
      (built_in {head = h.Operator o.Cons} {s = list_sort s} refl ((list_is s).sorted ns refl) (own_mean S.defs env bs env.variables ds are (are_distinct variables [] bs fresh))) in
      case_under L more place defs specs n has apart lemmas goal formed few env given x (list_sort s) (built (of_list s) bs) bs ds b here ((list_is s).sorted ns refl) ((list_is s).fitting ns refl) fresh are made means q
  list_under s names a b here count new e k p q (Number z) is sorted = absurd sorted
  list_under s names a b here count new e k p q (Val v) is sorted = absurd sorted
  list_under s names a b here count new e k p q (Tree tree) is sorted = absurd sorted
  list_under s names a b here count new e k p q (Pair l r) is sorted = absurd sorted

  -- by the datum of a tree
  tree_under : (s : Sort) (names : List (List ℕ)) (a b : Goal) → sort_named x variables ≡ Some (tree_sort s) → length names ≡ 3 → first_taken variables [] (zipped names (of_tree s).sorts) ≡ None → case_with goal x (of_tree s).empty [] ≡ Ok a → case_with goal x (built (of_tree s) (zipped names (of_tree s).sorts)) (zipped names (of_tree s).sorts) ≡ Ok b → HoldsFor defs specs n a → HoldsFor defs specs n b → (d : Datum) → env.variables x ≡ d → HasSort (tree_sort s) d → Under
  tree_under s names a b here count new e k p q (Tree Leaf) is sorted =
      case_under L more place defs specs n has apart lemmas goal formed few env given x (tree_sort s) (of_tree s).empty [] [] a here refl refl refl tt e
      (subst (Means S.defs env (of_tree s).empty) (sym is) (built_in {head = h.Leaf s} {s = tree_sort s} refl refl none)) p
  tree_under s names a b here count new e k p q (Tree (Node left item right)) is sorted =
      let t = three names count in
      let ns = t.first ∷ t.second ∷ t.third ∷ [] in
      let bs = zipped ns (of_tree s).sorts in
      let ds = Tree left ∷ item ∷ Tree right ∷ [] in
      let fresh : first_taken variables [] bs ≡ None = subst (λ ns. first_taken variables [] (zipped ns (of_tree s).sorts) ≡ None) t.are new in
      let made : case_with goal x (built (of_tree s) bs) bs ≡ Ok b = subst (λ ns. case_with goal x (built (of_tree s) (zipped ns (of_tree s).sorts)) (zipped ns (of_tree s).sorts) ≡ Ok b) t.are k in
      let are : AreFor bs ds = (sorted.0, (sorted.1, (sorted.2, tt))) in
      let means : Means S.defs (giving env (with_each env.variables bs ds)) (built (of_tree s) bs) (env.variables x) =
      subst (Means S.defs (giving env (with_each env.variables bs ds)) (built (of_tree s) bs)) (sym is)
      (built_in {head = h.Operator o.Node} {s = tree_sort s} refl ((tree_is s).sorted ns refl) (own_mean S.defs env bs env.variables ds are (are_distinct variables [] bs fresh))) in
      case_under L more place defs specs n has apart lemmas goal formed few env given x (tree_sort s) (built (of_tree s) bs) bs ds b here ((tree_is s).sorted ns refl) ((tree_is s).fitting ns refl) fresh are made means q
  tree_under s names a b here count new e k p q (Number z) is sorted = absurd sorted
  tree_under s names a b here count new e k p q (Val v) is sorted = absurd sorted
  tree_under s names a b here count new e k p q (Seq items) is sorted = absurd sorted
  tree_under s names a b here count new e k p q (Pair l r) is sorted = absurd sorted

  by_constructors : (names : List (List ℕ)) (goals : List Goal) → AllByRecursion (HoldsFor defs specs n) goals → (sort : Sort) (c : Constructors) → sort_named x variables ≡ Some sort → Gone goal x names c goals → Built sort c → Under
  by_constructors names goals held sort c is w0 (lists r e k) =
      let w : Gone goal x names (of_list r) goals = subst (λ c. Gone goal x names c goals) k w0 in
      let here : sort_named x variables ≡ Some (list_sort r) = is ∙ ap (λ q. Some q) e in
      let t = subst (AllByRecursion (HoldsFor defs specs n)) w.goals' held in
      list_under r names w.empty w.full here w.count w.new w.empty_is w.full_is t.0 t.1.0 (env.variables x) refl (given.suits.each x (list_sort r) (sort_found x variables (list_sort r) here))
  by_constructors names goals held sort c is w0 (trees r e k) =
      let w : Gone goal x names (of_tree r) goals = subst (λ c. Gone goal x names c goals) k w0 in
      let here : sort_named x variables ≡ Some (tree_sort r) = is ∙ ap (λ q. Some q) e in
      let t = subst (AllByRecursion (HoldsFor defs specs n)) w.goals' held in
      tree_under r names w.empty w.full here w.count w.new w.empty_is w.full_is t.0 t.1.0 (env.variables x) refl (given.suits.each x (tree_sort r) (sort_found x variables (tree_sort r) here))

-- a row in another row's words
in_words : (test : Bool) (refusal : No) (P Q : Answer → Type 0) (goals : List Goal) → (P (Ok goals) → Q (Ok goals)) → Unless test refusal P (Ok goals) → Unless test refusal Q (Ok goals)
in_words true refusal P Q goals f row = absurd (no_goals goals refusal row)
in_words false refusal P Q goals f row = f row

pub destruct_sound : IsSoundOnSmall DestructRow
destruct_sound defs specs n goal args goals formed few args_fit row held = by args.target row
  where
    variable : Ok goals ≡ variable_cases goal args → HoldsFor defs specs n goal
    variable e = record {
      in_each = λ L more place has apart lemmas env given.
          let s = sorted_by goal args goals e in
          by_constructors L more place defs specs n has apart lemmas goal formed few env given args.name args.names goals held s.sort s.c s.is s.went (built_by s.sort s.c s.of');
    }

    by : (target : Target) → WhenNamed goal (OfTarget goal args target) (Ok goals) → HoldsFor defs specs n goal
    by Nothing row = variable (passed (is_pending goal) intros_first (OfTarget goal args Nothing) goals row)
    by (Part k) row = variable (passed (is_pending goal) intros_first (OfTarget goal args (Part k)) goals row)
    by (Hypothesis k) row =
        hypothesis_row defs specs n goal args goals formed args_fit (in_words (is_pending goal) intros_first (OfTarget goal args (Hypothesis k)) (HypothesisCases goal args) goals (λ h. h) row) held
