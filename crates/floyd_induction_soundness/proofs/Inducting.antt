-- A lemma's start goal holds by induction on the list or the tree that a variable has.
use Rattle.std.proofs.Common.{◌≡◌, ℕ, List, [], ◌∷◌, length, Some, None, Ok, Err, refl, sym, ap, subst, ◌∙◌}
use Rattle.std.specs.Prelude.{bytes_eq, if◌then◌else◌}
use Rattle.std.specs.List.{AllByRecursion}
use Rattle.std.specs.Map.{lookup}
use Rattle.std.proofs.lemmas.List.Elements.{All-head, All-tail}
use Rattle.std.proofs.lemmas.Slice.Eq.{bytes_eq-Decides}
use Rattle.floyd_int.specs.declared.kinds.Value.TheVariants.{Vundef}
use Rattle.floyd_tree_sorts.specs.declared.heads.Head.TheVariants as h
use Rattle.floyd_tree_sorts.specs.declared.operators.Operator.TheVariants as o
use Rattle.floyd_tree_sorts.specs.declared.sorts.Sort.{Sort}
use Rattle.floyd_tree_sorts.specs.Sorts.{list_sort, tree_sort}
use Rattle.floyd_tree_values.specs.BuiltIns.{Env}
use Rattle.floyd_tree_values.specs.Data.{Data, DataTree, Datum, Seq, Tree, Empty, Item, Leaf, Node, HasSort, data_of, listed}
use Rattle.floyd_tree_values.specs.Means.{Means, built_in, none}
use Rattle.floyd_truth.specs.Truth.{AllTrue}
use Rattle.floyd_truth.proofs.OneTruth.{giving}
use Rattle.floyd_assert_meaning.specs.Parts.{PartsHold, body}
use Rattle.floyd_assert_meaning.specs.Settings.{AreFor, Setting, bare_env, item_env, with_data, with_each}
use Rattle.floyd_assert_meaning.proofs.Inversions.{body_of}
use Rattle.floyd_assert_meaning.proofs.Sames.{with_data_is}
use Rattle.floyd_assert_trees.specs.declared.items.Defs.{Defs}
use Rattle.floyd_assert_trees.specs.declared.items.Lemma.{Lemma}
use Rattle.floyd_assert_trees.specs.declared.spec.SpecTable.{SpecTable}
use Rattle.floyd_goal.specs.Goals.{intros_first, is_pending}
use Rattle.floyd_goal_forms.specs.Goals.{IsWellFormed, MarkFits}
use Rattle.floyd_goal_forms.specs.Items.{ItemsFit, LemmaFits}
use Rattle.floyd_goal_forms.specs.Starts.{lemma_start}
use Rattle.floyd_goal_laws.proofs.Givens.{other_context}
use Rattle.floyd_goal_meaning.specs.declared.linked.Linked.{Linked}
use Rattle.floyd_goal_meaning.specs.GoalHolds.{Given, HoldsFor, HoldsUnder, LemmaHoldsAt, LemmaHoldsAtEach, LemmasAreTrue}
use Rattle.floyd_goal_meaning.specs.Links.{AreApart, Has}
use Rattle.floyd_goal_meaning.specs.Programs.{Further, Places, setting}
use Rattle.floyd_goal_trees.specs.Contexts.{context_of}
use Rattle.floyd_goal_trees.specs.declared.args.Args.{Args}
use Rattle.floyd_goal_trees.specs.declared.args.Target.{Target}
use Rattle.floyd_goal_trees.specs.declared.args.Target.TheVariants.{Nothing}
use Rattle.floyd_goal_trees.specs.declared.context.Context.{Context}
use Rattle.floyd_goal_trees.specs.declared.context.Mark.{Mark}
use Rattle.floyd_goal_trees.specs.declared.context.Mark.TheVariants as m
use Rattle.floyd_goal_trees.specs.declared.goal.Goal.{Goal}
use Rattle.floyd_formed_pure.proofs.Contexts.{context_formed}
use Rattle.floyd_pure_formulas.specs.declared.constructors.Constructors.{Constructors}
use Rattle.floyd_pure_formulas.specs.Destruct.{DestructRow, OfTarget}
use Rattle.floyd_pure_formulas.specs.Rows.{Answer}
use Rattle.floyd_pure_formulas.specs.VariableCases.{built, case_with, first_taken, of_list, of_tree, sort_named, variable_cases, zipped}
use Rattle.floyd_pure_formulas.proofs.Building.{Built, lists, trees, built_by, list_is, three, tree_is, two}
use Rattle.floyd_pure_formulas.proofs.Rowing.{goals_are, no_goals, passed}
use Rattle.floyd_pure_formulas.proofs.VariableTrue.{Gone, data_listed, sort_found, sorted_by}
use Rattle.floyd_pure_induction.specs.Induction.{InductionRow, OfLemma, OfMark, marked, parts_among, place_of, with_mark}
use Rattle.floyd_rewriting_soundness.specs.Small.{IsSmallGoal}
use Rattle.floyd_start_laws.proofs.ItemEnvs.{item_global, item_suits}
use Rattle.floyd_destruct_soundness.proofs.Cases.{case_at}
use Rattle.floyd_destruct_soundness.proofs.NewVariables.{are_distinct, own_mean}
use Rattle.floyd_predicate_soundness.proofs.Items.{lemma_fits}
use Rattle.floyd_induction_soundness.specs.Rows.{InductionIsGiven}
use Rattle.floyd_induction_soundness.proofs.Places.{datum_at, first_datum}

-- ---- data of lists and trees

a_list : (s : Sort) (d : Datum) → HasSort (list_sort s) d → (items : Data) × (d ≡ Seq items)
a_list s (Seq items) k = (items, refl)
a_list s d k = absurd k

a_tree : (s : Sort) (d : Datum) → HasSort (tree_sort s) d → (t : DataTree) × (d ≡ Tree t)
a_tree s (Tree t) k = (t, refl)
a_tree s d k = absurd k

-- ---- the cases

module _ (L : Linked) (more : List Further) (place : Places) (defs : Defs) (specs : SpecTable) (n : ℕ) (has : Has L defs specs) (apart : AreApart L more place) (lemmas : LemmasAreTrue (setting L more place) defs) (name : List ℕ) (l : Lemma) (fits : LemmaFits defs specs l) (there : lookup (bytes_eq name) defs.lemmas ≡ Some l) (formed : IsWellFormed defs specs (lemma_start name l)) (few : IsSmallGoal (lemma_start name l)) (x : List ℕ) (names : List (List ℕ)) where
  abbrev S : Setting
  S = setting L more place

  abbrev goal : Goal
  goal = lemma_start name l

  abbrev at : ℕ
  at = place_of x l.with

  -- what the goal says where the variable has that datum
  abbrev AtDatum : Datum → Type 0
  AtDatum d = (env : Env) → Given S defs (context_of goal) env → env.variables x ≡ d → HoldsUnder L more place specs n env goal

  -- there the lemma holds
  lemma_at : (d : Datum) (s : Sort) → sort_named x l.with ≡ Some s → AtDatum d → LemmaHoldsAt S l at d
  lemma_at d s here k = λ ds sorted is heap left.
      let env = item_env S l.with ds in
      let w = body_of left in
      let props : AllTrue S.defs S.has_spec env l.left.props = subst (λ bs. AllTrue S.defs S.has_spec (with_data env bs w.witnesses) l.left.props) fits.none w.props in
      let parts : PartsHold S env l.left.parts heap = subst (λ bs. PartsHold S (with_data env bs w.witnesses) l.left.parts heap) fits.none w.parts in
      let datum : env.variables x ≡ d = ap (λ (e : Env). e.variables x) (with_data_is (bare_env S) (bare_env S).variables l.with ds) ∙ datum_at x l.with s (bare_env S).variables ds d fits.with sorted here is in
      let right = k env (record { suits = item_suits S l.with ds sorted fits.with; global = item_global S l.with ds; hypotheses = props; mark = tt }) datum
      (λ y. Vundef) heap (record { witnesses = []; sorted = tt; props = tt; locals = tt; parts = parts }) in
      body right.witnesses right.sorted right.props right.parts

  -- an environment is given for a marked goal where the lemma holds for the parts
  given_marked : (context : Context) (env : Env) (parts : List (List ℕ)) → Given S defs context env → LemmaHoldsAtEach S l at env parts → Given S defs (record context { mark = m.Induction name at parts }) env
  given_marked context env parts g k = record {
    suits = g.suits;
    global = g.global;
    hypotheses = g.hypotheses;
    mark = λ other e. subst (λ (q : Lemma). LemmaHoldsAtEach S q at env parts) (same other e) k;
  }
    where
      same : (other : Lemma) → lookup (bytes_eq name) defs.lemmas ≡ Some other → l ≡ other
      same other e = cc (e, there)

  held_at : (made : Goal) (env : Env) (parts : List (List ℕ)) → HoldsFor defs specs n (with_mark (m.Induction name at parts) made) → LemmaHoldsAtEach S l at env parts → Given S defs (context_of made) env → HoldsUnder L more place specs n env made
  held_at made env parts p k g =
      other_context L more place defs specs n made (record (context_of made) { mark = m.Induction name at parts }) env (p.in_each L more place has apart lemmas) (given_marked (context_of made) env parts g k)

  -- by the items of a list
  list_at : (s : Sort) (a b : Goal) → sort_named x l.with ≡ Some (list_sort s) → length names ≡ 2 → first_taken l.with [] (zipped names (of_list s).sorts) ≡ None → case_with goal x (of_list s).empty [] ≡ Ok a → case_with goal x (built (of_list s) (zipped names (of_list s).sorts)) (zipped names (of_list s).sorts) ≡ Ok b →
      HoldsFor defs specs n (with_mark (m.Induction name at []) a) → HoldsFor defs specs n (with_mark (m.Induction name at (parts_among names)) b) → (items : Data) → AtDatum (Seq items)
  list_at s a b here count new e k p q Empty env given is =
      case_at L more place defs specs n has apart lemmas goal formed few env given x (list_sort s) (of_list s).empty [] [] a here refl refl refl tt e
      (subst (Means S.defs env (of_list s).empty) (sym is) (built_in {head = h.Nil s} {s = list_sort s} refl refl none))
      (held_at a env [] p tt)
  list_at s a b here count new e k p q (Item item rest) env given is =
      let t = two names count in
      let ns = t.first ∷ t.second ∷ [] in
      let bs = zipped ns (of_list s).sorts in
      let ds = item ∷ Seq rest ∷ [] in
      let data' = with_each env.variables bs ds in
      let sorted : HasSort (list_sort s) (Seq (Item item rest)) = subst (HasSort (list_sort s)) is (given.suits.each x (list_sort s) (sort_found x l.with (list_sort s) here)) in
      let fresh : first_taken l.with [] bs ≡ None = subst (λ ns. first_taken l.with [] (zipped ns (of_list s).sorts) ≡ None) t.are new in
      let made : case_with goal x (built (of_list s) bs) bs ≡ Ok b = subst (λ ns. case_with goal x (built (of_list s) (zipped ns (of_list s).sorts)) (zipped ns (of_list s).sorts) ≡ Ok b) t.are k in
      let are : AreFor bs ds = (All-head (HasSort s) item (listed rest) sorted, (All-tail (HasSort s) item (listed rest) sorted, tt)) in
      let whole : Seq (Item item (data_of (listed rest))) ≡ env.variables x = ap (λ r. Seq (Item item r)) (data_listed rest) ∙ sym is in
      let means : Means S.defs (giving env data') (built (of_list s) bs) (env.variables x) =
      subst (Means S.defs (giving env data') (built (of_list s) bs)) whole
      (built_in {head = h.Operator o.Cons} {s = list_sort s} refl ((list_is s).sorted ns refl) (own_mean S.defs env bs env.variables ds are (are_distinct l.with [] bs fresh))) in
      let own : data' t.second ≡ Seq rest = ap (λ c. if c then Seq rest else (if bytes_eq t.second t.first then item else env.variables t.second)) ((bytes_eq-Decides t.second t.second).1 refl) in
      let smaller : LemmaHoldsAt S l at (data' t.second) = subst (LemmaHoldsAt S l at) (sym own) (lemma_at (Seq rest) (list_sort s) here (list_at s a b here count new e k p q rest)) in
      case_at L more place defs specs n has apart lemmas goal formed few env given x (list_sort s) (built (of_list s) bs) bs ds b here ((list_is s).sorted ns refl) ((list_is s).fitting ns refl) fresh are made means
      (held_at b (giving env data') (t.second ∷ []) (subst (λ ns. HoldsFor defs specs n (with_mark (m.Induction name at (parts_among ns)) b)) t.are q) (smaller, tt))

  -- by the subtrees of a tree
  tree_at : (s : Sort) (a b : Goal) → sort_named x l.with ≡ Some (tree_sort s) → length names ≡ 3 → first_taken l.with [] (zipped names (of_tree s).sorts) ≡ None → case_with goal x (of_tree s).empty [] ≡ Ok a → case_with goal x (built (of_tree s) (zipped names (of_tree s).sorts)) (zipped names (of_tree s).sorts) ≡ Ok b →
      HoldsFor defs specs n (with_mark (m.Induction name at []) a) → HoldsFor defs specs n (with_mark (m.Induction name at (parts_among names)) b) → (t : DataTree) → AtDatum (Tree t)
  tree_at s a b here count new e k p q Leaf env given is =
      case_at L more place defs specs n has apart lemmas goal formed few env given x (tree_sort s) (of_tree s).empty [] [] a here refl refl refl tt e
      (subst (Means S.defs env (of_tree s).empty) (sym is) (built_in {head = h.Leaf s} {s = tree_sort s} refl refl none))
      (held_at a env [] p tt)
  tree_at s a b here count new e k p q (Node left item right) env given is =
      let t = three names count in
      let ns = t.first ∷ t.second ∷ t.third ∷ [] in
      let bs = zipped ns (of_tree s).sorts in
      let ds = Tree left ∷ item ∷ Tree right ∷ [] in
      let data' = with_each env.variables bs ds in
      let sorted : HasSort (tree_sort s) (Tree (Node left item right)) = subst (HasSort (tree_sort s)) is (given.suits.each x (tree_sort s) (sort_found x l.with (tree_sort s) here)) in
      let fresh : first_taken l.with [] bs ≡ None = subst (λ ns. first_taken l.with [] (zipped ns (of_tree s).sorts) ≡ None) t.are new in
      let distinct = are_distinct l.with [] bs fresh in
      let made : case_with goal x (built (of_tree s) bs) bs ≡ Ok b = subst (λ ns. case_with goal x (built (of_tree s) (zipped ns (of_tree s).sorts)) (zipped ns (of_tree s).sorts) ≡ Ok b) t.are k in
      let are : AreFor bs ds = (sorted.0, (sorted.1, (sorted.2, tt))) in
      let means : Means S.defs (giving env data') (built (of_tree s) bs) (env.variables x) =
      subst (Means S.defs (giving env data') (built (of_tree s) bs)) (sym is)
      (built_in {head = h.Operator o.Node} {s = tree_sort s} refl ((tree_is s).sorted ns refl) (own_mean S.defs env bs env.variables ds are distinct)) in
      let own_left : data' t.first ≡ Tree left = first_datum (record { name = t.first; sort = tree_sort s }) (zipped (t.second ∷ t.third ∷ []) (s ∷ tree_sort s ∷ [])) (Tree left) (item ∷ Tree right ∷ []) env.variables distinct in
      let own_right : data' t.third ≡ Tree right = ap (λ c. if c then Tree right else (if bytes_eq t.third t.second then item else (if bytes_eq t.third t.first then Tree left else env.variables t.third))) ((bytes_eq-Decides t.third t.third).1 refl) in
      let less : LemmaHoldsAt S l at (data' t.first) = subst (LemmaHoldsAt S l at) (sym own_left) (lemma_at (Tree left) (tree_sort s) here (tree_at s a b here count new e k p q left)) in
      let lesser : LemmaHoldsAt S l at (data' t.third) = subst (LemmaHoldsAt S l at) (sym own_right) (lemma_at (Tree right) (tree_sort s) here (tree_at s a b here count new e k p q right)) in
      case_at L more place defs specs n has apart lemmas goal formed few env given x (tree_sort s) (built (of_tree s) bs) bs ds b here ((tree_is s).sorted ns refl) ((tree_is s).fitting ns refl) fresh are made means
      (held_at b (giving env data') (t.first ∷ t.third ∷ []) (subst (λ ns. HoldsFor defs specs n (with_mark (m.Induction name at (parts_among ns)) b)) t.are q) (less, (lesser, tt)))

  by_constructors : (made : List Goal) → ((a b : Goal) → made ≡ a ∷ b ∷ [] → HoldsFor defs specs n (with_mark (m.Induction name at []) a) × HoldsFor defs specs n (with_mark (m.Induction name at (parts_among names)) b)) →
      (sort : Sort) (c : Constructors) → sort_named x l.with ≡ Some sort → Gone goal x names c made → Built sort c → (env : Env) → Given S defs (context_of goal) env → HoldsUnder L more place specs n env goal
  by_constructors made held sort c is w0 (lists r e k) env given =
      let w : Gone goal x names (of_list r) made = subst (λ c. Gone goal x names c made) k w0 in
      let here : sort_named x l.with ≡ Some (list_sort r) = is ∙ ap (λ q. Some q) e in
      let p = held w.empty w.full w.goals' in
      let d = a_list r (env.variables x) (given.suits.each x (list_sort r) (sort_found x l.with (list_sort r) here)) in
      list_at r w.empty w.full here w.count w.new w.empty_is w.full_is p.0 p.1 d.0 env given d.1
  by_constructors made held sort c is w0 (trees r e k) env given =
      let w : Gone goal x names (of_tree r) made = subst (λ c. Gone goal x names c made) k w0 in
      let here : sort_named x l.with ≡ Some (tree_sort r) = is ∙ ap (λ q. Some q) e in
      let p = held w.empty w.full w.goals' in
      let d = a_tree r (env.variables x) (given.suits.each x (tree_sort r) (sort_found x l.with (tree_sort r) here)) in
      tree_at r w.empty w.full here w.count w.new w.empty_is w.full_is p.0 p.1 d.0 env given d.1

-- ---- the command

module _ (defs : Defs) (specs : SpecTable) (n : ℕ) (name : List ℕ) (l : Lemma) (args : Args) (goals : List Goal) where
  abbrev place : ℕ
  place = place_of args.name l.with

  -- the goals are the two cases with their marks
  marked_hold : (made : List Goal) → ◌≡◌ {A = Answer} (Ok goals) (marked name (place_of args.name l.with) (parts_among args.names) (Ok made)) → AllByRecursion (HoldsFor defs specs n) goals → (a b : Goal) → made ≡ a ∷ b ∷ [] →
      HoldsFor defs specs n (with_mark (m.Induction name place []) a) × HoldsFor defs specs n (with_mark (m.Induction name place (parts_among args.names)) b)
  marked_hold made row held a b is =
      let both = with_mark (m.Induction name place []) a ∷ with_mark (m.Induction name place (parts_among args.names)) b ∷ [] in
      let same : goals ≡ both = goals_are goals both (row ∙ ap (λ gs. marked name place (parts_among args.names) (Ok gs)) is) in
      let k = subst (AllByRecursion (HoldsFor defs specs n)) same held in
      (k.0, k.1.0)

  at_start : LemmaFits defs specs l → lookup (bytes_eq name) defs.lemmas ≡ Some l → IsWellFormed defs specs (lemma_start name l) → IsSmallGoal (lemma_start name l) → args.target ≡ Nothing → OfLemma (lemma_start name l) args name (Ok goals) → AllByRecursion (HoldsFor defs specs n) goals →
      HoldsFor defs specs n (lemma_start name l)
  at_start fits there formed few target row held = by row.0 row.1 row.2
    where
      by : (made : Answer) → DestructRow (lemma_start name l) args made → Ok goals ≡ marked name (place_of args.name l.with) (parts_among args.names) made → HoldsFor defs specs n (lemma_start name l)
      by (Err why) d e = absurd (no_goals goals why e)
      by (Ok made) d e =
          let start = lemma_start name l in
          let w = passed (is_pending start) intros_first (OfTarget start args args.target) made d in
          let cases : Ok made ≡ variable_cases start args = subst (λ (t : Target). OfTarget start args t (Ok made)) target w in
          let s = sorted_by start args made cases in
          record {
            in_each = λ L more places has apart lemmas env given.
                by_constructors L more places defs specs n has apart lemmas name l fits there formed few args.name args.names made (marked_hold made e held) s.sort s.c s.is s.went (built_by s.sort s.c s.of') env given;
          }

pub induction_sound : (defs : Defs) (specs : SpecTable) (n : ℕ) (goal : Goal) (args : Args) (goals : List Goal) → ItemsFit defs specs → IsWellFormed defs specs goal → InductionIsGiven defs goal args → InductionRow goal args (Ok goals) → AllByRecursion (HoldsFor defs specs n) goals → HoldsFor defs specs n goal
induction_sound defs specs n goal args goals items formed asks row held =
    by (context_of goal).mark (context_formed defs specs goal formed).mark (passed (is_pending goal) intros_first (OfMark goal args (context_of goal).mark) goals row)
  where
    by : (mark : Mark) → MarkFits defs goal (context_of goal) mark → OfMark goal args mark (Ok goals) → HoldsFor defs specs n goal
    by m.Plain k r = absurd cc
    by (m.Start name) (l, there, is) r =
        subst (HoldsFor defs specs n) (sym is)
        (at_start defs specs n name l args goals (lemma_fits defs specs defs.lemmas name l items.lemmas there) there (subst (IsWellFormed defs specs) is formed) (subst IsSmallGoal is asks.few) asks.target (subst (λ g. OfLemma g args name (Ok goals)) is r) held)
    by (m.Induction name place names) k r = absurd cc
