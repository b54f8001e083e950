-- New variables: what a goal says does not look at them, and an environment with data for them is given.
use Rattle.std.proofs.Common.{◌≡◌, ◌⊎◌, inl, inr, ℕ, Bool, true, false, not, ◌&&◌, ◌||◌, List, [], ◌∷◌, ◌++◌, map, Option, Some, refl, sym, ap, subst, ◌∙◌, true≢false}
use Rattle.std.specs.Prelude.{bytes_eq, cond, if◌then◌else◌}
use Rattle.std.specs.List.{list_any}
use Rattle.std.specs.Map.{lookup}
use Rattle.std.proofs.lemmas.Slice.Eq.{bytes_eq-Decides}
use Rattle.std.proofs.lemmas.Bool.{or_left, or_right}
use Rattle.floyd_tree_sorts.specs.declared.sorts.Sort.{Sort}
use Rattle.floyd_tree.specs.Formulas.{PlainFormula, formula_mentions, formulas, formulas_mention}
use Rattle.floyd_tree_values.specs.BuiltIns.{Env}
use Rattle.floyd_tree_values.specs.Data.{Datum, HasSort}
use Rattle.floyd_tree_values.specs.Rules.{AreDistinct, IsOneOf, Suits}
use Rattle.floyd_truth.specs.Truth.{AllTrue}
use Rattle.floyd_truth.proofs.Fresh.{not_true}
use Rattle.floyd_truth.proofs.OneTruth.{giving}
use Rattle.floyd_assert_trees.specs.declared.assertion.Assertion.{Assertion}
use Rattle.floyd_assert_trees.specs.declared.binder.Binder.{Binder}
use Rattle.floyd_assert_trees.specs.declared.items.Defs.{Defs}
use Rattle.floyd_assert_trees.specs.declared.items.Lemma.{Lemma}
use Rattle.floyd_assert_trees.specs.declared.spec.SpecTable.{SpecTable}
use Rattle.floyd_assert_changes.specs.Changed.{has_name}
use Rattle.floyd_assert_meaning.specs.Laws.{AgreeWhere}
use Rattle.floyd_assert_meaning.specs.Settings.{Setting, AreFor, with_data, with_each}
use Rattle.floyd_assert_meaning.proofs.Free.{truth_agrees}
use Rattle.floyd_assert_meaning.proofs.Sames.{with_data_is}
use Rattle.floyd_assert_laws.specs.Free.{assertion_mentions, post_mentions}
use Rattle.floyd_assert_meaning.proofs.AlikeLaws.{alike_props}
use Rattle.floyd_assert_laws.proofs.FreeLaws.{free_alike, free_posts_alike, props_alike}
use Rattle.floyd_goal.specs.Goals.{in_context}
use Rattle.floyd_goal_truth.proofs.Uses.{all_true}
use Rattle.floyd_goal_trees.specs.Contexts.{context_of, scope_of, unmarked}
use Rattle.floyd_goal_trees.specs.declared.context.Context.{Context}
use Rattle.floyd_goal_trees.specs.declared.context.Mark.{Mark}
use Rattle.floyd_goal_trees.specs.declared.context.Mark.TheVariants as m
use Rattle.floyd_goal_trees.specs.declared.exits.Exit as e
use Rattle.floyd_goal_trees.specs.declared.exits.Exit.TheVariants as x
use Rattle.floyd_goal_trees.specs.declared.exits.Exits as g
use Rattle.floyd_goal_trees.specs.declared.goal.Goal.{Goal}
use Rattle.floyd_goal_trees.specs.declared.goal.Goal.TheVariants.{Run, Entail, Pure}
use Rattle.floyd_goal_meaning.specs.declared.linked.Linked.{Linked}
use Rattle.floyd_goal_meaning.specs.GoalHolds.{Given, HoldsIn, HoldsUnder, LemmaHoldsAt, LemmaHoldsAtEach, MarkHolds, postcondition}
use Rattle.floyd_goal_meaning.specs.Programs.{Further, Places, setting}
use Rattle.floyd_goal_laws.specs.Alike.{ExitsAlike, GoalsAlike, WaysAlike}
use Rattle.floyd_goal_names.specs.Free.{AreNew, context_mentions, exit_mentions, exits_mention, goal_mentions, mark_mentions}
use Rattle.floyd_goal_laws.specs.Following.{Follows}
use Rattle.floyd_goal_names.specs.Names.{AreThere, with_names}
use Rattle.floyd_goal_laws.proofs.AlikeGoals.{alike_follow}
use Rattle.floyd_goal_laws.proofs.Consequences.{follows_under}

-- ---- a goal says the same where its free variables have the same data

module _ (S : Setting) (env : Env) (f : List ℕ → Datum) where
  exit_alike : (a : e.Exit) → AgreeWhere (exit_mentions a) env.variables f → ExitsAlike S env f a a
  exit_alike x.None k = tt
  exit_alike (x.To a) k = free_alike S env env.variables f a k
  exit_alike x.End k = tt

  ways_alike : (a : g.Exits) → AgreeWhere (exits_mention a) env.variables f → WaysAlike S env f a a
  ways_alike a k =
      let first : (v : List ℕ) → (exit_mentions a.brk v || (exit_mentions a.cont v || post_mentions (postcondition a.ret) v)) ≡ true → env.variables v ≡ f v = λ v i. k v (or_right (exit_mentions a.normal v) (exit_mentions a.brk v || (exit_mentions a.cont v || post_mentions (postcondition a.ret) v)) i) in
      let second : (v : List ℕ) → (exit_mentions a.cont v || post_mentions (postcondition a.ret) v) ≡ true → env.variables v ≡ f v = λ v i. first v (or_right (exit_mentions a.brk v) (exit_mentions a.cont v || post_mentions (postcondition a.ret) v) i) in
      record {
        normal = exit_alike a.normal (λ v i. k v (or_left (exit_mentions a.normal v) (exit_mentions a.brk v || (exit_mentions a.cont v || post_mentions (postcondition a.ret) v)) i));
        brk = exit_alike a.brk (λ v i. first v (or_left (exit_mentions a.brk v) (exit_mentions a.cont v || post_mentions (postcondition a.ret) v) i));
        cont = exit_alike a.cont (λ v i. second v (or_left (exit_mentions a.cont v) (post_mentions (postcondition a.ret) v) i));
        ret = record {
          result = refl;
          blocks = refl;
          post = free_posts_alike S env env.variables f (postcondition a.ret) (λ v i. second v (or_right (exit_mentions a.cont v) (post_mentions (postcondition a.ret) v) i));
        };
      }

  pub free_goal_alike : (goal : Goal) (context : Context) → AgreeWhere (goal_mentions goal) env.variables f → GoalsAlike S env f goal (in_context goal context)
  free_goal_alike (Run a) context k = (
    refl,
    free_alike S env env.variables f a.source (λ v i. k v (or_left (assertion_mentions a.source v) (exits_mention a.exits v) i)),
    ways_alike a.exits (λ v i. k v (or_right (assertion_mentions a.source v) (exits_mention a.exits v) i)),
  )
  free_goal_alike (Entail a) context k = (
    free_alike S env env.variables f a.source (λ v i. k v (or_left (assertion_mentions a.source v) (assertion_mentions a.target v) i)),
    free_alike S env env.variables f a.target (λ v i. k v (or_right (assertion_mentions a.source v) (assertion_mentions a.target v) i)),
  )
  free_goal_alike (Pure a) context k = (
    truth_agrees S.defs S.has_spec env env.variables f a.target k,
    truth_agrees S.defs S.has_spec env f env.variables a.target (λ v i. sym (k v i)),
  )

-- ---- data for new names

other_name : (b c : Bool) → (b || c) ≡ false → (b ≡ false) × (c ≡ false)
other_name true c h = absurd cc
other_name false c h = (refl, h)

pub each_other : (names : List Binder) (f : List ℕ → Datum) (ds : List Datum) (v : List ℕ) → has_name v names ≡ false → with_each f names ds v ≡ f v
each_other [] f ds v h = refl
each_other (b ∷ names) f [] v h = refl
each_other (b ∷ names) f (d ∷ ds) v h =
    let p = other_name (bytes_eq v b.name) (has_name v names) h in
    each_other names (λ y. if bytes_eq y b.name then d else f y) ds v p.1 ∙ ap (λ t. if t then d else f v) p.0

is_one : (names : List Binder) (v : List ℕ) → has_name v names ≡ true → IsOneOf (map (λ (b : Binder). b.name) names) v
is_one [] v h = absurd cc
is_one (b ∷ names) v h = by (is_one names v) (bytes_eq v b.name) refl h
  where
    by : (has_name v names ≡ true → IsOneOf (map (λ (c : Binder). c.name) names) v) → (t : Bool) → bytes_eq v b.name ≡ t → (t || has_name v names) ≡ true → (v ≡ b.name) ⊎ IsOneOf (map (λ (c : Binder). c.name) names) v
    by go true e k = inl ((bytes_eq-Decides v b.name).0 e)
    by go false e k = inr (go k)

abbrev pub sorts_of : List Binder → List (List ℕ × Sort)
sorts_of binders = map (λ (b : Binder). (b.name, b.sort)) binders

pub sorted_each : (names : List Binder) (f : List ℕ → Datum) (ds : List Datum) → AreFor names ds → AreDistinct (map (λ (b : Binder). b.name) names) → (v : List ℕ) (s : Sort) → lookup (bytes_eq v) (sorts_of names) ≡ Some s → HasSort s (with_each f names ds v)
sorted_each [] f ds k u v s l = absurd cc
sorted_each (b ∷ names) f [] k u v s l = absurd k
sorted_each (b ∷ names) f (d ∷ ds) k u v s l = by (sorted_each names (λ y. if bytes_eq y b.name then d else f y) ds k.1 u.1 v s) (bytes_eq v b.name) refl l
  where
    by : (lookup (bytes_eq v) (sorts_of names) ≡ Some s → HasSort s (with_each (λ y. if bytes_eq y b.name then d else f y) names ds v)) → (t : Bool) → bytes_eq v b.name ≡ t → cond t (Some b.sort) (lookup (bytes_eq v) (sorts_of names)) ≡ Some s → HasSort s (with_each (λ y. if bytes_eq y b.name then d else f y) names ds v)
    by go true e q =
        let same : b.sort ≡ s = cc in
        let alone : has_name v names ≡ false = not_true (has_name v names) (λ h. u.0 (subst (IsOneOf (map (λ (c : Binder). c.name) names)) ((bytes_eq-Decides v b.name).0 e) (is_one names v h))) in
        let is : with_each (λ y. if bytes_eq y b.name then d else f y) names ds v ≡ d = each_other names (λ y. if bytes_eq y b.name then d else f y) ds v alone ∙ ap (λ t. if t then d else f v) e in
        subst (HasSort s) (sym is) (subst (λ a. HasSort a d) same k.0)
    by go false e q = go q

-- a variable is one of the first ones, or of the others
abbrev OneOfBoth : List Binder → List Binder → List ℕ → Sort → Type 0
OneOfBoth vars names v s = ((lookup (bytes_eq v) (sorts_of vars) ≡ Some s) × (has_name v vars ≡ true)) ⊎ (lookup (bytes_eq v) (sorts_of names) ≡ Some s)

of_both : (vars names : List Binder) (v : List ℕ) (s : Sort) → lookup (bytes_eq v) (sorts_of (vars ++ names)) ≡ Some s → OneOfBoth vars names v s
of_both [] names v s l = inr l
of_both (b ∷ vars) names v s l = by (of_both vars names v s) (bytes_eq v b.name) refl l
  where
    grow : bytes_eq v b.name ≡ false → OneOfBoth vars names v s → OneOfBoth (b ∷ vars) names v s
    grow e (inl p) = inl (ap (λ t. cond t (Some b.sort) (lookup (bytes_eq v) (sorts_of vars))) e ∙ p.0, or_right (bytes_eq v b.name) (has_name v vars) p.1)
    grow e (inr p) = inr p

    by : (lookup (bytes_eq v) (sorts_of (vars ++ names)) ≡ Some s → OneOfBoth vars names v s) → (t : Bool) → bytes_eq v b.name ≡ t → cond t (Some b.sort) (lookup (bytes_eq v) (sorts_of (vars ++ names))) ≡ Some s → OneOfBoth (b ∷ vars) names v s
    by go true e q = inl (ap (λ t. cond t (Some b.sort) (lookup (bytes_eq v) (sorts_of vars))) e ∙ q, or_left (bytes_eq v b.name) (has_name v vars) e)
    by go false e q = grow e (go q)

module _ (S : Setting) (defs : Defs) (env : Env) (goal : Goal) (names : List Binder) (new : AreNew names goal) (ds : List Datum) (sorted : AreFor names ds) where
  abbrev given_data : List ℕ → Datum
  given_data = with_each env.variables names ds

  -- what is mentioned keeps its datum
  keeps : (test : List ℕ → Bool) → ((v : List ℕ) → has_name v names ≡ true → test v ≡ false) → AgreeWhere test env.variables given_data
  keeps test k v i = sym (each_other names env.variables ds v (not_true (has_name v names) (λ h. true≢false (sym i ∙ k v h))))

  pub follows_names : (context : Context) → Follows S env (giving env given_data) goal (in_context goal context)
  follows_names context = alike_follow S env given_data goal (in_context goal context) (free_goal_alike S env given_data goal context (keeps (goal_mentions goal) new.in_goal))

  suits_names : (context : Context) → Suits (scope_of context) env → ((v : List ℕ) → has_name v names ≡ true → has_name v context.variables ≡ false) → (fs : List PlainFormula) → Suits (scope_of (with_names context names fs)) (giving env given_data)
  suits_names context suits k fs = record { each = λ v s l. by v s (of_both context.variables names v s l) }
    where
      by : (v : List ℕ) (s : Sort) → OneOfBoth context.variables names v s → HasSort s (given_data v)
      by v s (inl p) =
          subst (HasSort s) (sym (each_other names env.variables ds v (not_true (has_name v names) (λ h. true≢false (sym p.1 ∙ k v h))))) (suits.each v s p.0)
      by v s (inr p) = sorted_each names env.variables ds sorted new.distinct v s p

  lemma_at : (l : Lemma) (place : ℕ) (xs : List (List ℕ)) → AgreeWhere (λ v. list_any (bytes_eq v) xs) env.variables given_data → LemmaHoldsAtEach S l place env xs → LemmaHoldsAtEach S l place (giving env given_data) xs
  lemma_at l place [] k h = tt
  lemma_at l place (y ∷ xs) k h = (
    subst (LemmaHoldsAt S l place) (k y (or_left (bytes_eq y y) (list_any (bytes_eq y) xs) ((bytes_eq-Decides y y).1 refl))) h.0,
    lemma_at l place xs (λ v i. k v (or_right (bytes_eq v y) (list_any (bytes_eq v) xs) i)) h.1,
  )

  mark_names : (mark : Mark) → AgreeWhere (mark_mentions mark) env.variables given_data → MarkHolds S defs env mark → MarkHolds S defs (giving env given_data) (unmarked mark)
  mark_names m.Plain k h = tt
  mark_names (m.Start name) k h = tt
  mark_names (m.Induction name place xs) k h = λ l e. lemma_at l place xs k (h l e)

  pub given_names : (fs : List PlainFormula) → Given S defs (context_of goal) env → AllTrue S.defs S.has_spec (giving env given_data) fs → Given S defs (with_names (context_of goal) names fs) (giving env given_data)
  given_names fs g t =
      let c = context_of goal in
      let agree = keeps (context_mentions c) new.in_context in
      record {
        suits = suits_names c g.suits new.variables fs;
        global = g.global;
        hypotheses = all_true S.defs S.has_spec (giving env given_data) c.hypotheses fs
            ((alike_props S env env.variables given_data c.hypotheses c.hypotheses (props_alike S env env.variables given_data c.hypotheses (λ v i. agree v (or_left (formulas_mention v (formulas c.hypotheses)) (mark_mentions c.mark v) i)))).0 g.hypotheses) t;
        mark = mark_names c.mark (λ v i. agree v (or_right (formulas_mention v (formulas c.hypotheses)) (mark_mentions c.mark v) i)) g.mark;
      }

module _ (L : Linked) (more : List Further) (place : Places) (defs : Defs) (specs : SpecTable) (n : ℕ) where
  in_other : (goal : Goal) (context : Context) (env other : Env) → HoldsIn L more place defs specs n (in_context goal context) → Given (setting L more place) defs context other → Follows (setting L more place) env other goal (in_context goal context) → HoldsUnder L more place specs n env goal
  in_other (Run run) context env other h g f = follows_under L more place defs specs n env other (Run run) (Run (record run { context = context })) f (h other g)
  in_other (Entail entail) context env other h g f = follows_under L more place defs specs n env other (Entail entail) (Entail (record entail { context = context })) f (h other g)
  in_other (Pure pure) context env other h g f = follows_under L more place defs specs n env other (Pure pure) (Pure (record pure { context = context })) f (h other g)

  pub with_new_names : (goal : Goal) (names : List Binder) (fs : List PlainFormula) (env : Env) → AreNew names goal → Given (setting L more place) defs (context_of goal) env → AreThere (setting L more place) env names fs → HoldsIn L more place defs specs n (in_context goal (with_names (context_of goal) names fs)) → HoldsUnder L more place specs n env goal
  with_new_names goal names fs env new g t h =
      let S = setting L more place in
      let data' = with_each env.variables names t.data' in
      in_other goal (with_names (context_of goal) names fs) env (giving env data') h
      (given_names S defs env goal names new t.data' t.sorted fs g (subst (λ v. AllTrue S.defs S.has_spec v fs) (with_data_is env env.variables names t.data') t.hold))
      (follows_names S defs env goal names new t.data' t.sorted (with_names (context_of goal) names fs))
