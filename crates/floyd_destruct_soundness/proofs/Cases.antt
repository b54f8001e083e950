-- A goal holds where a case of it does, for data under which the case's term has the value of the variable.
use Rattle.std.proofs.Common.{◌≡◌, inl, inr, ◌⊎◌, ℕ, Bool, true, false, cond, List, [], ◌∷◌, ◌++◌, map, Some, None, Ok, sym, ap, subst, ◌∙◌, true≢false}
use Rattle.std.specs.Prelude.{bytes_eq, is_some}
use Rattle.std.specs.Map.{lookup}
use Rattle.floyd_tree_sorts.specs.declared.sorts.Sort.{Sort}
use Rattle.floyd_tree.specs.Formulas.{PlainFormula, formulas}
use Rattle.floyd_tree.specs.Made.{fits}
use Rattle.floyd_tree.specs.Plain.{Plain}
use Rattle.floyd_tree.specs.WellSorted.{sort_of}
use Rattle.floyd_tree_values.specs.BuiltIns.{Env}
use Rattle.floyd_tree_values.specs.Data.{Datum, HasSort}
use Rattle.floyd_tree_values.specs.Means.{Means}
use Rattle.floyd_tree_values.specs.Rules.{Suits}
use Rattle.floyd_truth.specs.Replace.{FormulasSortsAgree, puts}
use Rattle.floyd_truth.specs.Truth.{AllTrue}
use Rattle.floyd_truth.proofs.Fresh.{neither, not_true}
use Rattle.floyd_truth.proofs.OneTruth.{giving}
use Rattle.floyd_assert_changes.specs.Changed.{has_name}
use Rattle.floyd_assert_meaning.specs.Settings.{AreFor, Setting, with_each}
use Rattle.floyd_assert_trees.specs.declared.binder.Binder.{Binder}
use Rattle.floyd_assert_trees.specs.declared.items.Defs.{Defs}
use Rattle.floyd_assert_trees.specs.declared.items.Lemma.{Lemma}
use Rattle.floyd_assert_trees.specs.declared.spec.SpecTable.{SpecTable}
use Rattle.floyd_goal.specs.Goals.{in_context}
use Rattle.floyd_goal_changes.specs.Changed.{GoalSortsAgree}
use Rattle.floyd_goal_fits.proofs.Goals.{is_scoped}
use Rattle.floyd_goal_forms.specs.Goals.{IsWellFormed}
use Rattle.floyd_goal_forms.specs.Terms.{FormulasFit}
use Rattle.floyd_goal_laws.specs.Following.{Follows}
use Rattle.floyd_goal_laws.proofs.AlikeGoals.{alike_follow}
use Rattle.floyd_goal_laws.proofs.Consequences.{follows_under}
use Rattle.floyd_goal_meaning.specs.declared.linked.Linked.{Linked}
use Rattle.floyd_goal_meaning.specs.GoalHolds.{Given, HoldsFor, HoldsUnder, LemmaHoldsAtEach, LemmasAreTrue, MarkHolds}
use Rattle.floyd_goal_meaning.specs.Links.{AreApart, Has}
use Rattle.floyd_goal_meaning.specs.Programs.{Further, Places, setting}
use Rattle.floyd_goal_names.specs.Names.{with_names}
use Rattle.floyd_goal_names.proofs.NewNames.{each_other, follows_names, given_names}
use Rattle.floyd_goal_scopes.proofs.Goals.{other_names}
use Rattle.floyd_goal_scopes.proofs.Terms.{is_name}
use Rattle.floyd_goal_trees.specs.Contexts.{after_command, context_of, scope_of, unmarked}
use Rattle.floyd_goal_trees.specs.declared.context.Context.{Context}
use Rattle.floyd_goal_trees.specs.declared.context.Mark.{Mark}
use Rattle.floyd_goal_trees.specs.declared.context.Mark.TheVariants as m
use Rattle.floyd_goal_trees.specs.declared.goal.Goal.{Goal}
use Rattle.floyd_goal_trees.specs.declared.goal.Goal.TheVariants as g
use Rattle.floyd_pure_formulas.specs.VariableCases.{case_with, exchanged, first_taken, mark_without, names_without, sort_named, without}
use Rattle.floyd_pure_formulas.proofs.Exchanged.{pair}
use Rattle.floyd_pure_formulas.proofs.VariableTrue.{found_in, found_without, sort_found}
use Rattle.floyd_rewriting_soundness.specs.Small.{IsSmallGoal}
use Rattle.floyd_destruct_soundness.proofs.NewVariables.{are_apart, are_distinct}
use Rattle.floyd_destruct_soundness.proofs.Replaced.{case_of, hypotheses_true}

-- ---- variables before and behind

in_front : (xs ys : List Binder) (v : List ℕ) (r : Sort) → lookup (bytes_eq v) (map pair xs) ≡ Some r → lookup (bytes_eq v) (map pair (xs ++ ys)) ≡ Some r
in_front [] ys v r e = absurd cc
in_front (b ∷ xs) ys v r e = by (bytes_eq v b.name) (in_front xs ys v r) e
  where
    by : (c : Bool) → (lookup (bytes_eq v) (map pair xs) ≡ Some r → lookup (bytes_eq v) (map pair (xs ++ ys)) ≡ Some r) → cond c (Some b.sort) (lookup (bytes_eq v) (map pair xs)) ≡ Some r → cond c (Some b.sort) (lookup (bytes_eq v) (map pair (xs ++ ys))) ≡ Some r
    by true go e = e
    by false go e = go e

in_back : (xs ys : List Binder) (v : List ℕ) (r : Sort) → has_name v xs ≡ false → lookup (bytes_eq v) (map pair ys) ≡ Some r → lookup (bytes_eq v) (map pair (xs ++ ys)) ≡ Some r
in_back [] ys v r n e = e
in_back (b ∷ xs) ys v r n e =
    let p = neither (bytes_eq v b.name) (has_name v xs) n in
    ap (λ c. cond c (Some b.sort) (lookup (bytes_eq v) (map pair (xs ++ ys)))) p.0 ∙ in_back xs ys v r p.1 e

-- ---- marks with a name less

module _ (S : Setting) (defs : Defs) (env : Env) (x : List ℕ) where
  each_less : (l : Lemma) (place : ℕ) (names : List (List ℕ)) → LemmaHoldsAtEach S l place env names → LemmaHoldsAtEach S l place env (names_without x names)
  each_less l place [] h = tt
  each_less l place (y ∷ names) h = by (bytes_eq x y) (each_less l place names h.1)
    where
      by : (c : Bool) → LemmaHoldsAtEach S l place env (names_without x names) → LemmaHoldsAtEach S l place env (cond c (names_without x names) (y ∷ names_without x names))
      by true rest = rest
      by false rest = (h.0, rest)

  mark_less : (mark : Mark) → MarkHolds S defs env mark → MarkHolds S defs env (mark_without x mark)
  mark_less m.Plain h = tt
  mark_less (m.Start name) h = tt
  mark_less (m.Induction name place names) h = λ l e. each_less l place names (h l e)

  first_true : (fs gs : List PlainFormula) → AllTrue S.defs S.has_spec env (fs ++ gs) → AllTrue S.defs S.has_spec env fs
  first_true [] gs h = tt
  first_true (f ∷ fs) gs h = (h.0, first_true fs gs h.1)

-- ---- well-formed goals

module _ (defs : Defs) (specs : SpecTable) where
  hypotheses_fit : (goal : Goal) → IsWellFormed defs specs goal → FormulasFit defs specs (scope_of (context_of goal)) (context_of goal).hypotheses
  hypotheses_fit (g.Run run) h = h.context.hypotheses
  hypotheses_fit (g.Entail entail) h = h.context.hypotheses
  hypotheses_fit (g.Pure pure) h = h.context.hypotheses

hypotheses_agree : (changes : _) (goal : Goal) → GoalSortsAgree changes goal → FormulasSortsAgree changes (formulas (context_of goal).hypotheses)
hypotheses_agree changes (g.Run run) h = h.context
hypotheses_agree changes (g.Entail entail) h = h.context
hypotheses_agree changes (g.Pure pure) h = h.context

module _ (L : Linked) (more : List Further) (place : Places) (defs : Defs) (specs : SpecTable) (n : ℕ) where
  -- what a goal says does not look at its context
  from_other : (goal : Goal) (context : Context) (env other : Env) → Follows (setting L more place) env other goal (in_context goal context) → HoldsUnder L more place specs n other goal → HoldsUnder L more place specs n env goal
  from_other (g.Run run) context env other f h = follows_under L more place defs specs n env other (g.Run run) (g.Run (record run { context = context })) f h
  from_other (g.Entail entail) context env other f h = follows_under L more place defs specs n env other (g.Entail entail) (g.Entail (record entail { context = context })) f h
  from_other (g.Pure pure) context env other f h = follows_under L more place defs specs n env other (g.Pure pure) (g.Pure (record pure { context = context })) f h

-- ---- the environment is given for the goal in a case

module _ (S : Setting) (defs : Defs) (env : Env) (context : Context) (x : List ℕ) (new : List Binder) (apart : (v : List ℕ) → has_name v new ≡ true → has_name v context.variables ≡ false) (given : Given S defs (with_names context new []) env) where
  suits_case : Suits (map pair (without x context.variables ++ new)) env
  suits_case = record { each = λ v r e. by v r (found_in (without x context.variables) new v r e) }
    where
      by : (v : List ℕ) (r : Sort) → (lookup (bytes_eq v) (map pair (without x context.variables)) ≡ Some r) ⊎ (lookup (bytes_eq v) (map pair new) ≡ Some r) → HasSort r (env.variables v)
      by v r (inl i) = given.suits.each v r (in_front context.variables new v r (found_without x context.variables v r i).0)
      by v r (inr i) = given.suits.each v r (in_back context.variables new v r (apart v (is_name v new (ap is_some i))) i)

  given_case : (hs : List PlainFormula) → (AllTrue S.defs S.has_spec env context.hypotheses → AllTrue S.defs S.has_spec env hs) → Given S defs (exchanged x new (record (after_command context) { hypotheses = hs })) env
  given_case hs f = record {
    suits = suits_case;
    global = given.global;
    hypotheses = f (first_true S defs env x context.hypotheses [] given.hypotheses);
    mark = mark_less S defs env x (unmarked context.mark) given.mark;
  }

module _ (L : Linked) (more : List Further) (place : Places) (defs : Defs) (specs : SpecTable) (n : ℕ) (has : Has L defs specs) (apart : AreApart L more place) (lemmas : LemmasAreTrue (setting L more place) defs) (goal : Goal) (formed : IsWellFormed defs specs goal) (few : IsSmallGoal goal) (env : Env) (given : Given (setting L more place) defs (context_of goal) env) where
  abbrev S : Setting
  S = setting L more place

  -- where it does under the data for the new variables alone
  pub case_at : (x : List ℕ) (sort : Sort) (t : Plain) (new : List Binder) (ds : List Datum) (made : Goal) → sort_named x (context_of goal).variables ≡ Some sort → sort_of t ≡ Some sort → fits t ≡ true → first_taken (context_of goal).variables [] new ≡ None → AreFor new ds → case_with goal x t new ≡ Ok made → Means S.defs (giving env (with_each env.variables new ds)) t (env.variables x) →
      (Given S defs (context_of made) (giving env (with_each env.variables new ds)) → HoldsUnder L more place specs n (giving env (with_each env.variables new ds)) made) → HoldsUnder L more place specs n env goal
  case_at x sort t new ds made is sorted small fresh are row means held =
      let context = context_of goal in
      let others = are_apart context.variables [] new fresh in
      let names = other_names defs specs goal new formed (are_distinct context.variables [] new fresh) others in
      let there : Env = giving env (with_each env.variables new ds) in
      let old : has_name x new ≡ false = not_true (has_name x new) (λ h. true≢false (sym (is_name x context.variables (ap is_some (sort_found x context.variables sort is))) ∙ others x h)) in
      let own : Means S.defs there t (there.variables x) = subst (Means S.defs there t) (sym (each_other new env.variables ds x old)) means in
      let agree : GoalSortsAgree (puts ((x, t) ∷ [])) goal = (is_scoped defs specs goal formed).variables x sort is t sorted in
      let c = case_of S there x t small own defs specs goal made new formed few agree row in
      let given' : Given S defs (with_names context new []) there = given_names S defs env goal new names ds are [] given tt in
      let hyps = hypotheses_true S there x t small own defs specs (scope_of context) context.hypotheses c.hypotheses (hypotheses_fit defs specs goal formed) (hypotheses_agree (puts ((x, t) ∷ [])) goal agree) c.all in
      let in_case : Given S defs (context_of made) there = subst (λ k. Given S defs k there) (sym c.context) (given_case S defs there context x new others given' c.hypotheses hyps) in
      let here : HoldsUnder L more place specs n there goal = follows_under L more place defs specs n there there goal made (alike_follow S there there.variables goal made c.alike) (held in_case) in
      from_other L more place defs specs n goal context env there (follows_names S defs env goal new names ds are context) here

  pub case_under : (x : List ℕ) (sort : Sort) (t : Plain) (new : List Binder) (ds : List Datum) (made : Goal) → sort_named x (context_of goal).variables ≡ Some sort → sort_of t ≡ Some sort → fits t ≡ true → first_taken (context_of goal).variables [] new ≡ None → AreFor new ds → case_with goal x t new ≡ Ok made → Means S.defs (giving env (with_each env.variables new ds)) t (env.variables x) → HoldsFor defs specs n made → HoldsUnder L more place specs n env goal
  case_under x sort t new ds made is sorted small fresh are row means held = case_at x sort t new ds made is sorted small fresh are row means (λ g. held.in_each L more place has apart lemmas (giving env (with_each env.variables new ds)) g)
