-- A goal says the same with a term in the place of a variable of the same value.
use Rattle.std.proofs.Common.{◌≡◌, ◌↔◌, ℕ, ◌+◌, ◌<◌, ◌≤◌, ◌^◌, Bool, true, false, ◌&&◌, cond, List, [], ◌∷◌, map, Option, Some, None, Result, Ok, Err, refl, sym, ap, subst, ◌∙◌, arith, leb-true}
use Rattle.std.specs.Prelude.{bytes_eq, drop, nat_le}
use Rattle.std.specs.List.{list_all}
use Rattle.std.proofs.lemmas.Slice.Eq.{bytes_eq-Decides}
use Rattle.floyd_text.specs.declared.refusal.No.{No}
use Rattle.floyd_ctypes.specs.declared.ctype.CType.{CType, Void}
use Rattle.floyd_tree_sorts.proofs.SortLemmas.{both_true}
use Rattle.floyd_tree.specs.Formulas.{PlainFormula, formula_height, formula_size, formulas, well_sorted}
use Rattle.floyd_tree.specs.Made.{fits}
use Rattle.floyd_tree.specs.MadeFormulas.{formula_fits}
use Rattle.floyd_tree.specs.Plain.{Plain, height, size}
use Rattle.floyd_tree_values.specs.BuiltIns.{Env}
use Rattle.floyd_tree_values.specs.Means.{Means}
use Rattle.floyd_tree_values.specs.Rules.{Scope}
use Rattle.floyd_truth.specs.Laws.{Changed, IsAfter, nodes}
use Rattle.floyd_truth.specs.Replace.{FormulaSortsAgree, FormulasSortsAgree, puts, replaced_formula}
use Rattle.floyd_truth.specs.Truth.{AllTrue, Truth}
use Rattle.floyd_truth.proofs.InChanged.{true_in_changed}
use Rattle.floyd_assert_changes.specs.Changed.{AssertionSortsAgree, assertion_after, assertion_fits, assertion_with}
use Rattle.floyd_assert_changes.specs.Substituted.{formula_with, formulas_with}
use Rattle.floyd_assert_laws.specs.InChanged.{IsSorted, body_nodes}
use Rattle.floyd_assert_laws.proofs.Replaced.{assertion_changed}
use Rattle.floyd_assert_meaning.specs.Alike.{Alike, MeanAlike, OptionAlike, PostsAlike}
use Rattle.floyd_assert_meaning.specs.Same.{Pairwise, PartsAgree}
use Rattle.floyd_assert_meaning.specs.Settings.{Setting, with_each}
use Rattle.floyd_assert_trees.specs.declared.assertion.Assertion.{Assertion}
use Rattle.floyd_assert_trees.specs.declared.binder.Binder.{Binder}
use Rattle.floyd_assert_trees.specs.declared.items.Defs.{Defs}
use Rattle.floyd_assert_trees.specs.declared.sep.Sep.{Sep}
use Rattle.floyd_assert_trees.specs.declared.sep.Sep.TheVariants.{FieldAt, Padding, Valid, Anything, Predicate}
use Rattle.floyd_assert_trees.specs.declared.spec.SpecTable.{SpecTable}
use Rattle.floyd_goal_changes.specs.Changed.{ExitSortsAgree, ExitsSortsAgree, GoalSortsAgree, context_with, covering, entail_with, exit_with, exits_behind, exits_with, first_term, goal_with, of_one, of_three, of_two, pure_with, return_with, run_with, uncovered}
use Rattle.floyd_goal_forms.specs.Assertions.{AssertionFits, inner_scope}
use Rattle.floyd_goal_forms.specs.Goals.{ExitFits, ExitsFit, IsWellFormed, ResultFits, ReturnFits}
use Rattle.floyd_goal_forms.specs.Terms.{FormulasFit}
use Rattle.floyd_goal_laws.specs.Alike.{ExitsAlike, GoalsAlike, ReturnsAlike, WaysAlike}
use Rattle.floyd_goal_meaning.specs.GoalHolds.{postcondition}
use Rattle.floyd_goal_trees.specs.Contexts.{after_command, context_of, scope_of}
use Rattle.floyd_goal_trees.specs.declared.context.Context.{Context}
use Rattle.floyd_goal_trees.specs.declared.exits.Exit.{Exit}
use Rattle.floyd_goal_trees.specs.declared.exits.Exit.TheVariants as way
use Rattle.floyd_goal_trees.specs.declared.exits.Exits.{Exits}
use Rattle.floyd_goal_trees.specs.declared.exits.Return.{Return}
use Rattle.floyd_goal_trees.specs.declared.goal.Entail.{Entail}
use Rattle.floyd_goal_trees.specs.declared.goal.Goal.{Goal}
use Rattle.floyd_goal_trees.specs.declared.goal.Goal.TheVariants as g
use Rattle.floyd_goal_trees.specs.declared.goal.Pure.{Pure}
use Rattle.floyd_goal_trees.specs.declared.goal.Run.{Run}
use Rattle.floyd_pure_formulas.specs.VariableCases.{case_with, exchanged, with_exchanged}
use Rattle.floyd_pure_formulas.proofs.Substituting.{formula_size_kept}
use Rattle.floyd_rewriting_soundness.specs.Small.{AreSmallExits, IsSmall, IsSmallExit, IsSmallGoal}
use Rattle.floyd_rewriting_soundness.proofs.Formed.{formed_sorted}
use Rattle.floyd_destruct_soundness.proofs.Back.{alike_back}

-- ---- what was made of parts that are all there

one_made : {A B : Type 0} (f : A → B) (r : Result A No) (made : B) → of_one f r ≡ Ok made → (a : A) × (r ≡ Ok a) × (made ≡ f a)
one_made f (Ok a) made e = (a, refl, cc)
one_made f (Err refusal) made e = absurd cc

two_made : {A B C : Type 0} (f : A → B → C) (r : Result A No) (s : Result B No) (made : C) → of_two f r s ≡ Ok made → (a : A) × (b : B) × (r ≡ Ok a) × (s ≡ Ok b) × (made ≡ f a b)
two_made f (Ok a) s made e = let p = one_made (f a) s made e in (a, p.0, refl, p.1, p.2)
two_made f (Err refusal) s made e = absurd cc

three_made : {A B C D : Type 0} (f : A → B → C → D) (r : Result A No) (s : Result B No) (t : Result C No) (made : D) → of_three f r s t ≡ Ok made → (a : A) × (b : B) × (c : C) × (r ≡ Ok a) × (s ≡ Ok b) × (t ≡ Ok c) × (made ≡ f a b c)
three_made f (Ok a) s t made e = let p = two_made (f a) s t made e in (a, p.0, p.1, refl, p.2, p.3, p.4)
three_made f (Err refusal) s t made e = absurd cc

within : {T : Type 0} (test : T → Bool) (a : T) (b : Bool) (refused : No) (made : T) → test a ≡ b → ◌≡◌ {A = Result T No} (cond b (Ok a) (Err refused)) (Ok made) → (a ≡ made) × (test a ≡ true)
within test a true refused made h e = (cc, h)
within test a false refused made h e = absurd cc

bound : (m n : ℕ) → (nat_le m 65536 && nat_le n 256) ≡ true → m ≤ 65536
bound m n h = leb-true m 65536 (both_true (nat_le m 65536) (nat_le n 256) h).0

ok_same : {T : Type 0} (a b : T) → ◌≡◌ {A = Result T No} (Ok a) (Ok b) → a ≡ b
ok_same a b e = cc

-- ---- the returned term stands as one part more

first_agrees : (R : Plain → Plain → Type 0) (t : Plain) (qs ps : List Sep) → Pairwise (PartsAgree R) (Valid t ∷ qs) ps → (u : Plain) × (first_term ps ≡ Some u) × R t u × Pairwise (PartsAgree R) qs (drop 1 ps)
first_agrees R t qs [] h = absurd h
first_agrees R t qs (FieldAt r u ∷ ps) h = absurd h.0
first_agrees R t qs (Padding r ∷ ps) h = absurd h.0
first_agrees R t qs (Valid u ∷ ps) h = (u, refl, h.0, h.1)
first_agrees R t qs (Anything ∷ ps) h = absurd h.0
first_agrees R t qs (Predicate name us ∷ ps) h = absurd h.0

module _ (S : Setting) (env : Env) where
  abbrev Same : Assertion → Assertion → Type 0
  Same a b = Alike S env env.variables env.variables a b

  post_alike : (ret : Return) (o : Option Plain) (c : Assertion) → ret.value ≡ o → Same (covering ret.post o) c → PostsAlike S env env.variables env.variables (postcondition ret) (postcondition (uncovered ret o c))
  post_alike ret None c e k = record {
    sorts = k.sorts;
    bodies = λ ds s.
        let p = k.bodies ds s in
        record {
          props = p.props;
          value = subst (λ o. OptionAlike S env (with_each env.variables ret.post.existentials ds) (with_each env.variables c.existentials ds) o o) (sym e) tt;
          parts = p.parts;
        };
  }
  post_alike ret (Some t) c e k = record {
    sorts = k.sorts;
    bodies = λ ds s.
        let p = k.bodies ds s in
        let F = with_each env.variables ret.post.existentials ds in
        let G = with_each env.variables c.existentials ds in
        let q = first_agrees (MeanAlike S env F G) t ret.post.parts c.parts p.parts in
        record {
          props = p.props;
          value = subst (λ o. OptionAlike S env F G o (first_term c.parts)) (sym e) (subst (OptionAlike S env F G (Some t)) (sym q.1) q.2);
          parts = q.3;
        };
  }

  returns_alike : (ret : Return) (o : Option Plain) (c : Assertion) → ret.value ≡ o → Same (covering ret.post o) c → ReturnsAlike S env env.variables ret (uncovered ret o c)
  returns_alike ret None c e k = record { result = refl; blocks = refl; post = post_alike ret None c e k }
  returns_alike ret (Some t) c e k = record { result = refl; blocks = refl; post = post_alike ret (Some t) c e k }

covering_fits : (defs : Defs) (specs : SpecTable) (scope : Scope) (post : Assertion) (result : CType) (value : Option Plain) → AssertionFits defs specs scope post → ResultFits defs (inner_scope post scope) result value → AssertionFits defs specs scope (covering post value)
covering_fits defs specs scope post result None fit v = fit
covering_fits defs specs scope post Void (Some t) fit v = absurd v
covering_fits defs specs scope post result (Some t) fit v = record {
  existentials = fit.existentials;
  props = fit.props;
  temporaries = fit.temporaries;
  locals = fit.locals;
  parts = (v, fit.parts);
}

-- ---- the term has the value of the variable

module _ (S : Setting) (env : Env) (x : List ℕ) (t : Plain) (small : fits t ≡ true) (means : Means S.defs env t (env.variables x)) (defs : Defs) (specs : SpecTable) where
  abbrev by : List (List ℕ × Plain)
  by = (x, t) ∷ []

  changed : Changed S.defs env by env.variables
  changed v = at (bytes_eq v x) refl
    where
      at : (c : Bool) → bytes_eq v x ≡ c → IsAfter S.defs env (cond c (Some t) None) (env.variables v) (env.variables v)
      at true i = subst (λ n. Means S.defs env t (env.variables n)) (sym ((bytes_eq-Decides v x).0 i)) means
      at false i = refl

  -- formulas
  true_made : (a : PlainFormula) → well_sorted a ≡ true → formula_fits (replaced_formula (puts by) a) ≡ true → FormulaSortsAgree (puts by) a → Truth S.defs S.has_spec env (replaced_formula (puts by) a) ↔ Truth S.defs S.has_spec env a
  true_made a well fit agree =
      let made = replaced_formula (puts by) a in
      let few : nodes by + formula_size a < 2 ^ 63 = omega (arith, bound (size t) (height t) small, formula_size_kept (puts by) a well, bound (formula_size made) (formula_height made) fit) in
      true_in_changed S.defs env by env.variables changed S.has_spec a well few agree

  each_true : (scope : Scope) (hs : List PlainFormula) → FormulasFit defs specs scope hs → list_all formula_fits (map (replaced_formula (puts by)) hs) ≡ true → FormulasSortsAgree (puts by) (formulas hs) → AllTrue S.defs S.has_spec env hs → AllTrue S.defs S.has_spec env (map (replaced_formula (puts by)) hs)
  each_true scope [] fit w agree h = tt
  each_true scope (a ∷ hs) fit w agree h =
      let b = both_true (formula_fits (replaced_formula (puts by) a)) (list_all formula_fits (map (replaced_formula (puts by)) hs)) w in
      ((true_made a fit.0.fits.sorted b.0 agree.0).1 h.0, each_true scope hs fit.1 b.1 agree.1 h.1)

  pub hypotheses_true : (scope : Scope) (hs made : List PlainFormula) → FormulasFit defs specs scope hs → FormulasSortsAgree (puts by) (formulas hs) → formulas_with by hs ≡ Ok made → AllTrue S.defs S.has_spec env hs → AllTrue S.defs S.has_spec env made
  hypotheses_true scope hs made fit agree e h =
      let all = map (replaced_formula (puts by)) hs in
      let m = within (list_all formula_fits) all (list_all formula_fits all) _ made refl e in
      subst (AllTrue S.defs S.has_spec env) m.0 (each_true scope hs fit m.1 agree h)

  -- assertions
  same_made : (a made : Assertion) → IsSorted a → IsSmall a → AssertionSortsAgree (puts by) a → assertion_with by a ≡ Ok made → Same S env a made
  same_made a made sorted few agree e =
      let after = assertion_after (puts by) a in
      let m = within assertion_fits after (assertion_fits after) _ made refl e in
      let less : nodes by + body_nodes a < 2 ^ 63 = omega (arith, bound (size t) (height t) small, few) in
      subst (Same S env a) m.0 (alike_back S env env.variables env.variables after a (assertion_changed S env by env.variables changed a sorted less agree))

  -- exits
  exit_same : (scope : Scope) (a made : Exit) → ExitFits defs specs scope a → IsSmallExit a → ExitSortsAgree (puts by) a → exit_with by a ≡ Ok made → ExitsAlike S env env.variables a made
  exit_same scope way.None made fit few agree e = subst (ExitsAlike S env env.variables way.None) (ok_same way.None made e) tt
  exit_same scope (way.To a) made fit few agree e =
      let p = one_made way.To (assertion_with by a) made e in
      subst (ExitsAlike S env env.variables (way.To a)) (sym p.2) (same_made a p.0 (formed_sorted defs specs scope a fit) few agree p.1)
  exit_same scope way.End made fit few agree e = subst (ExitsAlike S env env.variables way.End) (ok_same way.End made e) tt

  return_same : (scope : Scope) (ret made : Return) → ReturnFits defs specs scope ret → IsSmall (covering ret.post ret.value) → AssertionSortsAgree (puts by) (covering ret.post ret.value) → return_with by ret ≡ Ok made → ReturnsAlike S env env.variables ret made
  return_same scope ret made fit few agree e =
      let covered = covering ret.post ret.value in
      let p = one_made (uncovered ret ret.value) (assertion_with by covered) made e in
      let sorted = formed_sorted defs specs scope covered (covering_fits defs specs scope ret.post ret.result ret.value fit.post fit.value) in
      subst (ReturnsAlike S env env.variables ret) (sym p.2) (returns_alike S env ret ret.value p.0 refl (same_made covered p.0 sorted few agree p.1))

  ways_same : (scope : Scope) (exits made : Exits) → ExitsFit defs specs scope exits → AreSmallExits exits → ExitsSortsAgree (puts by) exits → exits_with by exits ≡ Ok made → WaysAlike S env env.variables exits made
  ways_same scope exits made fit few agree e = behind (return_with by exits.ret) refl e
    where
      behind : (r : Result Return No) → return_with by exits.ret ≡ r → exits_behind by exits r ≡ Ok made → WaysAlike S env env.variables exits made
      behind (Ok ret) i e =
          let f : Exit → Exit → Exit → Exits = λ normal brk cont. record { normal = normal; brk = brk; cont = cont; ret = ret } in
          let p = three_made f (exit_with by exits.normal) (exit_with by exits.brk) (exit_with by exits.cont) made e in
          subst (WaysAlike S env env.variables exits) (sym p.6) (record {
            normal = exit_same scope exits.normal p.0 fit.normal few.normal agree.normal p.3;
            brk = exit_same scope exits.brk p.1 fit.brk few.brk agree.brk p.4;
            cont = exit_same scope exits.cont p.2 fit.cont few.cont agree.cont p.5;
            ret = return_same scope exits.ret ret fit.ret few.ret agree.ret i;
          })
      behind (Err refusal) i e = absurd cc

  -- goals
  hypotheses_made : (context made : Context) → context_with by context ≡ Ok made → (hs : List PlainFormula) × (formulas_with by context.hypotheses ≡ Ok hs) × (made ≡ record (after_command context) { hypotheses = hs })
  hypotheses_made context made e =
      let f : List PlainFormula → Context = λ hs. record (after_command context) { hypotheses = hs } in
      one_made f (formulas_with by context.hypotheses) made e

  -- the goal in a case says the same
  pub record CaseOf (goal made : Goal) (new : List Binder) : Type 0 where
    pub hypotheses : List PlainFormula
    pub all : formulas_with by (context_of goal).hypotheses ≡ Ok hypotheses
    pub context : context_of made ≡ exchanged x new (record (after_command (context_of goal)) { hypotheses = hypotheses })
    pub alike : GoalsAlike S env env.variables goal made

  pub case_of : (goal made : Goal) (new : List Binder) → IsWellFormed defs specs goal → IsSmallGoal goal → GoalSortsAgree (puts by) goal → case_with goal x t new ≡ Ok made → CaseOf goal made new
  case_of (g.Run run) made new fit few agree e =
      let f : Context → Assertion → Exits → Run = λ context source exits. record { context = context; source = source; rest = run.rest; exits = exits } in
      let a = one_made (with_exchanged x new) (goal_with by (g.Run run)) made e in
      let b = one_made g.Run (run_with by run) a.0 a.1 in
      let c = three_made f (context_with by run.context) (assertion_with by run.source) (exits_with by run.exits) b.0 b.1 in
      let h = hypotheses_made run.context c.0 c.3 in
      let is : made ≡ with_exchanged x new (g.Run (f c.0 c.1 c.2)) = a.2 ∙ ap (with_exchanged x new) (b.2 ∙ ap g.Run c.6) in
      let source = same_made run.source c.1 (formed_sorted defs specs (scope_of run.context) run.source fit.source) few.0 agree.source c.4 in
      let exits = ways_same (scope_of run.context) run.exits c.2 fit.exits few.1 agree.exits c.5 in
      record {
        hypotheses = h.0;
        all = h.1;
        context = ap context_of is ∙ ap (exchanged x new) h.2;
        alike = subst (GoalsAlike S env env.variables (g.Run run)) (sym is) (refl, source, exits);
      }
  case_of (g.Entail entail) made new fit few agree e =
      let f : Context → Assertion → Assertion → Entail = λ context source target. record { context = context; source = source; target = target } in
      let a = one_made (with_exchanged x new) (goal_with by (g.Entail entail)) made e in
      let b = one_made g.Entail (entail_with by entail) a.0 a.1 in
      let c = three_made f (context_with by entail.context) (assertion_with by entail.source) (assertion_with by entail.target) b.0 b.1 in
      let h = hypotheses_made entail.context c.0 c.3 in
      let is : made ≡ with_exchanged x new (g.Entail (f c.0 c.1 c.2)) = a.2 ∙ ap (with_exchanged x new) (b.2 ∙ ap g.Entail c.6) in
      let source = same_made entail.source c.1 (formed_sorted defs specs (scope_of entail.context) entail.source fit.source) few.0 agree.source c.4 in
      let target = same_made entail.target c.2 (formed_sorted defs specs (scope_of entail.context) entail.target fit.target) few.1 agree.target c.5 in
      record {
        hypotheses = h.0;
        all = h.1;
        context = ap context_of is ∙ ap (exchanged x new) h.2;
        alike = subst (GoalsAlike S env env.variables (g.Entail entail)) (sym is) (source, target);
      }
  case_of (g.Pure pure) made new fit few agree e =
      let f : Context → PlainFormula → Pure = λ context target. record { context = context; target = target } in
      let a = one_made (with_exchanged x new) (goal_with by (g.Pure pure)) made e in
      let b = one_made g.Pure (pure_with by pure) a.0 a.1 in
      let c = two_made f (context_with by pure.context) (formula_with by pure.target) b.0 b.1 in
      let h = hypotheses_made pure.context c.0 c.2 in
      let is : made ≡ with_exchanged x new (g.Pure (f c.0 c.1)) = a.2 ∙ ap (with_exchanged x new) (b.2 ∙ ap g.Pure c.4) in
      let after = replaced_formula (puts by) pure.target in
      let m = within formula_fits after (formula_fits after) _ c.1 refl c.3 in
      let k = subst (λ q. Truth S.defs S.has_spec env q ↔ Truth S.defs S.has_spec env pure.target) m.0 (true_made pure.target fit.target.fits.sorted m.1 agree.target) in
      record {
        hypotheses = h.0;
        all = h.1;
        context = ap context_of is ∙ ap (exchanged x new) h.2;
        alike = subst (GoalsAlike S env env.variables (g.Pure pure)) (sym is) (k.1, k.0);
      }
