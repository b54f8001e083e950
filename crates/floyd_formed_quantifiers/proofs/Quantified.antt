-- Commands on quantified formulas make well-formed goals.
use Rattle.std.proofs.Common.{◌≡◌, ℕ, Bool, true, false, cond, List, [], ◌∷◌, Result, Ok, Err, refl, sym, ap, subst, ◌∙◌}
use Rattle.std.specs.List.{AllByRecursion}
use Rattle.floyd_text.specs.declared.code.Code.TheVariants as c
use Rattle.floyd_text.specs.declared.refusal.No.{No}
use Rattle.floyd_tree_sorts.specs.declared.sorts.Sort.{Sort}
use Rattle.floyd_tree_sorts.proofs.SortLemmas.{same_sort_self}
use Rattle.floyd_tree.specs.Formulas.{PlainFormula}
use Rattle.floyd_tree.specs.Plain.{Plain}
use Rattle.floyd_tree_values.specs.Rules.{Scope}
use Rattle.floyd_assert_changes.specs.Changed.{has_name}
use Rattle.floyd_assert_changes.specs.Substituted.{formula_with}
use Rattle.floyd_assert_trees.specs.declared.binder.Binder.{Binder}
use Rattle.floyd_assert_trees.specs.declared.items.Defs.{Defs}
use Rattle.floyd_assert_trees.specs.declared.spec.SpecTable.{SpecTable}
use Rattle.floyd_assert_trees.specs.Meanings.{value_defs}
use Rattle.floyd_goal.specs.Goals.{intros_first, is_pending, number_of, pure_goal, refusal}
use Rattle.floyd_goal_formulas.specs.Said.{Saying, Absurd, Both, Either, ForAll, Implication, ThereIs, said}
use Rattle.floyd_goal_trees.specs.Contexts.{context_of, scope_of}
use Rattle.floyd_goal_trees.specs.declared.args.Args.{Args}
use Rattle.floyd_goal_trees.specs.declared.context.Context.{Context}
use Rattle.floyd_goal_trees.specs.declared.goal.Goal.{Goal}
use Rattle.floyd_goal_trees.specs.declared.goal.Goal.TheVariants as g
use Rattle.floyd_goal_trees.specs.declared.goal.Pure.{Pure}
use Rattle.floyd_goal_forms.specs.Goals.{IsWellFormed}
use Rattle.floyd_goal_forms.specs.Terms.{FormulaFits, TermFits}
use Rattle.floyd_pure_formulas.specs.HypothesisCases.{HypothesisCases, OfCases, cases_of, in_cases, opened}
use Rattle.floyd_pure_formulas.specs.Instances.{goal_by, instance}
use Rattle.floyd_pure_formulas.specs.Naming.{taken, variable}
use Rattle.floyd_pure_formulas.specs.Rows.{OfHypothesis, Unless, extended, no_such, with_more}
use Rattle.floyd_pure_formulas.proofs.Rowing.{found, goals_are, no_goals, passed}
use Rattle.floyd_pure_formulas.proofs.Shapes.{for_all, for_all_fits, there_is, there_is_fits}
use Rattle.floyd_pure_formulas.proofs.Substituting.{Instantiated, instantiated}
use Rattle.floyd_pure_quantifiers.specs.Exists.{ExistsRow, witnessed}
use Rattle.floyd_pure_quantifiers.specs.Intro.{IntroRow, introduced, one_binder, supposing, with_variable}
use Rattle.floyd_pure_quantifiers.specs.Specialize.{SpecializeRow, specialized}
use Rattle.floyd_pure_quantifiers.proofs.Instancing.{goal_made}
use Rattle.floyd_pure_soundness.specs.Rows.{HypothesisCasesRow}
use Rattle.floyd_formed_pure.specs.Rows.{AreWellFormed, GivenTerm, KeepsForms}
use Rattle.floyd_formed_pure.proofs.Contexts.{context_formed, enriched_formed, hypothesis_formed, pure_formed, with_more_formed}
use Rattle.floyd_formed_pure.proofs.Sayings.{PartsFormed, PartsKnown, parts_formed, parts_known}
use Rattle.floyd_formed_quantifiers.proofs.Extending.{extended_formed, opened_formed, scope_in, variable_fits}
use Rattle.floyd_formed_quantifiers.proofs.Instancing.{instance_formed}

module _ (defs : Defs) (specs : SpecTable) (scope : Scope) (x : List ℕ) (s : Sort) (body : PlainFormula) where
  -- what stands below a quantifier
  below_all : (a : PlainFormula) → said a ≡ ForAll x s body → FormulaFits defs specs scope a → FormulaFits defs specs ((x, s) ∷ scope) body
  below_all a e h = record {
    fits = for_all_fits (value_defs defs) scope x s body a (for_all x s body a e) h.fits;
    known = subst (PartsKnown defs specs) e (parts_known defs specs a h.known);
  }

  below_some : (a : PlainFormula) → said a ≡ ThereIs x s body → FormulaFits defs specs scope a → FormulaFits defs specs ((x, s) ∷ scope) body
  below_some a e h = record {
    fits = there_is_fits (value_defs defs) scope x s body a (there_is x s body a e) h.fits;
    known = subst (PartsKnown defs specs) e (parts_known defs specs a h.known);
  }

  -- an instance at a term that the command is given
  given_instance : (terms : List Plain) (made : PlainFormula) → AllByRecursion (GivenTerm defs scope) terms → FormulaFits defs specs ((x, s) ∷ scope) body → instance x s body terms ≡ Ok made → FormulaFits defs specs scope made
  given_instance [] made given h e = absurd cc
  given_instance (t ∷ []) made given h e =
      let i = instantiated x s body t made e in
      let fit : TermFits defs scope s t = record { fits = record { sorted = i.sort; allowed = given.0.0.1.fits.allowed }; known = given.0.0.1.known } in
      instance_formed defs specs scope scope x s t (λ v r j. j) fit body made h i given.0.1
  given_instance (t ∷ u ∷ more) made given h e = absurd cc

-- a new variable in the place of a bound one
variable_instance : (x y : List ℕ) (s : Sort) (body made : PlainFormula) → formula_with ((y, variable x s) ∷ []) body ≡ Ok made → Instantiated y s body (variable x s) made
variable_instance x y s body made e =
    instantiated y s body (variable x s) made (ap (λ b. cond b (formula_with ((y, variable x s) ∷ []) body) (Err (refusal c.IllSorted))) (same_sort_self s) ∙ e)

new_instance : (defs : Defs) (specs : SpecTable) (context : Context) (x y : List ℕ) (s : Sort) (body made : PlainFormula) → has_name x context.variables ≡ false → FormulaFits defs specs ((y, s) ∷ scope_of context) body → formula_with ((y, variable x s) ∷ []) body ≡ Ok made →
    FormulaFits defs specs (scope_of (extended context (one_binder x s))) made
new_instance defs specs context x y s body made new h e =
    let b : Binder = record { name = x; sort = s } in
    instance_formed defs specs (scope_of context) (scope_of (extended context (one_binder x s))) y s (variable x s) (scope_in defs context b new) (variable_fits defs context b new) body made h (variable_instance x y s body made e) refl

-- ---- specialize and Exists

module _ (defs : Defs) (specs : SpecTable) (goal : Goal) (formed : IsWellFormed defs specs goal) (args : Args) (given : AllByRecursion (GivenTerm defs (scope_of (context_of goal))) args.terms) (goals : List Goal) where
  abbrev scope : Scope
  scope = scope_of (context_of goal)

  specialized_formed : (a : PlainFormula) → FormulaFits defs specs scope a → (s : Saying) → said a ≡ s → Ok goals ≡ specialized goal args s → AreWellFormed defs specs goals
  specialized_formed a h (ForAll x r body) e row =
      let m = goal_made (λ b. with_more goal (b ∷ [])) (instance x r body args.terms) goals row in
      let made = given_instance defs specs scope x r body args.terms m.0 given (below_all defs specs scope x r body a e h) m.1 in
      subst (AreWellFormed defs specs) (sym m.2) (with_more_formed defs specs goal (m.0 ∷ []) formed (made, tt), tt)
  specialized_formed a h s e row = absurd (no_goals goals _ row)

  witnessed_formed : (a : PlainFormula) → FormulaFits defs specs scope a → (s : Saying) → said a ≡ s → Ok goals ≡ witnessed (context_of goal) args.terms s → AreWellFormed defs specs goals
  witnessed_formed a h (ThereIs x r body) e row =
      let m = goal_made (pure_goal (context_of goal)) (instance x r body args.terms) goals row in
      let made = given_instance defs specs scope x r body args.terms m.0 given (below_some defs specs scope x r body a e h) m.1 in
      subst (AreWellFormed defs specs) (sym m.2) (pure_formed defs specs goal m.0 formed made, tt)
  witnessed_formed a h s e row = absurd (no_goals goals _ row)

pub specialize_forms : KeepsForms SpecializeRow
specialize_forms defs specs goal args goals formed given row =
    let p = found _ (no_such args) (λ h a. a ≡ specialized goal args (said h)) goals
    (passed (is_pending goal) intros_first (OfHypothesis goal args (λ h a. a ≡ specialized goal args (said h))) goals row) in
    let fit = hypothesis_formed defs specs (scope_of (context_of goal)) (context_of goal).hypotheses (number_of args.target) p.0 p.1 (context_formed defs specs goal formed).hypotheses in
    specialized_formed defs specs goal formed args given.terms goals p.0 fit (said p.0) refl p.2

pub exists_forms : KeepsForms ExistsRow
exists_forms defs specs (g.Run run) args goals formed given row = absurd (no_goals goals _ row)
exists_forms defs specs (g.Entail entail) args goals formed given row = absurd (no_goals goals _ row)
exists_forms defs specs (g.Pure pure) args goals formed given row = witnessed_formed defs specs (g.Pure pure) formed args given.terms goals pure.target formed.target (said pure.target) refl row

-- ---- intro

module _ (defs : Defs) (specs : SpecTable) (pure : Pure) (formed : IsWellFormed defs specs (g.Pure pure)) (goals : List Goal) where
  named_formed : (x y : List ℕ) (s : Sort) (body : PlainFormula) (b : Bool) → has_name x pure.context.variables ≡ b → FormulaFits defs specs ((y, s) ∷ scope_of pure.context) body →
      Ok goals ≡ cond b (Err (taken x)) (goal_by (with_variable pure.context x s) (formula_with ((y, variable x s) ∷ []) body)) → AreWellFormed defs specs goals
  named_formed x y s body true new h e = absurd (no_goals goals _ e)
  named_formed x y s body false new h e =
      let m = goal_made (with_variable pure.context x s) (formula_with ((y, variable x s) ∷ []) body) goals e in
      let made = new_instance defs specs pure.context x y s body m.0 new h m.1 in
      let is : IsWellFormed defs specs (with_variable pure.context x s m.0) = record {
        context = extended_formed defs pure.context (record { name = x; sort = s }) new specs (g.Pure pure) (with_variable pure.context x s m.0) formed.context;
        target = made;
      } in
      subst (AreWellFormed defs specs) (sym m.2) (is, tt)

  introduced_formed : (names : List (List ℕ)) (s : Saying) → said pure.target ≡ s → Ok goals ≡ introduced pure.context names s → AreWellFormed defs specs goals
  introduced_formed [] (Implication a b) e row =
      let k : PartsFormed defs specs (scope_of pure.context) (Implication a b) = subst (PartsFormed defs specs (scope_of pure.context)) e (parts_formed defs specs (scope_of pure.context) pure.target formed.target) in
      let is : IsWellFormed defs specs (supposing pure.context a b) = record {
        context = enriched_formed defs specs (g.Pure pure) (supposing pure.context a b) pure.context (a ∷ []) formed.context (k.0, tt);
        target = k.1;
      } in
      subst (AreWellFormed defs specs) (sym (goals_are goals _ row)) (is, tt)
  introduced_formed [] s e row = absurd (no_goals goals _ row)
  introduced_formed (x ∷ []) (ForAll y s body) e row =
      named_formed x y s body (has_name x pure.context.variables) refl (below_all defs specs (scope_of pure.context) y s body pure.target e formed.target) row
  introduced_formed (x ∷ []) s e row = absurd (no_goals goals _ row)
  introduced_formed (x ∷ y ∷ names) s e row = absurd (no_goals goals _ row)

pub intro_forms : KeepsForms IntroRow
intro_forms defs specs (g.Run run) args goals formed given row = absurd (no_goals goals _ row)
intro_forms defs specs (g.Entail entail) args goals formed given row = absurd (no_goals goals _ row)
intro_forms defs specs (g.Pure pure) args goals formed given row = introduced_formed defs specs pure formed goals args.names (said pure.target) refl row

-- ---- cases of a hypothesis

module _ (defs : Defs) (specs : SpecTable) (goal : Goal) (formed : IsWellFormed defs specs goal) (goals : List Goal) (refused : No) (a : PlainFormula) (fit : FormulaFits defs specs (scope_of (context_of goal)) a) where
  of_cases : (s : Saying) → said a ≡ s → Ok goals ≡ in_cases goal refused (cases_of s) → AreWellFormed defs specs goals
  of_cases (Both b c) e row =
      let k : PartsFormed defs specs (scope_of (context_of goal)) (Both b c) = subst (PartsFormed defs specs (scope_of (context_of goal))) e (parts_formed defs specs (scope_of (context_of goal)) a fit) in
      subst (AreWellFormed defs specs) (sym (goals_are goals _ row)) (with_more_formed defs specs goal (b ∷ c ∷ []) formed (k.0, (k.1, tt)), tt)
  of_cases (Either b c) e row =
      let k : PartsFormed defs specs (scope_of (context_of goal)) (Either b c) = subst (PartsFormed defs specs (scope_of (context_of goal))) e (parts_formed defs specs (scope_of (context_of goal)) a fit) in
      subst (AreWellFormed defs specs) (sym (goals_are goals _ row)) (with_more_formed defs specs goal (b ∷ []) formed (k.0, tt), (with_more_formed defs specs goal (c ∷ []) formed (k.1, tt), tt))
  of_cases Absurd e row = subst (AreWellFormed defs specs) (sym (goals_are goals _ row)) tt
  of_cases s e row = absurd (no_goals goals _ row)

  of_opened : (x : List ℕ) (s : Sort) (r : Result PlainFormula No) → has_name x (context_of goal).variables ≡ false → ((made : PlainFormula) → r ≡ Ok made → FormulaFits defs specs (scope_of (extended (context_of goal) (one_binder x s))) made) →
      Ok goals ≡ opened goal (record { name = x; sort = s }) r → AreWellFormed defs specs goals
  of_opened x s (Err why) new k row = absurd (no_goals goals _ row)
  of_opened x s (Ok made) new k row = subst (AreWellFormed defs specs) (sym (goals_are goals _ row)) (opened_formed defs specs (record { name = x; sort = s }) (made ∷ []) goal new formed (k made refl, tt), tt)

  of_exists : (x y : List ℕ) (s : Sort) (body : PlainFormula) (b : Bool) → has_name x (context_of goal).variables ≡ b → FormulaFits defs specs ((y, s) ∷ scope_of (context_of goal)) body →
      Unless b (taken x) (λ answer. answer ≡ opened goal (record { name = x; sort = s }) (formula_with ((y, variable x s) ∷ []) body)) (Ok goals) → AreWellFormed defs specs goals
  of_exists x y s body true new h row = absurd (no_goals goals _ row)
  of_exists x y s body false new h row =
      of_opened x s (formula_with ((y, variable x s) ∷ []) body) new (λ made e. new_instance defs specs (context_of goal) x y s body made new h e) row

  by_names : (names : List (List ℕ)) (s : Saying) → said a ≡ s → OfCases goal refused s names (Ok goals) → AreWellFormed defs specs goals
  by_names [] s e row = of_cases s e row
  by_names (x ∷ []) (ThereIs y s body) e row =
      of_exists x y s body (has_name x (context_of goal).variables) refl (below_some defs specs (scope_of (context_of goal)) y s body a e fit) row
  by_names (x ∷ z ∷ names) (ThereIs y s body) e row = absurd (no_goals goals _ row)
  by_names (x ∷ names) s e row = absurd (no_goals goals _ row)

pub hypothesis_cases_forms : KeepsForms HypothesisCasesRow
hypothesis_cases_forms defs specs goal args goals formed given row =
    let p = found _ (no_such args) (λ h. OfCases goal (no_such args) (said h) args.names) goals
    (passed (is_pending goal) intros_first (HypothesisCases goal args) goals row) in
    let fit = hypothesis_formed defs specs (scope_of (context_of goal)) (context_of goal).hypotheses (number_of args.target) p.0 p.1 (context_formed defs specs goal formed).hypotheses in
    by_names defs specs goal formed goals (no_such args) p.0 fit args.names (said p.0) refl p.2
