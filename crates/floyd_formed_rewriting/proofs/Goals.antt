-- A goal of any kind is well formed as what it is rewritten to.
use Rattle.std.proofs.Common.{Some, ◌≡◌, inl, inr, ℕ, ◌≤◌, Bool, true, false, ◌&&◌, cond, List, Ok, refl, sym, ap, subst, ◌∙◌, arith, leb-true, le-leb}
use Rattle.std.specs.Prelude.{nat_le}
use Rattle.floyd_tree_sorts.specs.declared.connectives.FormulaHead.TheVariants as f
use Rattle.floyd_tree_sorts.specs.declared.sorts.Sort.{Sort}
use Rattle.floyd_tree_sorts.proofs.SortLemmas.{both_true}
use Rattle.floyd_tree.specs.Formulas.{PlainFormula, Says, formula_height, formula_size}
use Rattle.floyd_tree.specs.Made.{fits}
use Rattle.floyd_tree.specs.MadeFormulas.{formula_fits}
use Rattle.floyd_tree.specs.Plain.{Plain, Done, More, height, size}
use Rattle.floyd_tree.specs.WellSorted.{sort_of}
use Rattle.floyd_tree_values.specs.Rules.{Scope}
use Rattle.floyd_assert_trees.specs.declared.assertion.Assertion.{Assertion}
use Rattle.floyd_assert_trees.specs.declared.items.Defs.{Defs}
use Rattle.floyd_assert_trees.specs.declared.spec.SpecTable.{SpecTable}
use Rattle.floyd_goal.specs.Goals.{intros_first, is_pending, number_of}
use Rattle.floyd_goal_forms.specs.Assertions.{AssertionFits}
use Rattle.floyd_goal_forms.specs.Goals.{IsWellFormed}
use Rattle.floyd_goal_forms.specs.Terms.{FormulaFits, TermFits}
use Rattle.floyd_goal_formulas.specs.Said.{Saying, Equation, said}
use Rattle.floyd_goal_trees.specs.Contexts.{context_of, scope_of}
use Rattle.floyd_goal_trees.specs.declared.args.Args.{Args}
use Rattle.floyd_goal_trees.specs.declared.goal.Goal.{Goal}
use Rattle.floyd_goal_trees.specs.declared.goal.Goal.TheVariants as g
use Rattle.floyd_pure_formulas.specs.Rows.{OfHypothesis, no_such}
use Rattle.floyd_pure_formulas.proofs.Rowing.{found, no_goals, passed}
use Rattle.floyd_pure_formulas.proofs.Shapes.{equation}
use Rattle.floyd_pure_rewriting.specs.Rewrite.{RewriteRow, Rewrites, by_equation, by_sides}
use Rattle.floyd_pure_rewriting.proofs.PartsChanged.{Becomes, entail_made, pure_made, run_made}
use Rattle.floyd_rewriting.specs.Rewritten.{assertion_rewritten, formula_rewritten}
use Rattle.floyd_rewriting_soundness.specs.Small.{IsSmall, IsSmallGoal}
use Rattle.floyd_formed_pure.specs.Rows.{AreWellFormed}
use Rattle.floyd_formed_pure.proofs.Contexts.{context_formed, hypothesis_formed}
use Rattle.floyd_formed_destruct.specs.Rows.{KeepsFormsOfSmall}
use Rattle.floyd_formed_equations.proofs.Equations.{Sides, sides_formed}
use Rattle.floyd_formed_simplifying.proofs.Behind.{entail_formed, pure_formed, run_formed}
use Rattle.floyd_formed_rewriting.proofs.Filled.{formula_formed, rewritten_formed}

-- ---- the limits of both sides

limits : (m n : ℕ) → (nat_le m 65536 && nat_le n 256) ≡ true → (m ≤ 65536) × (n ≤ 256)
limits m n h =
    let p = both_true (nat_le m 65536) (nat_le n 256) h in
    (leb-true m 65536 p.0, leb-true n 256 p.1)

in_limits : (m n : ℕ) → m ≤ 65536 → n ≤ 256 → (nat_le m 65536 && nat_le n 256) ≡ true
in_limits m n a b = ap (λ c. c && nat_le n 256) (le-leb m 65536 a) ∙ le-leb n 256 b

sides_small : (a b : Plain) (h : PlainFormula) → formula_fits h ≡ true → said h ≡ Equation a b → (fits a ≡ true) × (fits b ≡ true)
sides_small a b h w e =
    let i = equation a b h e in
    let l = limits (formula_size (Says f.Equal (More a (More b Done)) i.kids)) (formula_height (Says f.Equal (More a (More b Done)) i.kids)) (subst (λ x. formula_fits x ≡ true) i.is w) in
    (in_limits (size a) (height a) (omega (arith, l.0)) (omega (arith, l.1)), in_limits (size b) (height b) (omega (arith, l.0)) (omega (arith, l.1)))

-- ---- by which term

module _ (defs : Defs) (specs : SpecTable) (scope : Scope) (from to : Plain) (s : Sort) (sorted : sort_of from ≡ Some s) (put : TermFits defs scope s to) (small : fits from ≡ true) (to_small : fits to ≡ true) where
  becomes_formed : (a b : Assertion) → IsSmall a → AssertionFits defs specs scope a → Becomes a (assertion_rewritten from to a) b → AssertionFits defs specs scope b
  becomes_formed a b few h (inl e) = rewritten_formed defs specs scope from to s sorted put small to_small a b few h e
  becomes_formed a b few h (inr e) = subst (AssertionFits defs specs scope) (sym e) h

by_sides_formed : (defs : Defs) (specs : SpecTable) (goal : Goal) (from to : Plain) (s : Sort) (goals : List Goal) → sort_of from ≡ Some s → TermFits defs (scope_of (context_of goal)) s to → fits from ≡ true → fits to ≡ true → IsWellFormed defs specs goal → IsSmallGoal goal →
    Ok goals ≡ by_sides from to goal → AreWellFormed defs specs goals
by_sides_formed defs specs (g.Run run) from to s goals sorted put small to_small formed few row =
    let m = run_made run (assertion_rewritten from to run.source) goals row in
    subst (AreWellFormed defs specs) (sym m.goals_are)
    (run_formed defs specs run m.source formed (rewritten_formed defs specs (scope_of run.context) from to s sorted put small to_small run.source m.source few.0 formed.source m.is), tt)
by_sides_formed defs specs (g.Entail entail) from to s goals sorted put small to_small formed few row =
    let scope = scope_of entail.context in
    let m = entail_made entail (assertion_rewritten from to entail.source) (assertion_rewritten from to entail.target) goals row in
    subst (AreWellFormed defs specs) (sym m.goals_are) (
      entail_formed defs specs entail m.source m.target formed
          (becomes_formed defs specs scope from to s sorted put small to_small entail.source m.source few.0 formed.source m.source_is)
          (becomes_formed defs specs scope from to s sorted put small to_small entail.target m.target few.1 formed.target m.target_is),
      tt,
    )
by_sides_formed defs specs (g.Pure pure) from to s goals sorted put small to_small formed few row =
    let m = pure_made pure (formula_rewritten from to pure.target) goals row in
    subst (AreWellFormed defs specs) (sym m.goals_are)
    (pure_formed defs specs pure m.target formed (formula_formed defs specs (scope_of pure.context) from to s sorted put small to_small pure.target m.target formed.target m.is), tt)

module _ (defs : Defs) (specs : SpecTable) (goal : Goal) (args : Args) (goals : List Goal) (formed : IsWellFormed defs specs goal) (few : IsSmallGoal goal) where
  abbrev scope : Scope
  scope = scope_of (context_of goal)

  in_order : (a b : Plain) → Sides defs specs scope a b → (fits a ≡ true) × (fits b ≡ true) → (back : Bool) → Ok goals ≡ cond back (by_sides b a goal) (by_sides a b goal) → AreWellFormed defs specs goals
  in_order a b s small true row =
      by_sides_formed defs specs goal b a s.sort goals s.right_sorted (record { fits = record { sorted = s.left_sorted; allowed = s.left.0 }; known = s.left.1 }) small.1 small.0 formed few row
  in_order a b s small false row =
      by_sides_formed defs specs goal a b s.sort goals s.left_sorted (record { fits = record { sorted = s.right_sorted; allowed = s.right.0 }; known = s.right.1 }) small.0 small.1 formed few row

  by_hypothesis : (h : PlainFormula) → FormulaFits defs specs scope h → formula_fits h ≡ true → (s : Saying) → said h ≡ s → Ok goals ≡ by_equation goal args s → AreWellFormed defs specs goals
  by_hypothesis h fit small (Equation a b) e row = in_order a b (sides_formed defs specs scope h a b e fit) (sides_small a b h small e) args.back row
  by_hypothesis h fit small s e row = absurd (no_goals goals _ row)

pub rewrite_forms : KeepsFormsOfSmall RewriteRow
rewrite_forms defs specs goal args goals formed few given row =
    let hs = (context_of goal).hypotheses in
    let p = found _ (no_such args) (Rewrites goal args) goals (passed (is_pending goal) intros_first (OfHypothesis goal args (Rewrites goal args)) goals row) in
    let fit = hypothesis_formed defs specs (scope_of (context_of goal)) hs (number_of args.target) p.0 p.1 (context_formed defs specs goal formed).hypotheses in
    by_hypothesis defs specs goal args goals formed few p.0 fit p.2.0 (said p.0) refl p.2.1
