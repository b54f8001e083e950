-- A goal is true where the rewritten one is.
use Rattle.std.proofs.Common.{◌≡◌, ℕ, ◌≤◌, Bool, true, false, ◌&&◌, cond, List, [], ◌∷◌, length, Some, Ok, refl, sym, ap, subst, ◌∙◌, arith, leb-true, le-leb}
use Rattle.std.specs.Prelude.{nat_eq, nat_le}
use Rattle.floyd_tree_sorts.specs.declared.connectives.FormulaHead.TheVariants as f
use Rattle.floyd_tree_sorts.specs.declared.sorts.Sort.{Sort}
use Rattle.floyd_tree_sorts.specs.Rows.{takes}
use Rattle.floyd_tree_sorts.specs.Sorts.{same_sort}
use Rattle.floyd_tree_sorts.proofs.SortLemmas.{both_true, same_sort_true}
use Rattle.floyd_tree.specs.Formulas.{PlainFormula, PlainFormulas, Says, formula_height, formula_size, listed_formulas, well_sorted}
use Rattle.floyd_tree.specs.Made.{fits}
use Rattle.floyd_tree.specs.MadeFormulas.{formula_fits}
use Rattle.floyd_tree.specs.Plain.{Plain, Done, More, height, size}
use Rattle.floyd_tree.specs.WellSorted.{sort_of, sorts_of}
use Rattle.floyd_tree_values.specs.BuiltIns.{Env}
use Rattle.floyd_tree_values.specs.Data.{Datum}
use Rattle.floyd_tree_values.specs.Means.{Defs, Means}
use Rattle.floyd_truth.specs.Truth.{AllTrue}
use Rattle.floyd_goal_formulas.specs.Said.{Saying, Equation, said}
use Rattle.floyd_goal_formulas.proofs.Sayings.{SaidTrue, truth_said}
use Rattle.floyd_goal_formulas.proofs.Values.{first_some, sorted}
use Rattle.floyd_goal_trees.specs.declared.args.Args.{Args}
use Rattle.floyd_goal_trees.specs.declared.goal.Goal.{Goal}
use Rattle.floyd_goal_trees.specs.declared.goal.Goal.TheVariants as g
use Rattle.floyd_goal.specs.Goals.{intros_first, is_pending, number_of}
use Rattle.floyd_goal.specs.Sides.{context_of}
use Rattle.floyd_goal_truth.specs.Scopes.{AllFit, scope_of}
use Rattle.floyd_goal_truth.proofs.Uses.{hypothesis_fits, hypothesis_true}
use Rattle.floyd_pure_formulas.specs.Holds.{Specs}
use Rattle.floyd_pure_formulas.specs.Keeps.{AreTrueFrom, KeepsTruth}
use Rattle.floyd_pure_formulas.specs.Rows.{OfHypothesis, no_such}
use Rattle.floyd_pure_formulas.proofs.Going.{itself}
use Rattle.floyd_pure_formulas.proofs.Rowing.{found, no_goals, passed}
use Rattle.floyd_pure_formulas.proofs.Shapes.{equation}
use Rattle.floyd_rewriting.specs.Rewritten.{formula_rewritten}
use Rattle.floyd_pure_rewriting.specs.Rewrite.{RewriteRow, Rewrites, by_equation, by_sides}
use Rattle.floyd_pure_rewriting.proofs.PartsChanged.{pure_behind, pure_made}
use Rattle.floyd_pure_rewriting.proofs.Keeping.{rewriting_true}

-- both sides of an equation that is well sorted and within the limits
pub record Sides (a b : Plain) : Type 0 where
  pub sort : Sort
  pub left : sort_of a ≡ Some sort
  pub right : sort_of b ≡ Some sort

sides_of : (a b : Plain) (kids : PlainFormulas) → well_sorted (Says f.Equal (More a (More b Done)) kids) ≡ true → Sides a b
sides_of a b kids w =
    let s = sorted f.Equal (More a (More b Done)) kids w in
    let p = first_some (sort_of a) (sorts_of (More b Done)) s.sorts s.are in
    let q = first_some (sort_of b) (sorts_of Done) p.1 p.3 in
    let none : q.1 ≡ [] = cc (q.3) in
    let are : s.sorts ≡ p.0 ∷ q.0 ∷ [] = p.4 ∙ ap (λ x. p.0 ∷ x) (q.4 ∙ ap (λ x. q.0 ∷ x) none) in
    let h : takes f.Equal (p.0 ∷ q.0 ∷ []) (length (listed_formulas kids)) ≡ true = subst (λ x. takes f.Equal x (length (listed_formulas kids)) ≡ true) are s.taken in
    let same = same_sort_true p.0 q.0 (both_true (nat_eq (length (listed_formulas kids)) 0) (same_sort p.0 q.0) h).1 in
    record { sort = q.0; left = p.2 ∙ ap (λ x. Some x) same; right = q.2 }

pub equation_sides : (a b : Plain) (h : PlainFormula) → well_sorted h ≡ true → said h ≡ Equation a b → Sides a b
equation_sides a b h w e =
    let i = equation a b h e in
    sides_of a b i.kids (subst (λ x. well_sorted x ≡ true) i.is w)

pub same_sorts : (a b : Plain) (h : PlainFormula) → well_sorted h ≡ true → said h ≡ Equation a b → sort_of a ≡ sort_of b
same_sorts a b h w e = let s = equation_sides a b h w e in s.left ∙ sym s.right

pub same_sorts_back : (a b : Plain) (h : PlainFormula) → well_sorted h ≡ true → said h ≡ Equation a b → sort_of b ≡ sort_of a
same_sorts_back a b h w e = sym (same_sorts a b h w e)

limits : (m n : ℕ) → (nat_le m 65536 && nat_le n 256) ≡ true → (m ≤ 65536) × (n ≤ 256)
limits m n h =
    let p = both_true (nat_le m 65536) (nat_le n 256) h in
    (leb-true m 65536 p.0, leb-true n 256 p.1)

in_limits : (m n : ℕ) → m ≤ 65536 → n ≤ 256 → (nat_le m 65536 && nat_le n 256) ≡ true
in_limits m n a b = ap (λ c. c && nat_le n 256) (le-leb m 65536 a) ∙ le-leb n 256 b

sides_fit : (a b : Plain) (h : PlainFormula) → formula_fits h ≡ true → said h ≡ Equation a b → (fits a ≡ true) × (fits b ≡ true)
sides_fit a b h w e =
    let i = equation a b h e in
    let l = limits (formula_size (Says f.Equal (More a (More b Done)) i.kids)) (formula_height (Says f.Equal (More a (More b Done)) i.kids)) (subst (λ x. formula_fits x ≡ true) i.is w) in
    (in_limits (size a) (height a) (omega (arith, l.0)) (omega (arith, l.1)), in_limits (size b) (height b) (omega (arith, l.0)) (omega (arith, l.1)))

pub row_fits : (h : PlainFormula) (n k : ℕ) → n ≡ formula_size h → k ≡ formula_height h → n ≤ 65536 → k ≤ 256 → formula_fits h ≡ true
row_fits h n k a b c d = in_limits (formula_size h) (formula_height h) (omega (arith, a, c)) (omega (arith, b, d))

-- by which terms a row that gives goals has rewritten, in the order of the command
pub record Gone (defs : Defs) (goal : Goal) (goals : List Goal) : Type 0 where
  pub from : Plain
  pub to : Plain
  pub row : Ok goals ≡ by_sides from to goal
  pub sort : Sort
  pub from_sorted : sort_of from ≡ Some sort
  pub to_sorted : sort_of to ≡ Some sort
  pub from_small : fits from ≡ true
  pub to_small : fits to ≡ true
  pub values : (specs : Specs) (env : Env) → AllTrue defs specs env (context_of goal).hypotheses → (d : Datum) × Means defs env from d × Means defs env to d

module _ (defs : Defs) (goal : Goal) (goals : List Goal) (a b : Plain) (s : Sides a b) (small : (fits a ≡ true) × (fits b ≡ true)) (values : (specs : Specs) (env : Env) → AllTrue defs specs env (context_of goal).hypotheses → (d : Datum) × Means defs env a d × Means defs env b d) where
  order_by : (back : Bool) → Ok goals ≡ cond back (by_sides b a goal) (by_sides a b goal) → Gone defs goal goals
  order_by true row = record {
    from = b;
    to = a;
    row = row;
    sort = s.sort;
    from_sorted = s.right;
    to_sorted = s.left;
    from_small = small.1;
    to_small = small.0;
    values = λ specs env hyps. let v = values specs env hyps in (v.0, v.2, v.1);
  }
  order_by false row = record {
    from = a;
    to = b;
    row = row;
    sort = s.sort;
    from_sorted = s.left;
    to_sorted = s.right;
    from_small = small.0;
    to_small = small.1;
    values = values;
  }

record IsEquated (goal : Goal) (args : Args) (goals : List Goal) (h : PlainFormula) : Type 0 where
  pub left : Plain
  pub right : Plain
  pub says : said h ≡ Equation left right
  pub row : Ok goals ≡ cond args.back (by_sides right left goal) (by_sides left right goal)

equated : (goal : Goal) (args : Args) (goals : List Goal) (h : PlainFormula) (s : Saying) → said h ≡ s → Ok goals ≡ by_equation goal args s → IsEquated goal args goals h
equated goal args goals h (Equation a b) e row = record { left = a; right = b; says = e; row = row }
equated goal args goals h s e row = absurd (no_goals goals _ row)

pub gone : (defs : Defs) (goal : Goal) (args : Args) (goals : List Goal) → AllFit defs (context_of goal) (context_of goal).hypotheses → RewriteRow goal args (Ok goals) → Gone defs goal goals
gone defs goal args goals hyps_fit row =
    let hs = (context_of goal).hypotheses in
    let n = number_of args.target in
    let p = found _ (no_such args) (Rewrites goal args) goals (passed (is_pending goal) intros_first (OfHypothesis goal args (Rewrites goal args)) goals row) in
    let fit = hypothesis_fits defs (scope_of (context_of goal)) hs n p.0 p.1 hyps_fit in
    let q = equated goal args goals p.0 (said p.0) refl p.2.1 in
    order_by defs goal goals q.left q.right (equation_sides q.left q.right p.0 fit.sorted q.says) (sides_fit q.left q.right p.0 p.2.0 q.says)
    (λ specs env hyps. subst (SaidTrue defs specs env (Unit {0})) q.says (truth_said defs specs env p.0 (hypothesis_true defs specs env hs n p.0 p.1 hyps)))
    args.back q.row

pub rewrite_true : KeepsTruth RewriteRow
rewrite_true defs specs pure args goals keeps hyps_fit fit args_fit row env suits hyps proved =
    let o = gone defs (g.Pure pure) args goals hyps_fit row in
    let m = pure_made pure (formula_rewritten o.from o.to pure.target) goals o.row in
    let one : AreTrueFrom defs specs pure.context env (pure_behind pure m.target ∷ []) = subst (AreTrueFrom defs specs pure.context env) m.goals_are proved in
    let v = o.values specs env hyps in
    (rewriting_true defs specs env o.from o.to o.sort v.0 pure.target m.target o.from_sorted o.to_sorted o.from_small o.to_small v.1 v.2 fit.sorted m.is).0 (one.0 env suits hyps (itself pure.context env))
