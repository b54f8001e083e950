-- A goal is true where all its conjuncts are, and an equation of numbers where both inequalities are.
use Rattle.std.proofs.Common.{◌≡◌, Bool, true, false, List, [], ◌∷◌, ◌++◌, map, Some, None, Ok, ℤ, refl, sym, ap, subst, ◌∙◌, cond, arith}
use Rattle.std.specs.Prelude.{int_le}
use Rattle.std.proofs.lemmas.Int.{ints}
use Rattle.floyd_tree_sorts.specs.declared.connectives.FormulaHead.TheVariants as f
use Rattle.floyd_tree_sorts.specs.declared.sorts.Sort.{Z}
use Rattle.floyd_tree.specs.Formulas.{PlainFormula, Says, NoFormula, MoreFormulas}
use Rattle.floyd_tree.specs.Plain.{Plain}
use Rattle.floyd_tree.specs.WellSorted.{sort_of}
use Rattle.floyd_tree_values.specs.BuiltIns.{Env}
use Rattle.floyd_tree_values.specs.Data.{Number}
use Rattle.floyd_tree_values.specs.Means.{Defs, Means}
use Rattle.floyd_tree_values.specs.Rules.{Suits}
use Rattle.floyd_tree_values.proofs.OneValue.{one_value}
use Rattle.floyd_truth.specs.Truth.{Truth, AllTrue}
use Rattle.floyd_goal_trees.specs.declared.context.Context.{Context}
use Rattle.floyd_goal_trees.specs.declared.goal.Goal.{Goal}
use Rattle.floyd_goal.specs.Goals.{pure_goal}
use Rattle.floyd_goal_formulas.specs.Said.{Saying, Both, Equation, Inequality, said}
use Rattle.floyd_goal_formulas.proofs.Literals.{number_is}
use Rattle.floyd_goal_formulas.proofs.Sayings.{SaidTrue, said_truth, truth_said}
use Rattle.floyd_goal_truth.specs.Scopes.{scope_of}
use Rattle.floyd_pure_formulas.specs.Holds.{Specs}
use Rattle.floyd_pure_formulas.specs.Keeps.{AreTrueFrom, KeepsTruth}
use Rattle.floyd_pure_formulas.proofs.Going.{itself}
use Rattle.floyd_pure_formulas.specs.Instances.{is_sort}
use Rattle.floyd_pure_quantifiers.specs.Split.{SplitRow, at_most, conjuncts, goals_of, parts}
use Rattle.floyd_pure_formulas.proofs.Rowing.{goals_are, no_goals}

module _ (defs : Defs) (specs : Specs) where
  apart : (env : Env) (fs gs : List PlainFormula) → AllTrue defs specs env (fs ++ gs) → AllTrue defs specs env fs × AllTrue defs specs env gs
  apart env [] gs t = (tt, t)
  apart env (a ∷ fs) gs t = let p = apart env fs gs t.1 in ((t.0, p.0), p.1)

  conjuncts_true : (env : Env) (a : PlainFormula) → AllTrue defs specs env (conjuncts a) → Truth defs specs env a
  conjuncts_true env (Says f.And ts (MoreFormulas a (MoreFormulas b NoFormula))) t =
      let p = apart env (conjuncts a) (conjuncts b) t in
      (conjuncts_true env a p.0, conjuncts_true env b p.1)
  conjuncts_true env (Says f.And ts NoFormula) t = t.0
  conjuncts_true env (Says f.And ts (MoreFormulas a NoFormula)) t = t.0
  conjuncts_true env (Says f.And ts (MoreFormulas a (MoreFormulas b (MoreFormulas c fs)))) t = t.0
  conjuncts_true env (Says head ts fs) t = t.0

  goals_true : (context : Context) (fs : List PlainFormula) (env : Env) → Suits (scope_of context) env → AllTrue defs specs env context.hypotheses → AreTrueFrom defs specs context env (map (pure_goal context) fs) → AllTrue defs specs env fs
  goals_true context [] env suits hyps t = tt
  goals_true context (a ∷ fs) env suits hyps t = (t.0 env suits hyps (itself context env), goals_true context fs env suits hyps t.1)

  both_ways : (m n : ℤ) → int_le m n ≡ true → int_le n m ≡ true → m ≡ n
  both_ways m n h g = grind (arith, ints)

  equal_numbers : (env : Env) (a b : Plain) → Truth defs specs env (at_most a b) → Truth defs specs env (at_most b a) → SaidTrue defs specs env ⊥ (Equation a b)
  equal_numbers env a b p q =
      let s : SaidTrue defs specs env (Unit {0}) (Inequality a b) = truth_said defs specs env (at_most a b) p in
      let r : SaidTrue defs specs env (Unit {0}) (Inequality b a) = truth_said defs specs env (at_most b a) q in
      let m : s.0 ≡ r.1 = number_is s.0 r.1 (one_value defs s.2 (Number r.1) r.3) in
      let n : s.1 ≡ r.0 = number_is s.1 r.0 (one_value defs s.3 (Number r.0) r.2) in
      let less : int_le s.1 s.0 ≡ true = ap (λ x. int_le x s.0) n ∙ ap (int_le r.0) m ∙ r.4 in
      let same : s.1 ≡ s.0 = both_ways s.1 s.0 less s.4 in
      (Number s.0, s.2, subst (λ x. Means defs env b (Number x)) same s.3)

-- what `split` was tried on
data Parted (context : Context) (target : PlainFormula) (goals : List Goal) : Type 0 where
  conjoined : goals ≡ map (pure_goal context) (conjuncts target) → Parted context target goals
  equated : (a b : Plain) → said target ≡ Equation a b → goals ≡ map (pure_goal context) (at_most a b ∷ at_most b a ∷ []) → Parted context target goals

parted_by : (context : Context) (target : PlainFormula) (goals : List Goal) (s : Saying) → said target ≡ s → Ok goals ≡ goals_of context (parts target s) → Parted context target goals
parted_by context target goals (Both a b) e row = conjoined (goals_are goals _ row)
parted_by context target goals (Equation a b) e row = by (is_sort Z (sort_of a)) row
  where
    by : (c : Bool) → Ok goals ≡ goals_of context (cond c (Some (at_most a b ∷ at_most b a ∷ [])) None) → Parted context target goals
    by true row = equated a b e (goals_are goals _ row)
    by false row = absurd (no_goals goals _ row)
parted_by context target goals s e row = absurd (no_goals goals _ row)

pub split_true : KeepsTruth SplitRow
split_true defs specs pure args goals keeps hyps_fit fit args_fit row env suits hyps proved = by (parted_by pure.context pure.target goals (said pure.target) refl row)
  where
    by : Parted pure.context pure.target goals → Truth defs specs env pure.target
    by (conjoined made) =
        conjuncts_true defs specs env pure.target
        (goals_true defs specs pure.context (conjuncts pure.target) env suits hyps (subst (AreTrueFrom defs specs pure.context env) made proved))
    by (equated a b e made) =
        let all = goals_true defs specs pure.context (at_most a b ∷ at_most b a ∷ []) env suits hyps (subst (AreTrueFrom defs specs pure.context env) made proved) in
        said_truth defs specs (scope_of pure.context) env keeps suits pure.target fit
        (subst (SaidTrue defs specs env ⊥) (sym e) (equal_numbers defs specs env a b all.0 all.1.0))
