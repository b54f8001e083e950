-- The cases of a hypothesis are all, and a goal is true where it is in each of them.
use Rattle.std.proofs.Common.{◌≡◌, ◌⊎◌, inl, inr, ⊎_elim, ℕ, Bool, true, false, cond, List, [], ◌∷◌, map, Option, Some, None, Result, Ok, Err, refl, ap, subst, ◌∙◌}
use Rattle.floyd_text.specs.declared.code.Code.TheVariants as c
use Rattle.floyd_text.specs.declared.refusal.No.{No}
use Rattle.floyd_tree_sorts.specs.declared.connectives.FormulaHead.TheVariants as f
use Rattle.floyd_tree_sorts.specs.declared.sorts.Sort.{Sort}
use Rattle.floyd_tree_sorts.proofs.SortLemmas.{same_sort_self}
use Rattle.floyd_tree.specs.Formulas.{PlainFormula, Says, NoFormula, MoreFormulas, listed_formulas}
use Rattle.floyd_tree.specs.Plain.{listed}
use Rattle.floyd_tree_values.specs.BuiltIns.{Env}
use Rattle.floyd_tree_values.specs.Means.{Defs}
use Rattle.floyd_tree_values.specs.Rules.{Suits}
use Rattle.floyd_truth.specs.Truth.{Truth, AllTrue, with_datum}
use Rattle.floyd_truth.proofs.OneTruth.{put}
use Rattle.floyd_assert_trees.specs.declared.binder.Binder.{Binder}
use Rattle.floyd_assert_changes.specs.Changed.{has_name}
use Rattle.floyd_assert_changes.specs.Substituted.{formula_with}
use Rattle.floyd_goal_trees.specs.declared.goal.Goal.{Goal}
use Rattle.floyd_goal_trees.specs.declared.goal.Goal.TheVariants as g
use Rattle.floyd_goal_trees.specs.declared.goal.Pure.{Pure}
use Rattle.floyd_goal.specs.Goals.{number_of, refusal}
use Rattle.floyd_goal.specs.Sides.{context_of}
use Rattle.floyd_goal_formulas.specs.Fits.{Fits}
use Rattle.floyd_goal_formulas.specs.Said.{Saying, Equation, Inequality, Pointer, NotUndefined, OfType, Absurd, Implication, Either, Both, ForAll, ThereIs, said, of_pair, of_one, pair_of, one_of, last_of}
use Rattle.floyd_goal_formulas.proofs.Sayings.{SaidTrue, truth_said}
use Rattle.floyd_goal_truth.specs.Scopes.{AllFit, scope_of}
use Rattle.floyd_goal_truth.specs.Truths.{Under}
use Rattle.floyd_goal_truth.proofs.Uses.{all_true, hypothesis_fits, hypothesis_true}
use Rattle.floyd_pure_formulas.specs.Holds.{Specs}
use Rattle.floyd_pure_formulas.specs.HypothesisCases.{Case, Known, Opened, OfCases, OfExists, cases_of, in_case, in_cases, opened}
use Rattle.floyd_pure_formulas.specs.Instances.{instance_at}
use Rattle.floyd_pure_formulas.specs.Keeps.{AreTrueFrom}
use Rattle.floyd_pure_formulas.specs.Naming.{taken, variable}
use Rattle.floyd_pure_formulas.specs.Rows.{Unless, no_such}
use Rattle.floyd_pure_formulas.specs.Splits.{AllNew, HypothesisSplits, SomeIsSo, Splits}
use Rattle.floyd_pure_formulas.proofs.Going.{itself}
use Rattle.floyd_pure_formulas.proofs.NewVariables.{all_like, goes_on, like_new, means_new, suits_new}
use Rattle.floyd_pure_formulas.proofs.Likes.{like_back, like_below, truth_like}
use Rattle.floyd_pure_formulas.proofs.Rowing.{found, goals_are, no_goals}
use Rattle.floyd_pure_formulas.proofs.Shapes.{there_is, there_is_fits}
use Rattle.floyd_pure_formulas.proofs.Substituting.{instance_true, instantiated}

no_pair : {T : Type 0} (says : T → T → Saying) (o : Option (T × T)) → ((a b : T) → says a b ≡ Absurd → ⊥) → of_pair says o ≡ Absurd → ⊥
no_pair says None h e = cc
no_pair says (Some p) h e = h p.0 p.1 e

no_one : {T : Type 0} (says : T → Saying) (o : Option T) → ((a : T) → says a ≡ Absurd → ⊥) → of_one says o ≡ Absurd → ⊥
no_one says None h e = cc
no_one says (Some a) h e = h a e

module _ (defs : Defs) (specs : Specs) (env : Env) where
  -- what says False is not true
  absurd_said : (a : PlainFormula) → said a ≡ Absurd → Truth defs specs env a → ⊥
  absurd_said (Says f.False ts fs) e t = t
  absurd_said (Says f.True ts fs) e t = cc
  absurd_said (Says f.Implies ts fs) e t = no_pair Implication (pair_of (listed_formulas fs)) (λ a b i. cc) e
  absurd_said (Says f.Or ts fs) e t = no_pair Either (pair_of (listed_formulas fs)) (λ a b i. cc) e
  absurd_said (Says f.And ts fs) e t = no_pair Both (pair_of (listed_formulas fs)) (λ a b i. cc) e
  absurd_said (Says (f.Forall x s) ts fs) e t = no_one (ForAll x s) (one_of (listed_formulas fs)) (λ a i. cc) e
  absurd_said (Says (f.Exists x s) ts fs) e t = no_one (ThereIs x s) (one_of (listed_formulas fs)) (λ a i. cc) e
  absurd_said (Says f.Equal ts fs) e t = no_pair Equation (pair_of (listed ts)) (λ a b i. cc) e
  absurd_said (Says f.AtMost ts fs) e t = no_pair Inequality (pair_of (listed ts)) (λ a b i. cc) e
  absurd_said (Says f.IsPtr ts fs) e t = no_one Pointer (one_of (listed ts)) (λ a i. cc) e
  absurd_said (Says f.Defined ts fs) e t = no_one NotUndefined (one_of (listed ts)) (λ a i. cc) e
  absurd_said (Says (f.Hasty shape) ts fs) e t = no_one (OfType shape) (last_of (listed ts)) (λ a i. cc) e
  absurd_said (Says (f.Compatible shape path) ts fs) e t = cc
  absurd_said (Says (f.FuncPtr name) ts fs) e t = cc

  -- some case of a hypothesis that is true is so
  some_case : (h : PlainFormula) (s : Saying) (cases : List Case) → said h ≡ s → cases_of s ≡ Some cases → Truth defs specs env h → SomeIsSo defs specs env cases
  some_case h (Both a b) cases e c t =
      let is : Known (a ∷ b ∷ []) ∷ [] ≡ cases = cc in
      let p : SaidTrue defs specs env (Unit {0}) (Both a b) = subst (SaidTrue defs specs env (Unit {0})) e (truth_said defs specs env h t) in
      subst (SomeIsSo defs specs env) is (inl (p.0, (p.1, tt)))
  some_case h (Either a b) cases e c t =
      let is : Known (a ∷ []) ∷ Known (b ∷ []) ∷ [] ≡ cases = cc in
      let p : SaidTrue defs specs env (Unit {0}) (Either a b) = subst (SaidTrue defs specs env (Unit {0})) e (truth_said defs specs env h t) in
      subst (SomeIsSo defs specs env) is (⊎_elim (λ q. inl (q, tt)) (λ q. inr (inl (q, tt))) p)
  some_case h Absurd cases e c t = absurd (absurd_said h e t)
  some_case h s cases e c t = absurd cc

known_new : (goal : Goal) (s : Saying) (cases : List Case) → cases_of s ≡ Some cases → AllNew goal cases
known_new goal (Both a b) cases c = let is : Known (a ∷ b ∷ []) ∷ [] ≡ cases = cc in subst (AllNew goal) is tt
known_new goal (Either a b) cases c = let is : Known (a ∷ []) ∷ Known (b ∷ []) ∷ [] ≡ cases = cc in subst (AllNew goal) is tt
known_new goal Absurd cases c = let is : [] ≡ cases = cc in subst (AllNew goal) is tt
known_new goal s cases c = absurd cc

module _ (defs : Defs) (specs : Specs) (goal : Goal) (goals : List Goal) (h : PlainFormula) (fit : Fits defs (scope_of (context_of goal)) h) (there : Under defs specs (context_of goal) (λ env. Truth defs specs env h)) (hyps_fit : AllFit defs (context_of goal) (context_of goal).hypotheses) where
  split_known : (refusal : No) (o : Option (List Case)) → cases_of (said h) ≡ o → Ok goals ≡ in_cases goal refusal o → Splits defs specs goal goals
  split_known refusal None c e = absurd (no_goals goals refusal e)
  split_known refusal (Some cases) c e = record {
    cases = cases;
    made = goals_are goals (map (in_case goal) cases) e;
    new = known_new goal (said h) cases c;
    hold = λ env suits hyps. some_case defs specs env h (said h) cases refl c (there env suits hyps);
  }

  -- for an `exists` the variable has the datum that there is
  split_opened : (y x : List ℕ) (s : Sort) (body : PlainFormula) → said h ≡ ThereIs y s body → has_name x (context_of goal).variables ≡ false → (made : Result PlainFormula No) → formula_with ((y, variable x s) ∷ []) body ≡ made → Ok goals ≡ opened goal (record { name = x; sort = s }) made → Splits defs specs goal goals
  split_opened y x s body e free (Err refusal) m row = absurd (no_goals goals refusal row)
  split_opened y x s body e free (Ok made) m row =
      let context = context_of goal in
      let scope = scope_of context in
      let b : Binder = record { name = x; sort = s } in
      let is = there_is y s body h e in
      let below = there_is_fits defs scope y s body h is fit in
      let i : instance_at y s body (variable x s) ≡ Ok made = ap (λ b. cond b (formula_with ((y, variable x s) ∷ []) body) (Err (refusal c.IllSorted))) (same_sort_self s) ∙ m in
      let inst = instantiated y s body (variable x s) made i in
      record {
        cases = Opened b made ∷ [];
        made = goals_are goals (in_case goal (Opened b made) ∷ []) row;
        new = (free, tt);
        hold = λ env suits hyps.
            let some : Truth defs specs env (Says (f.Exists y s) is.terms (MoreFormulas body NoFormula)) = subst (Truth defs specs env) is.is (there env suits hyps) in
            let d = some.0 in
            let new = with_datum env x d in
            let like = like_new context env x s d free in
            let of_body = truth_like defs specs env ((y, s) ∷ scope) (put env.variables y d) (put (put env.variables x d) y d) (like_below scope env.variables (put env.variables x d) like y s d) body below.allowed some.2 in
            inl (d, some.1, (instance_true defs specs new scope y s body (variable x s) made d below inst refl (means_new defs env x s d)).1 of_body);
      }

  split_exists : (refusal : No) (names : List (List ℕ)) (s : Saying) → said h ≡ s → OfExists goal refusal names s (Ok goals) → Splits defs specs goal goals
  split_exists refusal [] (ThereIs y s body) e row = absurd (no_goals goals _ row)
  split_exists refusal (x ∷ []) (ThereIs y s body) e row = by (has_name x (context_of goal).variables) refl row
    where
      by : (c : Bool) → has_name x (context_of goal).variables ≡ c → Unless c (taken x) (λ given. given ≡ opened goal (record { name = x; sort = s }) (formula_with ((y, variable x s) ∷ []) body)) (Ok goals) → Splits defs specs goal goals
      by true i row = absurd (no_goals goals _ row)
      by false i row = split_opened y x s body e i (formula_with ((y, variable x s) ∷ []) body) refl row
  split_exists refusal (x ∷ z ∷ names) (ThereIs y s body) e row = absurd (no_goals goals _ row)
  split_exists refusal names s e row = absurd (no_goals goals refusal row)

  split_named : (refusal : No) (names : List (List ℕ)) → OfCases goal refusal (said h) names (Ok goals) → Splits defs specs goal goals
  split_named refusal [] row = split_known refusal (cases_of (said h)) refl row
  split_named refusal (x ∷ names) row = split_exists refusal (x ∷ names) (said h) refl row

pub hypothesis_splitting : HypothesisSplits
hypothesis_splitting defs specs goal args goals hyps_fit row =
    let hs = (context_of goal).hypotheses in
    let n = number_of args.target in
    let p = found _ (no_such args) (λ h. OfCases goal (no_such args) (said h) args.names) goals row in
    split_named defs specs goal goals p.0 (hypothesis_fits defs (scope_of (context_of goal)) hs n p.0 p.1 hyps_fit)
    (λ env suits hyps. hypothesis_true defs specs env hs n p.0 p.1 hyps)
    hyps_fit (no_such args) args.names p.2

module _ (defs : Defs) (specs : Specs) (pure : Pure) (hyps_fit : AllFit defs pure.context pure.context.hypotheses) (fit : Fits defs (scope_of pure.context) pure.target) (env : Env) (suits : Suits (scope_of pure.context) env) (hyps : AllTrue defs specs env pure.context.hypotheses) where
  in_case_true : (cases : List Case) → AllNew (g.Pure pure) cases → AreTrueFrom defs specs pure.context env (map (in_case (g.Pure pure)) cases) → SomeIsSo defs specs env cases → Truth defs specs env pure.target
  in_case_true [] new t s = absurd s
  in_case_true (Known fs ∷ cases) new t s =
      ⊎_elim (λ h. t.0 env suits (all_true defs specs env pure.context.hypotheses fs hyps h) (itself pure.context env)) (λ h. in_case_true cases new t.1 h) s
  in_case_true (Opened b a ∷ cases) new t s =
      ⊎_elim
      (λ h.
      let scope = scope_of pure.context in
      let next = with_datum env b.name h.0 in
      let like = like_new pure.context env b.name b.sort h.0 new.0 in
      let more = all_like defs specs scope env (put env.variables b.name h.0) like pure.context.hypotheses hyps_fit hyps in
      let there = t.0 next (suits_new pure.context env b.name b.sort h.0 new.0 suits h.1) (all_true defs specs next pure.context.hypotheses (a ∷ []) more (h.2, tt)) (goes_on pure.context env b.name b.sort h.0 new.0) in
      truth_like defs specs env scope (put env.variables b.name h.0) env.variables (like_back scope env.variables (put env.variables b.name h.0) like) pure.target fit.allowed there)
      (λ h. in_case_true cases new.1 t.1 h)
      s

pub split_true : (defs : Defs) (specs : Specs) (pure : Pure) (goals : List Goal) → AllFit defs pure.context pure.context.hypotheses → Fits defs (scope_of pure.context) pure.target → Splits defs specs (g.Pure pure) goals → Under defs specs pure.context (λ env. AreTrueFrom defs specs pure.context env goals → Truth defs specs env pure.target)
split_true defs specs pure goals hyps_fit fit s env suits hyps t =
    in_case_true defs specs pure hyps_fit fit env suits hyps s.cases s.new (subst (AreTrueFrom defs specs pure.context env) s.made t) (s.hold env suits hyps)
