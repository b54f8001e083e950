-- A goal is true where it is with its premise as a hypothesis, or with a variable more.
use Rattle.std.proofs.Common.{◌≡◌, ℕ, Bool, true, false, List, [], ◌∷◌, Ok, Err, refl, sym, ap, subst, ◌∙◌, cond}
use Rattle.floyd_text.specs.declared.code.Code.TheVariants as c
use Rattle.floyd_tree_sorts.specs.declared.connectives.FormulaHead.TheVariants as f
use Rattle.floyd_tree_sorts.specs.declared.sorts.Sort.{Sort}
use Rattle.floyd_tree_sorts.proofs.SortLemmas.{same_sort_self}
use Rattle.floyd_tree.specs.Formulas.{PlainFormula, Says, NoFormula, MoreFormulas}
use Rattle.floyd_tree_values.specs.BuiltIns.{Env}
use Rattle.floyd_tree_values.specs.Data.{Datum, HasSort}
use Rattle.floyd_tree_values.specs.Means.{Defs}
use Rattle.floyd_tree_values.specs.Rules.{Suits}
use Rattle.floyd_truth.specs.Truth.{Truth, AllTrue, with_datum}
use Rattle.floyd_truth.proofs.OneTruth.{put}
use Rattle.floyd_assert_changes.specs.Changed.{has_name}
use Rattle.floyd_assert_changes.specs.Substituted.{formula_with}
use Rattle.floyd_goal_trees.specs.declared.context.Context.{Context}
use Rattle.floyd_goal_trees.specs.declared.goal.Goal.{Goal}
use Rattle.floyd_goal.specs.Goals.{refusal}
use Rattle.floyd_goal_formulas.specs.Fits.{Fits}
use Rattle.floyd_goal_formulas.specs.Said.{Saying, Implication, ForAll, said}
use Rattle.floyd_goal_formulas.proofs.Sayings.{SaidTrue, said_truth}
use Rattle.floyd_goal_truth.specs.Scopes.{AllFit, scope_of}
use Rattle.floyd_goal_truth.proofs.Uses.{all_true}
use Rattle.floyd_pure_formulas.specs.Holds.{Specs}
use Rattle.floyd_pure_formulas.specs.Keeps.{AreTrueFrom, IsTrueFrom, KeepsTruth}
use Rattle.floyd_pure_formulas.proofs.Going.{itself}
use Rattle.floyd_pure_formulas.proofs.Rowing.{goals_are, no_goals}
use Rattle.floyd_pure_formulas.specs.Instances.{goal_by, instance_at}
use Rattle.floyd_pure_formulas.specs.Naming.{taken, variable}
use Rattle.floyd_pure_quantifiers.specs.Intro.{IntroRow, introduced, named, supposing, with_variable}
use Rattle.floyd_pure_quantifiers.proofs.Instancing.{goal_made}
use Rattle.floyd_pure_formulas.proofs.NewVariables.{all_like, goes_on, like_new, means_new, suits_new}
use Rattle.floyd_pure_formulas.proofs.Likes.{like_back, like_below, truth_like}
use Rattle.floyd_pure_formulas.proofs.Shapes.{for_all, for_all_fits}
use Rattle.floyd_pure_formulas.proofs.Substituting.{Instantiated, instance_true, instantiated}

module _ (defs : Defs) (specs : Specs) where
  -- where the goal with x is true from here, the body is true of each datum
  each_true : (context : Context) (x y : List ℕ) (s : Sort) (body made : PlainFormula) → has_name x context.variables ≡ false → AllFit defs context context.hypotheses → Fits defs ((y, s) ∷ scope_of context) body → Instantiated y s body (variable x s) made → (env : Env) → IsTrueFrom defs specs context env (with_variable context x s made) → Suits (scope_of context) env → AllTrue defs specs env context.hypotheses → (d : Datum) → HasSort s d → Truth defs specs (with_datum env y d) body
  each_true context x y s body made free hyps_fit fit i env proved suits hyps d has =
      let scope = scope_of context in
      let new = with_datum env x d in
      let like = like_new context env x s d free in
      let there = proved new (suits_new context env x s d free suits has) (all_like defs specs scope env (put env.variables x d) like context.hypotheses hyps_fit hyps) (goes_on context env x s d free) in
      let of_body = (instance_true defs specs new scope y s body (variable x s) made d fit i refl (means_new defs env x s d)).0 there in
      truth_like defs specs env ((y, s) ∷ scope) (put (put env.variables x d) y d) (put env.variables y d)
      (like_below scope (put env.variables x d) env.variables (like_back scope env.variables (put env.variables x d) like) y s d) body fit.allowed of_body

record Named (context : Context) (x y : List ℕ) (s : Sort) (body : PlainFormula) (goals : List Goal) : Type 0 where
  pub free : has_name x context.variables ≡ false
  pub made : PlainFormula
  pub is : Instantiated y s body (variable x s) made
  pub goals' : goals ≡ with_variable context x s made ∷ []

named_made : (context : Context) (x y : List ℕ) (s : Sort) (body : PlainFormula) (goals : List Goal) → Ok goals ≡ named context x y s body → Named context x y s body goals
named_made context x y s body goals e = by (has_name x context.variables) refl e
  where
    by : (c : Bool) → has_name x context.variables ≡ c → Ok goals ≡ cond c (Err (taken x)) (goal_by (with_variable context x s) (formula_with ((y, variable x s) ∷ []) body)) → Named context x y s body goals
    by true h e = absurd (no_goals goals (taken x) e)
    by false h e =
        let m = goal_made (with_variable context x s) (formula_with ((y, variable x s) ∷ []) body) goals e in
        let i : instance_at y s body (variable x s) ≡ Ok m.0 = ap (λ b. cond b (formula_with ((y, variable x s) ∷ []) body) (Err (refusal c.IllSorted))) (same_sort_self s) ∙ m.1 in
        record { free = h; made = m.0; is = instantiated y s body (variable x s) m.0 i; goals' = m.2 }

-- what `intro` was tried on
data Introduced (context : Context) (target : PlainFormula) (goals : List Goal) : Type 0 where
  supposed : (premise conclusion : PlainFormula) → said target ≡ Implication premise conclusion → goals ≡ supposing context premise conclusion ∷ [] → Introduced context target goals
  called : (x y : List ℕ) (s : Sort) (body : PlainFormula) → said target ≡ ForAll y s body → Named context x y s body goals → Introduced context target goals

introduced_by : (context : Context) (names : List (List ℕ)) (target : PlainFormula) (goals : List Goal) (s : Saying) → said target ≡ s → Ok goals ≡ introduced context names s → Introduced context target goals
introduced_by context [] target goals (Implication a b) e row = supposed a b e (goals_are goals _ row)
introduced_by context [] target goals s e row = absurd (no_goals goals _ row)
introduced_by context (x ∷ []) target goals (ForAll y s body) e row = called x y s body e (named_made context x y s body goals row)
introduced_by context (x ∷ []) target goals s e row = absurd (no_goals goals _ row)
introduced_by context (x ∷ y ∷ names) target goals s e row = absurd (no_goals goals _ row)

pub intro_true : KeepsTruth IntroRow
intro_true defs specs pure args goals keeps hyps_fit fit args_fit row env suits hyps proved = by (introduced_by pure.context args.names pure.target goals (said pure.target) refl row)
  where
    by : Introduced pure.context pure.target goals → Truth defs specs env pure.target
    by (supposed a b e made) =
        let one : AreTrueFrom defs specs pure.context env (supposing pure.context a b ∷ []) = subst (AreTrueFrom defs specs pure.context env) made proved in
        let implies : SaidTrue defs specs env ⊥ (Implication a b) = λ p. one.0 env suits (all_true defs specs env pure.context.hypotheses (a ∷ []) hyps (p, tt)) (itself pure.context env) in
        said_truth defs specs (scope_of pure.context) env keeps suits pure.target fit (subst (SaidTrue defs specs env ⊥) (sym e) implies)
    by (called x y s body e n) =
        let one : AreTrueFrom defs specs pure.context env (with_variable pure.context x s n.made ∷ []) = subst (AreTrueFrom defs specs pure.context env) n.goals' proved in
        let is = for_all y s body pure.target e in
        let below = for_all_fits defs (scope_of pure.context) y s body pure.target is fit in
        let all : Truth defs specs env (Says (f.Forall y s) is.terms (MoreFormulas body NoFormula)) = each_true defs specs pure.context x y s body n.made n.free hyps_fit below n.is env one.0 suits hyps in
        subst (Truth defs specs env) (sym is.is) all
