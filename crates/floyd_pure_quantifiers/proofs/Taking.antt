-- What the calls need: terms that may stand for variables, and the parts of a conjunction.
use Rattle.std.proofs.Common.{◌≡◌, ◌↔◌, ◌<◌, ◌+◌, arith, ◌++◌, ℕ, Bool, true, List, [], ◌∷◌, length, Some, Result, Err, IsTrue, refl, sym, ap, subst, ◌∙◌}
use Rattle.floyd_text.specs.declared.refusal.No.{No}
use Rattle.floyd_tree_sorts.specs.declared.connectives.FormulaHead.TheVariants as f
use Rattle.floyd_tree_sorts.specs.declared.sorts.Sort.{Sort}
use Rattle.floyd_tree_sorts.proofs.SortLemmas.{same_sort_test}
use Rattle.floyd_tree.specs.Formulas.{PlainFormula, Says, NoFormula, MoreFormulas, formula_height, formulas_of}
use Rattle.floyd_tree.specs.Plain.{Plain}
use Rattle.floyd_tree.specs.WellSorted.{sort_of}
use Rattle.floyd_tree_values.specs.Means.{Defs}
use Rattle.floyd_tree_values.specs.Rules.{Scope}
use Rattle.floyd_truth.specs.Replace.{FormulaSortsAgree, puts}
use Rattle.floyd_goal_trees.specs.declared.args.Args.{Args}
use Rattle.floyd_goal_trees.specs.declared.context.Context.{Context}
use Rattle.floyd_goal_trees.specs.declared.goal.Goal.{Goal}
use Rattle.floyd_goal_trees.specs.declared.goal.Goal.TheVariants as g
use Rattle.floyd_goal_trees.specs.declared.goal.Pure.{Pure}
use Rattle.floyd_goal.specs.Goals.{number_of, wrong_goal}
use Rattle.floyd_goal.specs.Sides.{context_of}
use Rattle.floyd_goal_formulas.specs.Fits.{Fits}
use Rattle.floyd_goal_formulas.specs.Said.{Saying, Both, ForAll, ThereIs, said}
use Rattle.floyd_goal_formulas.proofs.KnownLemmas.{kids_lower}
use Rattle.floyd_goal_truth.specs.Scopes.{AllFit, scope_of}
use Rattle.floyd_goal_truth.proofs.Uses.{hypothesis_fits}
use Rattle.floyd_pure_formulas.specs.Instances.{IsFitIfPure, instance, is_sort, wrong_count}
use Rattle.floyd_pure_formulas.specs.InstancesClauses.{Takes}
use Rattle.floyd_pure_formulas.specs.Rows.{named_by}
use Rattle.floyd_pure_formulas.proofs.Shapes.{both, for_all, for_all_fits, there_is, there_is_fits}
use Rattle.floyd_pure_formulas.proofs.Substituting.{body_takes, is_sort_is}
use Rattle.floyd_pure_quantifiers.specs.BindingClauses.{TakesIfAny}
use Rattle.floyd_pure_quantifiers.specs.Intro.{introduced}
use Rattle.floyd_pure_quantifiers.specs.Split.{conjuncts}

pub has_sort_is : (same : Bool) (t : Plain) (s r : Sort) → sort_of t ≡ Some r → (IsTrue same ↔ (r ≡ s)) → same ≡ is_sort s (sort_of t)
has_sort_is same t s r e h = same_sort_test same r s h ∙ ap (is_sort s) (sym e)

pub taken_at : (x : List ℕ) (s : Sort) (body : PlainFormula) (t : Plain) → Takes x s body → is_sort s (sort_of t) ≡ true → FormulaSortsAgree (puts ((x, t) ∷ [])) body
taken_at x s body t takes e = takes t (is_sort_is s (sort_of t) e)

abbrev refused : ℕ → Result PlainFormula No
refused n = Err (wrong_count n)

pub instance_other : (x : List ℕ) (s : Sort) (body : PlainFormula) (terms : List Plain) → (length terms ≡ 1 → ⊥) → instance x s body terms ≡ Err (wrong_count (length terms))
instance_other x s body [] n = refl
instance_other x s body (t ∷ []) n = absurd (n refl)
instance_other x s body (t ∷ u ∷ more) n =
    let count : length more + 2 ≡ length (t ∷ u ∷ more) = omega arith in
    ap (λ (k : ℕ). refused k) count

pub introduced_other : (context : Context) (names : List (List ℕ)) (s : Saying) → (length names ≡ 0 → ⊥) → (length names ≡ 1 → ⊥) → introduced context names s ≡ Err wrong_goal
introduced_other context [] s n m = absurd (n refl)
introduced_other context (x ∷ []) s n m = absurd (m refl)
introduced_other context (x ∷ y ∷ names) s n m = refl

-- a term may stand for the variable of a quantified formula that is well formed
said_takes : (defs : Defs) (scope : Scope) (a : PlainFormula) → Fits defs scope a → (s : Saying) → said a ≡ s → TakesIfAny s
said_takes defs scope a fit (ForAll x s body) e = body_takes defs scope x s body (for_all_fits defs scope x s body a (for_all x s body a e) fit)
said_takes defs scope a fit (ThereIs x s body) e = body_takes defs scope x s body (there_is_fits defs scope x s body a (there_is x s body a e) fit)
said_takes defs scope a fit s e = tt

pub target_takes : (defs : Defs) (goal : Goal) (pure : Pure) → IsFitIfPure defs goal → goal ≡ g.Pure pure → TakesIfAny (said pure.target)
target_takes defs goal pure fit e = said_takes defs (scope_of pure.context) pure.target (subst (IsFitIfPure defs) e fit) (said pure.target) refl

pub hypothesis_takes : (defs : Defs) (goal : Goal) (args : Args) (h : PlainFormula) → AllFit defs (context_of goal) (context_of goal).hypotheses → named_by goal args ≡ Some h → TakesIfAny (said h)
hypothesis_takes defs goal args h fit e =
    let scope = scope_of (context_of goal) in
    said_takes defs scope h (hypothesis_fits defs scope (context_of goal).hypotheses (number_of args.target) h e fit) (said h) refl

-- the sides of a conjunction
pub both_lower : (a b c : PlainFormula) → Both b c ≡ said a → (formula_height b < formula_height a) × (formula_height c < formula_height a)
both_lower a b c e = kids_lower a b c (ap formulas_of (both b c a (sym e)).is)

pub both_conjuncts : (a b c : PlainFormula) → Both b c ≡ said a → conjuncts a ≡ conjuncts b ++ conjuncts c
both_conjuncts a b c e = ap conjuncts (both b c a (sym e)).is

-- what is no conjunction is its own conjunct
pub alone_conjunct : (a : PlainFormula) → ((b c : PlainFormula) → said a ≡ Both b c → ⊥) → conjuncts a ≡ a ∷ []
alone_conjunct (Says f.And ts (MoreFormulas b (MoreFormulas c NoFormula))) h = absurd (h b c refl)
alone_conjunct (Says f.And ts NoFormula) h = refl
alone_conjunct (Says f.And ts (MoreFormulas b NoFormula)) h = refl
alone_conjunct (Says f.And ts (MoreFormulas b (MoreFormulas c (MoreFormulas d fs)))) h = refl
alone_conjunct (Says head ts fs) h = refl
