-- Instances of what a goal supposes or wants.
use Rattle.std.proofs.Common.{◌≡◌, ◌↔◌, ℕ, List, [], ◌∷◌, All, Result, Ok, Err, refl, sym, subst}
use Rattle.std.proofs.lemmas.List.Elements.{All-head}
use Rattle.floyd_text.specs.declared.refusal.No.{No}
use Rattle.floyd_tree_sorts.specs.declared.connectives.FormulaHead.TheVariants as f
use Rattle.floyd_tree_sorts.specs.declared.sorts.Sort.{Sort}
use Rattle.floyd_tree.specs.Formulas.{PlainFormula, Says, NoFormula, MoreFormulas}
use Rattle.floyd_tree.specs.Made.{fits}
use Rattle.floyd_tree.specs.Plain.{Plain}
use Rattle.floyd_tree_values.specs.BuiltIns.{Env}
use Rattle.floyd_tree_values.specs.Data.{Datum, HasSort}
use Rattle.floyd_tree_values.specs.Means.{Defs}
use Rattle.floyd_tree_values.specs.Rules.{DefsKeep, Suits}
use Rattle.floyd_truth.specs.Truth.{Truth, with_datum}
use Rattle.floyd_goal_trees.specs.declared.args.Args.{Args}
use Rattle.floyd_goal_trees.specs.declared.context.Context.{Context}
use Rattle.floyd_goal_trees.specs.declared.goal.Goal.{Goal}
use Rattle.floyd_goal.specs.Goals.{intros_first, is_pending, number_of, pure_goal}
use Rattle.floyd_goal.specs.Sides.{context_of}
use Rattle.floyd_goal_formulas.specs.Fits.{Fits}
use Rattle.floyd_goal_formulas.specs.Said.{Saying, ForAll, ThereIs, said}
use Rattle.floyd_goal_formulas.proofs.Values.{valued}
use Rattle.floyd_goal_truth.specs.Scopes.{scope_of}
use Rattle.floyd_goal_truth.proofs.Uses.{hypothesis_fits, hypothesis_true}
use Rattle.floyd_pure_quantifiers.specs.Exists.{ExistsRow, witnessed}
use Rattle.floyd_pure_formulas.specs.Holds.{Specs, AddsTrue, TermFits}
use Rattle.floyd_pure_formulas.specs.Keeps.{AreTrueFrom, KeepsTruth}
use Rattle.floyd_pure_formulas.specs.Instances.{goal_by, instance}
use Rattle.floyd_pure_formulas.specs.Rows.{OfHypothesis, no_such, with_more}
use Rattle.floyd_pure_quantifiers.specs.Specialize.{SpecializeRow, specialized}
use Rattle.floyd_pure_formulas.proofs.Enriching.{keeps_by_adding}
use Rattle.floyd_pure_formulas.proofs.Going.{itself}
use Rattle.floyd_pure_formulas.proofs.Shapes.{for_all, for_all_fits, there_is, there_is_fits}
use Rattle.floyd_pure_formulas.proofs.Rowing.{found, goals_are, no_goals, passed}
use Rattle.floyd_pure_formulas.proofs.Substituting.{Instantiated, instance_true, instantiated}

pub goal_made : (goal_of : PlainFormula → Goal) (r : Result PlainFormula No) (goals : List Goal) → Ok goals ≡ goal_by goal_of r → (made : PlainFormula) × (r ≡ Ok made) × (goals ≡ goal_of made ∷ [])
goal_made goal_of (Ok a) goals e = (a, refl, goals_are goals (goal_of a ∷ []) e)
goal_made goal_of (Err refused) goals e = absurd (no_goals goals refused e)

-- an instance at one term, which is well formed
record Instance (defs : Defs) (context : Context) (x : List ℕ) (s : Sort) (body made : PlainFormula) : Type 0 where
  pub term : Plain
  pub fits : TermFits defs context term
  pub made' : Instantiated x s body term made

instance_of : (defs : Defs) (context : Context) (x : List ℕ) (s : Sort) (body : PlainFormula) (terms : List Plain) (made : PlainFormula) → All (TermFits defs context) terms → instance x s body terms ≡ Ok made → Instance defs context x s body made
instance_of defs context x s body [] made fit e = absurd cc
instance_of defs context x s body (t ∷ []) made fit e = record { term = t; fits = All-head (TermFits defs context) t [] fit; made' = instantiated x s body t made e }
instance_of defs context x s body (t ∷ u ∷ more) made fit e = absurd cc

-- its term has a value of the sort, and it says of that value what the body says of the variable
instance_says : (defs : Defs) (specs : Specs) (context : Context) (env : Env) → DefsKeep defs → Suits (scope_of context) env → (x : List ℕ) (s : Sort) (body made : PlainFormula) → Fits defs ((x, s) ∷ scope_of context) body → Instance defs context x s body made → (d : Datum) × HasSort s d × (Truth defs specs env made ↔ Truth defs specs (with_datum env x d) body)
instance_says defs specs context env keeps suits x s body made fit i =
    let v = valued defs (scope_of context) env keeps suits i.term s i.fits.0.1.allowed i.made'.sort in
    (v.0, v.2, instance_true defs specs env (scope_of context) x s body i.term made v.0 fit i.made' i.fits.1 v.1)

record Specialized (goal : Goal) (args : Args) (h : PlainFormula) (goals : List Goal) : Type 0 where
  pub name : List ℕ
  pub sort : Sort
  pub body : PlainFormula
  pub says : said h ≡ ForAll name sort body
  pub row : Ok goals ≡ goal_by (λ a. with_more goal (a ∷ [])) (instance name sort body args.terms)

specialized_by : (goal : Goal) (args : Args) (h : PlainFormula) (goals : List Goal) (s : Saying) → said h ≡ s → Ok goals ≡ specialized goal args s → Specialized goal args h goals
specialized_by goal args h goals (ForAll x s body) e row = record { name = x; sort = s; body = body; says = e; row = row }
specialized_by goal args h goals s e row = absurd (no_goals goals _ row)

pub specialize_adding : AddsTrue SpecializeRow
specialize_adding defs specs goal args goals keeps hyps_fit args_fit row =
    let context = context_of goal in
    let hs = context.hypotheses in
    let n = number_of args.target in
    let p = found _ (no_such args) (λ h a. a ≡ specialized goal args (said h)) goals
    (passed (is_pending goal) intros_first (OfHypothesis goal args (λ h a. a ≡ specialized goal args (said h))) goals row) in
    let q = specialized_by goal args p.0 goals (said p.0) refl p.2 in
    let m = goal_made (λ a. with_more goal (a ∷ [])) (instance q.name q.sort q.body args.terms) goals q.row in
    let is = for_all q.name q.sort q.body p.0 q.says in
    let fit = for_all_fits defs (scope_of context) q.name q.sort q.body p.0 is (hypothesis_fits defs (scope_of context) hs n p.0 p.1 hyps_fit) in
    let i = instance_of defs context q.name q.sort q.body args.terms m.0 args_fit.terms m.1 in
    record {
      asked = [];
      added = m.0 ∷ [];
      made = m.2;
      hold = λ env suits hyps asked.
          let says = instance_says defs specs context env keeps suits q.name q.sort q.body m.0 fit i in
          let all : Truth defs specs env (Says (f.Forall q.name q.sort) is.terms (MoreFormulas q.body NoFormula)) = subst (Truth defs specs env) is.is (hypothesis_true defs specs env hs n p.0 p.1 hyps) in
          (says.2.1 (all says.0 says.1), tt);
    }

pub specialize_true : KeepsTruth SpecializeRow
specialize_true = keeps_by_adding SpecializeRow specialize_adding

record Witnessed (context : Context) (terms : List Plain) (target : PlainFormula) (goals : List Goal) : Type 0 where
  pub name : List ℕ
  pub sort : Sort
  pub body : PlainFormula
  pub says : said target ≡ ThereIs name sort body
  pub row : Ok goals ≡ goal_by (pure_goal context) (instance name sort body terms)

witnessed_by : (context : Context) (terms : List Plain) (target : PlainFormula) (goals : List Goal) (s : Saying) → said target ≡ s → Ok goals ≡ witnessed context terms s → Witnessed context terms target goals
witnessed_by context terms target goals (ThereIs x s body) e row = record { name = x; sort = s; body = body; says = e; row = row }
witnessed_by context terms target goals s e row = absurd (no_goals goals _ row)

pub exists_true : KeepsTruth ExistsRow
exists_true defs specs pure args goals keeps hyps_fit fit args_fit row env suits hyps proved =
    let context = pure.context in
    let q = witnessed_by context args.terms pure.target goals (said pure.target) refl row in
    let m = goal_made (pure_goal context) (instance q.name q.sort q.body args.terms) goals q.row in
    let is = there_is q.name q.sort q.body pure.target q.says in
    let below = there_is_fits defs (scope_of context) q.name q.sort q.body pure.target is fit in
    let i = instance_of defs context q.name q.sort q.body args.terms m.0 args_fit.terms m.1 in
    let says = instance_says defs specs context env keeps suits q.name q.sort q.body m.0 below i in
    let one : AreTrueFrom defs specs context env (pure_goal context m.0 ∷ []) = subst (AreTrueFrom defs specs context env) m.2 proved in
    let some : Truth defs specs env (Says (f.Exists q.name q.sort) is.terms (MoreFormulas q.body NoFormula)) = (says.0, says.1, says.2.0 (one.0 env suits hyps (itself context env))) in
    subst (Truth defs specs env) (sym is.is) some
