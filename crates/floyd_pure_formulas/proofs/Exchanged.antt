-- A term in the place of a variable of the context, whose value it has.
use Rattle.std.proofs.Common.{◌≡◌, ◌↔◌, ℕ, ◌+◌, ◌<◌, ◌≤◌, ◌^◌, Bool, true, false, ◌&&◌, cond, List, [], ◌∷◌, ◌++◌, map, All, Some, None, Result, Ok, Err, refl, sym, ap, subst, ◌∙◌, arith, leb-true}
use Rattle.std.specs.Prelude.{bytes_eq, nat_le}
use Rattle.std.specs.List.{list_all}
use Rattle.std.specs.Map.{lookup}
use Rattle.std.proofs.lemmas.List.Elements.{All-head, All-tail}
use Rattle.std.proofs.lemmas.Slice.Eq.{bytes_eq-Decides}
use Rattle.floyd_text.specs.declared.refusal.No.{No}
use Rattle.floyd_tree_sorts.specs.declared.sorts.Sort.{Sort}
use Rattle.floyd_tree_sorts.proofs.SortLemmas.{both_true}
use Rattle.floyd_tree.specs.Formulas.{PlainFormula, formula_size, formula_height}
use Rattle.floyd_tree.specs.Made.{fits}
use Rattle.floyd_tree.specs.MadeFormulas.{formula_fits}
use Rattle.floyd_tree.specs.Plain.{Plain, size, height}
use Rattle.floyd_tree.specs.WellSorted.{sort_of}
use Rattle.floyd_tree_values.specs.BuiltIns.{Env}
use Rattle.floyd_tree_values.specs.Data.{Datum}
use Rattle.floyd_tree_values.specs.Means.{Defs, Means}
use Rattle.floyd_tree_values.specs.Rules.{Scope, Suits}
use Rattle.floyd_truth.specs.Capture.{Put}
use Rattle.floyd_truth.specs.Laws.{Changed, IsAfter, nodes}
use Rattle.floyd_truth.specs.Replace.{HasSortOf, puts, replaced_formula}
use Rattle.floyd_truth.specs.Truth.{Truth, AllTrue}
use Rattle.floyd_truth.proofs.InChanged.{true_in_changed}
use Rattle.floyd_truth.proofs.OneTruth.{giving, put}
use Rattle.floyd_assert_trees.specs.declared.binder.Binder.{Binder}
use Rattle.floyd_assert_changes.specs.Substituted.{formula_with, formulas_with}
use Rattle.floyd_goal_changes.specs.Changed.{of_one, of_two}
use Rattle.floyd_goal_formulas.specs.Fits.{Fits}
use Rattle.floyd_goal_trees.specs.Contexts.{after_command}
use Rattle.floyd_goal_trees.specs.declared.context.Context.{Context}
use Rattle.floyd_goal_trees.specs.declared.goal.Goal.{Goal}
use Rattle.floyd_goal_trees.specs.declared.goal.Goal.TheVariants as g
use Rattle.floyd_goal_trees.specs.declared.goal.Pure.{Pure}
use Rattle.floyd_goal_truth.specs.Scopes.{AllFit, scope_of}
use Rattle.floyd_pure_formulas.specs.Holds.{Specs}
use Rattle.floyd_pure_formulas.specs.Keeps.{IsTrueFrom}
use Rattle.floyd_pure_formulas.specs.VariableCases.{case_with, exchanged, with_exchanged, without}
use Rattle.floyd_pure_formulas.proofs.Going.{stays_without}
use Rattle.floyd_pure_formulas.proofs.Likes.{Like, like_back, truth_like}
use Rattle.floyd_pure_formulas.proofs.Substituting.{Suiting, formula_agrees, formula_size_kept}

abbrev pub pair : Binder → List ℕ × Sort
pair b = (b.name, b.sort)

-- what was made, where a refusal is possible
abbrev good : {T : Type 0} → T → Result T No
good x = Ok x

-- what was made within the limits
made_within : (a : PlainFormula) (b : Bool) (why : No) (made : PlainFormula) → formula_fits a ≡ b → cond b (good a) (Err why) ≡ Ok made → (a ≡ made) × (formula_fits a ≡ true)
made_within a true why made h e = (cc, h)
made_within a false why made h e = absurd cc

all_within : (xs : List PlainFormula) (b : Bool) (why : No) (made : List PlainFormula) → list_all formula_fits xs ≡ b → cond b (good xs) (Err why) ≡ Ok made → (xs ≡ made) × (list_all formula_fits xs ≡ true)
all_within xs true why made h e = (cc, h)
all_within xs false why made h e = absurd cc

small : (m n : ℕ) → (nat_le m 65536 && nat_le n 256) ≡ true → m ≤ 65536
small m n h = leb-true m 65536 (both_true (nat_le m 65536) (nat_le n 256) h).0

module _ (defs : Defs) (specs : Specs) (scope : Scope) (x : List ℕ) (sort : Sort) (here : lookup (bytes_eq x) scope ≡ Some sort) (env : Env) (f : List ℕ → Datum) (like : (v : List ℕ) (r : Sort) → lookup (bytes_eq v) scope ≡ Some r → bytes_eq v x ≡ false → env.variables v ≡ f v) (t : Plain) (sorted : sort_of t ≡ Some sort) (fit : fits t ≡ true) (means : Means defs (giving env f) t (env.variables x)) where
  suiting : Suiting (puts ((x, t) ∷ [])) scope
  suiting v r i = by (bytes_eq v x) refl
    where
      by : (c : Bool) → bytes_eq v x ≡ c → HasSortOf (cond c (Some (Put t)) None) r
      by true h =
          let same : v ≡ x = (bytes_eq-Decides v x).0 h in
          sorted ∙ sym here ∙ ap (λ n. lookup (bytes_eq n) scope) (sym same) ∙ i
      by false h = tt

  -- with the value of x in the place of what f gives it
  abbrev before : List ℕ → Datum
  before = put f x (env.variables x)

  changed : Changed defs (giving env f) ((x, t) ∷ []) before
  changed v = by (bytes_eq v x)
    where
      by : (c : Bool) → IsAfter defs (giving env f) (cond c (Some t) None) (f v) (cond c (env.variables x) (f v))
      by true = means
      by false = refl

  like_before : Like scope env.variables before
  like_before v r i = by (bytes_eq v x) refl
    where
      by : (c : Bool) → bytes_eq v x ≡ c → env.variables v ≡ cond c (env.variables x) (f v)
      by true h = ap env.variables ((bytes_eq-Decides v x).0 h)
      by false h = like v r i h

  -- a formula within the limits is true where it was
  of_made : (a : PlainFormula) → Fits defs scope a → formula_fits (replaced_formula (puts ((x, t) ∷ [])) a) ≡ true → Truth defs specs (giving env f) (replaced_formula (puts ((x, t) ∷ [])) a) ↔ Truth defs specs env a
  of_made a a_fits within =
      let made = replaced_formula (puts ((x, t) ∷ [])) a in
      let size_is : formula_size a ≤ 65536 = omega (arith, formula_size_kept (puts ((x, t) ∷ [])) a a_fits.sorted, small (formula_size made) (formula_height made) within) in
      let few : nodes ((x, t) ∷ []) + formula_size a < 2 ^ 63 = omega (arith, small (size t) (height t) fit, size_is) in
      let same = true_in_changed defs (giving env f) ((x, t) ∷ []) before changed specs a a_fits.sorted few (formula_agrees defs (puts ((x, t) ∷ [])) scope suiting a a_fits.allowed) in (
        λ p. truth_like defs specs env scope before env.variables (like_back scope env.variables before like_before) a a_fits.allowed (same.0 p),
        λ p. same.1 (truth_like defs specs env scope env.variables before like_before a a_fits.allowed p),
      )

  one_of_made : (a made : PlainFormula) → Fits defs scope a → formula_with ((x, t) ∷ []) a ≡ Ok made → Truth defs specs (giving env f) made → Truth defs specs env a
  one_of_made a made a_fits e p =
      let m = made_within (replaced_formula (puts ((x, t) ∷ [])) a) (formula_fits (replaced_formula (puts ((x, t) ∷ [])) a)) _ made refl e in
      (of_made a a_fits m.1).0 (subst (Truth defs specs (giving env f)) (sym m.0) p)

  all_of_made : (xs : List PlainFormula) → All (Fits defs scope) xs → list_all formula_fits (map (replaced_formula (puts ((x, t) ∷ []))) xs) ≡ true → AllTrue defs specs env xs → AllTrue defs specs (giving env f) (map (replaced_formula (puts ((x, t) ∷ []))) xs)
  all_of_made [] fit w p = tt
  all_of_made (a ∷ xs) fit w p =
      let made = replaced_formula (puts ((x, t) ∷ [])) in
      let both = both_true (formula_fits (made a)) (list_all formula_fits (map made xs)) w in
      ((of_made a (All-head (Fits defs scope) a xs fit) both.0).1 p.0, all_of_made xs (All-tail (Fits defs scope) a xs fit) both.1 p.1)

  each_of_made : (xs made : List PlainFormula) → All (Fits defs scope) xs → formulas_with ((x, t) ∷ []) xs ≡ Ok made → AllTrue defs specs env xs → AllTrue defs specs (giving env f) made
  each_of_made xs made fit e p =
      let all = map (replaced_formula (puts ((x, t) ∷ []))) xs in
      let m = all_within all (list_all formula_fits all) _ made refl e in
      subst (AllTrue defs specs (giving env f)) m.0 (all_of_made xs fit m.1 p)

-- the Pure goal in a case
abbrev pure_case : Context → List ℕ → List Binder → List PlainFormula → PlainFormula → Pure
pure_case context x new hypotheses target = record {
  context = exchanged x new (record (after_command context) { hypotheses = hypotheses });
  target = target;
}

record Made (pure : Pure) (x : List ℕ) (t : Plain) (new : List Binder) (made : Goal) : Type 0 where
  pub hypotheses : List PlainFormula
  pub target : PlainFormula
  pub all : formulas_with ((x, t) ∷ []) pure.context.hypotheses ≡ Ok hypotheses
  pub one : formula_with ((x, t) ∷ []) pure.target ≡ Ok target
  pub is : made ≡ g.Pure (pure_case pure.context x new hypotheses target)

made_same : (a b : Goal) → good a ≡ good b → b ≡ a
made_same a b e = cc

made_by : (pure : Pure) (x : List ℕ) (t : Plain) (new : List Binder) (made : Goal) → case_with (g.Pure pure) x t new ≡ Ok made → Made pure x t new made
made_by pure x t new made e = by (formulas_with ((x, t) ∷ []) pure.context.hypotheses) refl (formula_with ((x, t) ∷ []) pure.target) refl e
  where
    context_of_all : Result (List PlainFormula) No → Result Context No
    context_of_all r = of_one (λ hypotheses. record (after_command pure.context) { hypotheses = hypotheses }) r

    made_of : Result (List PlainFormula) No → Result PlainFormula No → Result Goal No
    made_of r q = of_one (with_exchanged x new) (of_one g.Pure (of_two (λ context target. record { context = context; target = target }) (context_of_all r) q))

    by : (r : Result (List PlainFormula) No) → formulas_with ((x, t) ∷ []) pure.context.hypotheses ≡ r → (q : Result PlainFormula No) → formula_with ((x, t) ∷ []) pure.target ≡ q → made_of r q ≡ Ok made → Made pure x t new made
    by (Ok hs) h (Ok a) i e = record { hypotheses = hs; target = a; all = h; one = i; is = made_same (g.Pure (pure_case pure.context x new hs a)) made e }
    by (Ok hs) h (Err why) i e = absurd cc
    by (Err why) h q i e = absurd cc

-- The goal is true where a case of it is, for data under which the case's term has the value of x, and which are the same for
-- the variables of the goal.
pub case_true : (defs : Defs) (specs : Specs) (pure : Pure) (x : List ℕ) (sort : Sort) (t : Plain) (new : List Binder) (made : Goal) (env : Env) (f : List ℕ → Datum) → AllFit defs pure.context pure.context.hypotheses → Fits defs (scope_of pure.context) pure.target → AllTrue defs specs env pure.context.hypotheses → lookup (bytes_eq x) (scope_of pure.context) ≡ Some sort → sort_of t ≡ Some sort → fits t ≡ true → case_with (g.Pure pure) x t new ≡ Ok made → IsTrueFrom defs specs pure.context env made → ((v : List ℕ) (r : Sort) → lookup (bytes_eq v) (scope_of pure.context) ≡ Some r → env.variables v ≡ f v) → Means defs (giving env f) t (env.variables x) → Suits (map pair (without x pure.context.variables ++ new)) (giving env f) → Truth defs specs env pure.target
case_true defs specs pure x sort t new made env f hyps_fit fit hyps here sorted small_term row true' same means suits =
    let scope = scope_of pure.context in
    let m = made_by pure x t new made row in
    let goal : IsTrueFrom defs specs pure.context env (g.Pure (pure_case pure.context x new m.hypotheses m.target)) = subst (IsTrueFrom defs specs pure.context env) m.is true' in
    let all = each_of_made defs specs scope x sort here env f (λ v r e k. same v r e) t sorted small_term means pure.context.hypotheses m.hypotheses hyps_fit m.all hyps in
    one_of_made defs specs scope x sort here env f (λ v r e k. same v r e) t sorted small_term means pure.target m.target fit m.one (goal (giving env f) suits all (record { global = refl; local = refl; variables = λ v r e. sym (same v r e); promise = stays_without x pure.context.mark }))
