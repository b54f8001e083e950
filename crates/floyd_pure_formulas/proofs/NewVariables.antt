-- A goal is true where it is with its premise as a hypothesis, or with a variable more.
use Rattle.std.proofs.Common.{◌≡◌, ◌⊎◌, inl, inr, ℕ, Bool, true, false, ◌||◌, List, [], ◌∷◌, ◌++◌, map, All, Option, Some, None, refl, sym, ap, subst, ◌∙◌, cond, true≢false}
use Rattle.std.specs.Prelude.{bytes_eq}
use Rattle.std.specs.Map.{lookup}
use Rattle.std.proofs.lemmas.List.Elements.{All-head, All-tail}
use Rattle.std.proofs.lemmas.Slice.Eq.{bytes_eq-Decides}
use Rattle.floyd_tree_sorts.specs.declared.heads.Head.TheVariants.{Variable}
use Rattle.floyd_tree_sorts.specs.declared.sorts.Sort.{Sort}
use Rattle.floyd_tree.specs.Formulas.{PlainFormula}
use Rattle.floyd_tree_values.specs.BuiltIns.{Env}
use Rattle.floyd_tree_values.specs.Data.{Datum, HasSort}
use Rattle.floyd_tree_values.specs.Means.{Defs, Means, built_in, none}
use Rattle.floyd_tree_values.specs.Rules.{Scope, Suits}
use Rattle.floyd_truth.specs.Truth.{AllTrue, with_datum}
use Rattle.floyd_truth.proofs.OneTruth.{put}
use Rattle.floyd_assert_trees.specs.declared.binder.Binder.{Binder}
use Rattle.floyd_assert_changes.specs.Changed.{has_name}
use Rattle.floyd_goal_trees.specs.Contexts.{unmarked}
use Rattle.floyd_goal_trees.specs.declared.context.Context.{Context}
use Rattle.floyd_goal_formulas.specs.Fits.{Fits}
use Rattle.floyd_goal_truth.specs.Scopes.{scope_of}
use Rattle.floyd_pure_formulas.specs.Holds.{Specs}
use Rattle.floyd_pure_formulas.specs.Keeps.{GoesOn}
use Rattle.floyd_pure_formulas.specs.Naming.{variable}
use Rattle.floyd_pure_formulas.specs.Rows.{extended}
use Rattle.floyd_pure_formulas.proofs.Going.{itself}
use Rattle.floyd_pure_formulas.proofs.Likes.{Like, truth_like}

abbrev pair : Binder → List ℕ × Sort
pair b = (b.name, b.sort)

abbrev last : List ℕ → Sort → List Binder
last x s = record { name = x; sort = s } ∷ []

-- a name that is not that of a binder is not in their scope
not_there_by : (c : Bool) (sort : Sort) (other : Bool) (o : Option Sort) (r : Sort) → (other ≡ false → o ≡ Some r → ⊥) → (c || other) ≡ false → cond c (Some sort) o ≡ Some r → ⊥
not_there_by true sort other o r k h e = true≢false h
not_there_by false sort other o r k h e = k h e

not_there : (x : List ℕ) (bs : List Binder) → has_name x bs ≡ false → (r : Sort) → lookup (bytes_eq x) (map pair bs) ≡ Some r → ⊥
not_there x [] h r e = cc
not_there x (b ∷ bs) h r e = not_there_by (bytes_eq x b.name) b.sort (has_name x bs) (lookup (bytes_eq x) (map pair bs)) r (λ k i. not_there x bs k r i) h e

-- what is found with one binder more is found before, or is it
pub found_by : (c : Bool) (sort : Sort) (all some : Option Sort) (P : Type 0) (r : Sort) → (all ≡ Some r → (some ≡ Some r) ⊎ P) → cond c (Some sort) all ≡ Some r → (cond c (Some sort) some ≡ Some r) ⊎ P
found_by true sort all some P r k e = inl e
found_by false sort all some P r k e = k e

found_alone : (c : Bool) (P : Type 0) (s r : Sort) (o : Option Sort) → o ≡ None → (c ≡ true → s ≡ r → P) → cond c (Some s) o ≡ Some r → (o ≡ Some r) ⊎ P
found_alone true P s r o n k e = inr (k refl cc)
found_alone false P s r o n k e = inl e

found_last : (bs : List Binder) (x : List ℕ) (s : Sort) (v : List ℕ) (r : Sort) → lookup (bytes_eq v) (map pair (bs ++ last x s)) ≡ Some r → (lookup (bytes_eq v) (map pair bs) ≡ Some r) ⊎ ((v ≡ x) × (s ≡ r))
found_last [] x s v r e = found_alone (bytes_eq v x) ((v ≡ x) × (s ≡ r)) s r None refl (λ i k. ((bytes_eq-Decides v x).0 i, k)) e
found_last (b ∷ bs) x s v r e =
    found_by (bytes_eq v b.name) b.sort (lookup (bytes_eq v) (map pair (bs ++ last x s))) (lookup (bytes_eq v) (map pair bs)) ((v ≡ x) × (s ≡ r)) r (λ i. found_last bs x s v r i) e

module _ (context : Context) (env : Env) (x : List ℕ) (s : Sort) (d : Datum) (free : has_name x context.variables ≡ false) where
  -- x is in no scope that it is not taken in
  apart : (v : List ℕ) (r : Sort) → lookup (bytes_eq v) (scope_of context) ≡ Some r → bytes_eq v x ≡ true → ⊥
  apart v r e i =
      let same : v ≡ x = (bytes_eq-Decides v x).0 i in
      not_there x context.variables free r (subst (λ n. lookup (bytes_eq n) (scope_of context) ≡ Some r) same e)

  pub like_new : Like (scope_of context) env.variables (put env.variables x d)
  like_new v r e = by (bytes_eq v x) refl
    where
      by : (c : Bool) → bytes_eq v x ≡ c → env.variables v ≡ cond c d (env.variables v)
      by true i = absurd (apart v r e i)
      by false i = refl

  pub suits_new : Suits (scope_of context) env → HasSort s d → Suits (scope_of (extended context (last x s))) (with_datum env x d)
  suits_new suits has = record { each = λ v r e. by v r (found_last context.variables x s v r e) }
    where
      known : (v : List ℕ) (r : Sort) → lookup (bytes_eq v) (scope_of context) ≡ Some r → (c : Bool) → bytes_eq v x ≡ c → HasSort r (cond c d (env.variables v))
      known v r e true i = absurd (apart v r e i)
      known v r e false i = suits.each v r e

      new : (v : List ℕ) (r : Sort) → v ≡ x → s ≡ r → (c : Bool) → bytes_eq v x ≡ c → HasSort r (cond c d (env.variables v))
      new v r e k true i = subst (λ q. HasSort q d) k has
      new v r e k false i = absurd (true≢false (sym ((bytes_eq-Decides v x).1 e) ∙ i))

      by : (v : List ℕ) (r : Sort) → (lookup (bytes_eq v) (scope_of context) ≡ Some r) ⊎ ((v ≡ x) × (s ≡ r)) → HasSort r ((with_datum env x d).variables v)
      by v r (inl e) = known v r e (bytes_eq v x) refl
      by v r (inr e) = new v r e.0 e.1 (bytes_eq v x) refl

  -- with a datum for a name that is not taken an environment goes on
  pub goes_on : GoesOn context (unmarked context.mark) env (with_datum env x d)
  goes_on = record {
    global = refl;
    local = refl;
    variables = λ v r e. sym (like_new v r e);
    promise = (itself context env).promise;
  }

-- x means its datum
pub means_new : (defs : Defs) (env : Env) (x : List ℕ) (s : Sort) (d : Datum) → Means defs (with_datum env x d) (variable x s) d
means_new defs env x s d =
    let own : cond (bytes_eq x x) d (env.variables x) ≡ d = ap (λ c. cond c d (env.variables x)) ((bytes_eq-Decides x x).1 refl) in
    subst (Means defs (with_datum env x d) (variable x s)) own (built_in {head = Variable x s} {s = s} refl refl none)

module _ (defs : Defs) (specs : Specs) where
  pub all_like : (scope : Scope) (env : Env) (g : List ℕ → Datum) → Like scope env.variables g → (hs : List PlainFormula) → All (Fits defs scope) hs → AllTrue defs specs env hs → AllTrue defs specs (record env { variables = g }) hs
  all_like scope env g h [] fit t = tt
  all_like scope env g h (a ∷ hs) fit t =
      (truth_like defs specs env scope env.variables g h a (All-head (Fits defs scope) a hs fit).allowed t.0, all_like scope env g h hs (All-tail (Fits defs scope) a hs fit) t.1)
