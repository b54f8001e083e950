-- New variables that a command names: distinct, none of the context, and with data of their own.
use Rattle.std.proofs.Common.{◌≡◌, inl, inr, ⊎_elim, ℕ, Bool, true, false, ◌||◌, List, [], ◌∷◌, ◌++◌, map, None, refl, sym, ap, subst, ◌∙◌, true≢false}
use Rattle.std.specs.Prelude.{bytes_eq, if◌then◌else◌}
use Rattle.std.proofs.lemmas.Bool.{or_cases}
use Rattle.std.proofs.lemmas.Slice.Eq.{bytes_eq-Decides}
use Rattle.floyd_tree_sorts.specs.declared.heads.Head.TheVariants.{Variable}
use Rattle.floyd_tree_sorts.specs.declared.sorts.Sort.{Sort}
use Rattle.floyd_tree.specs.Plain.{plains}
use Rattle.floyd_tree_values.specs.BuiltIns.{Env}
use Rattle.floyd_tree_values.specs.Data.{Datum}
use Rattle.floyd_tree_values.specs.Means.{AllMean, Defs, Means, built_in, more, none}
use Rattle.floyd_tree_values.specs.Rules.{AreDistinct, IsOneOf}
use Rattle.floyd_truth.proofs.Fresh.{not_true, or_left, or_right}
use Rattle.floyd_truth.proofs.OneTruth.{giving}
use Rattle.floyd_assert_trees.specs.declared.binder.Binder.{Binder}
use Rattle.floyd_assert_changes.specs.Changed.{has_name}
use Rattle.floyd_assert_meaning.specs.Settings.{AreFor, with_each}
use Rattle.floyd_goal_names.proofs.NewNames.{each_other}
use Rattle.floyd_pure_formulas.specs.Naming.{variable}
use Rattle.floyd_pure_formulas.specs.VariableCases.{as_term, first_taken}
use Rattle.floyd_pure_formulas.proofs.VariableTrue.{fresh}

abbrev pub names_of : List Binder → List (List ℕ)
names_of bs = map (λ (b : Binder). b.name) bs

-- ---- names in lists

named_append : (v : List ℕ) (xs ys : List Binder) → has_name v xs ≡ true → has_name v (xs ++ ys) ≡ true
named_append v [] ys h = absurd cc
named_append v (x ∷ xs) ys h = ⊎_elim
    (λ e. or_left (bytes_eq v x.name) (has_name v (xs ++ ys)) e)
    (λ e. or_right (bytes_eq v x.name) (has_name v (xs ++ ys)) (named_append v xs ys e))
    (or_cases (bytes_eq v x.name) (has_name v xs) h)

named_last : (b : Binder) (xs : List Binder) → has_name b.name (xs ++ b ∷ []) ≡ true
named_last b [] = or_left (bytes_eq b.name b.name) false ((bytes_eq-Decides b.name b.name).1 refl)
named_last b (x ∷ xs) = or_right (bytes_eq b.name x.name) (has_name b.name (xs ++ b ∷ [])) (named_last b xs)

is_named : (bs : List Binder) (v : List ℕ) → IsOneOf (names_of bs) v → has_name v bs ≡ true
is_named [] v h = absurd h
is_named (b ∷ bs) v (inl e) = or_left (bytes_eq v b.name) (has_name v bs) ((bytes_eq-Decides v b.name).1 e)
is_named (b ∷ bs) v (inr h) = or_right (bytes_eq v b.name) (has_name v bs) (is_named bs v h)

-- ---- names that are new

-- a name that is there before is none of the new ones
not_again : (variables : List Binder) (v : List ℕ) (earlier new : List Binder) → first_taken variables earlier new ≡ None → has_name v earlier ≡ true → has_name v new ≡ false
not_again variables v earlier [] e h = refl
not_again variables v earlier (b ∷ new) e h =
    let p = fresh variables earlier b new e in
    by p.0.apart (not_again variables v (earlier ++ b ∷ []) new p.1 (named_append v earlier (b ∷ []) h)) (bytes_eq v b.name) refl
  where
    by : has_name b.name earlier ≡ false → has_name v new ≡ false → (c : Bool) → bytes_eq v b.name ≡ c → (c || has_name v new) ≡ false
    by apart rest true i = absurd (true≢false (sym (subst (λ n. has_name n earlier ≡ true) ((bytes_eq-Decides v b.name).0 i) h) ∙ apart))
    by apart rest false i = rest

pub are_distinct : (variables earlier new : List Binder) → first_taken variables earlier new ≡ None → AreDistinct (names_of new)
are_distinct variables earlier [] e = tt
are_distinct variables earlier (b ∷ new) e =
    let p = fresh variables earlier b new e in (
      λ h. true≢false (sym (is_named new b.name h) ∙ not_again variables b.name (earlier ++ b ∷ []) new p.1 (named_last b earlier)),
      are_distinct variables (earlier ++ b ∷ []) new p.1,
    )

pub are_apart : (variables earlier new : List Binder) → first_taken variables earlier new ≡ None → (v : List ℕ) → has_name v new ≡ true → has_name v variables ≡ false
are_apart variables earlier [] e v h = absurd cc
are_apart variables earlier (b ∷ new) e v h =
    let p = fresh variables earlier b new e in ⊎_elim
    (λ i. subst (λ n. has_name n variables ≡ false) (sym ((bytes_eq-Decides v b.name).0 i)) p.0.free)
    (λ i. are_apart variables (earlier ++ b ∷ []) new p.1 v i)
    (or_cases (bytes_eq v b.name) (has_name v new) h)

-- ---- data of their own

means_variable : (defs : Defs) (env : Env) (f : List ℕ → Datum) (x : List ℕ) (s : Sort) (d : Datum) → f x ≡ d → Means defs (giving env f) (variable x s) d
means_variable defs env f x s d e = subst (Means defs (giving env f) (variable x s)) e (built_in {head = Variable x s} {s = s} refl refl none)

pub own_mean : (defs : Defs) (env : Env) (new : List Binder) (f : List ℕ → Datum) (ds : List Datum) → AreFor new ds → AreDistinct (names_of new) → AllMean defs (giving env (with_each f new ds)) (plains (map as_term new)) ds
own_mean defs env [] f [] k u = none
own_mean defs env [] f (d ∷ ds) k u = absurd k
own_mean defs env (b ∷ new) f [] k u = absurd k
own_mean defs env (b ∷ new) f (d ∷ ds) k u =
    let put = λ (y : List ℕ). if bytes_eq y b.name then d else f y in
    let alone : has_name b.name new ≡ false = not_true (has_name b.name new) (λ h. u.0 (is_one new b.name h)) in
    let own : with_each put new ds b.name ≡ d = each_other new put ds b.name alone ∙ ap (λ t. if t then d else f b.name) ((bytes_eq-Decides b.name b.name).1 refl) in
    more (means_variable defs env (with_each put new ds) b.name b.sort d own) (own_mean defs env new put ds k.1 u.1)
  where
    is_one : (bs : List Binder) (v : List ℕ) → has_name v bs ≡ true → IsOneOf (names_of bs) v
    is_one [] v h = absurd cc
    is_one (c ∷ bs) v h = ⊎_elim
        (λ e. inl ((bytes_eq-Decides v c.name).0 e))
        (λ e. inr (is_one bs v e))
        (or_cases (bytes_eq v c.name) (has_name v bs) h)
