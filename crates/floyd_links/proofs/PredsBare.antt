-- The PREDs of a linked program speak of no local variable.
use Rattle.std.proofs.Common.{◌≡◌, ◌⊎◌, inl, inr, ℕ, ◌+◌, Bool, true, false, cond, List, [], ◌∷◌, ◌++◌, Option, Some, None, refl, subst}
use Rattle.std.specs.Prelude.{bytes_eq, option_map, option_and_then}
use Rattle.std.specs.Option.{option_or}
use Rattle.std.specs.List.{AllByRecursion}
use Rattle.std.specs.Map.{lookup}
use Rattle.std.proofs.lemmas.Option.{same_Some}
use Rattle.floyd_tree_sorts.specs.declared.sorts.Sort.{Sort, ListOf', TreeOf', more_of-Sort, end_of-Sort}
use Rattle.floyd_tree_sorts.specs.Sorts.{list_sort, tree_sort}
use Rattle.floyd_tree_values.specs.Data.{Datum}
use Rattle.floyd_tree_values.specs.Funs.{Bindings, parts}
use Rattle.floyd_assert_trees.specs.declared.binder.Binder.{Binder}
use Rattle.floyd_assert_trees.specs.declared.items.Defs.{Defs}
use Rattle.floyd_assert_trees.specs.declared.items.Pred.{Pred}
use Rattle.floyd_assert_trees.specs.declared.items.PredBody.{PredBody}
use Rattle.floyd_assert_trees.specs.declared.items.PredBody.TheVariants.{Whole, Cases}
use Rattle.floyd_assert_trees.specs.declared.items.PredCase.{PredCase}
use Rattle.floyd_assert_trees.specs.declared.spec.SpecTable.{SpecTable}
use Rattle.floyd_assert_trees.specs.Meanings.{pattern_of}
use Rattle.floyd_assert_laws.specs.Bare.{assertion_has_local}
use Rattle.floyd_assert_meaning.specs.Predicates.{Opened, arguments_of, called, chosen, opened, opened_by}
use Rattle.floyd_goal_forms.specs.Items.{CaseFits, CasesFit, FirstFits, PredBodyFits, PredFits, PredsFit}
use Rattle.floyd_goal_meaning.specs.declared.linked.Linked.{Linked}
use Rattle.floyd_goal_meaning.specs.declared.linked.Module.{Module}
use Rattle.floyd_goal_meaning.specs.Programs.{of_modules, preds_of, with_new}
use Rattle.floyd_links.specs.Links.{Links, ModulesLink}
use Rattle.floyd_links.proofs.Having.{apart_preds, pair_in, pair_of, pred_items, pred_name}
use Rattle.floyd_links.proofs.Unions as u

abbrev PredBare : Pred → Type 0
PredBare p = (ds : List Datum) (o : Opened) → opened p ds ≡ Some o → assertion_has_local o.body ≡ false

abbrev CaseBare : PredCase → Type 0
CaseBare c = assertion_has_local c.body ≡ false

abbrev opening : Bindings → PredCase → Bindings → Opened
opening arguments c own = record { bindings = own ++ arguments; body = c.body }

chosen_bare : (cases : List PredCase) (d : Datum) (arguments : Bindings) (o : Opened) → AllByRecursion CaseBare cases → chosen cases d arguments ≡ Some o → assertion_has_local o.body ≡ false
chosen_bare [] d arguments o h e = absurd cc
chosen_bare (c ∷ cases) d arguments o h e = by (chosen_bare cases d arguments o h.1) (parts (pattern_of c.pattern) d) e
  where
    by : (chosen cases d arguments ≡ Some o → assertion_has_local o.body ≡ false) → (p : Option Bindings) → option_or (option_map (opening arguments c) p) (chosen cases d arguments) ≡ Some o → assertion_has_local o.body ≡ false
    by go None q = go q
    by go (Some own) q = subst (λ (x : Opened). assertion_has_local x.body ≡ false) (same_Some (opening arguments c own) o q) h.0

each_bare : (P : PredCase → Type 0) → ((c : PredCase) → P c → CaseBare c) → (cases : List PredCase) → AllByRecursion P cases → AllByRecursion CaseBare cases
each_bare P k [] h = tt
each_bare P k (c ∷ cases) h = (k c h.0, each_bare P k cases h.1)

module _ (defs : Defs) (specs : SpecTable) (before : List (List ℕ × Pred)) (own : List ℕ) (p : Pred) where
  cases_bare : (s : Sort) (cases : List PredCase) → CasesFit defs specs before own p s cases → AllByRecursion CaseBare cases
  cases_bare (ListOf' q (more_of-Sort item end_of-Sort)) cases h = each_bare (CaseFits defs specs before own p (list_sort item) item) (λ c k. k.body.item.no_local) cases h.1
  cases_bare (TreeOf' q (more_of-Sort item end_of-Sort)) cases h = each_bare (CaseFits defs specs before own p (tree_sort item) item) (λ c k. k.body.item.no_local) cases h.1
  cases_bare s cases h = absurd h

  first_bare : (arguments : List Binder) (cases : List PredCase) → FirstFits defs specs before own p arguments cases → AllByRecursion CaseBare cases
  first_bare [] cases h = absurd h
  first_bare (b ∷ arguments) cases h = cases_bare b.sort cases h

  body_bare : (body : PredBody) (ds : List Datum) (arguments : Bindings) (o : Opened) → PredBodyFits defs specs before own p body → opened_by body ds arguments ≡ Some o → assertion_has_local o.body ≡ false
  body_bare (Whole a) ds arguments o h e = subst (λ (x : Opened). assertion_has_local x.body ≡ false) (same_Some (record { bindings = arguments; body = a }) o e) h.item.no_local
  body_bare (Cases cases) [] arguments o h e = absurd cc
  body_bare (Cases cases) (d ∷ ds) arguments o h e = chosen_bare cases d arguments o (first_bare p.arguments cases h) e

  pub pred_bare : PredFits defs specs before own p → PredBare p
  pred_bare h ds o e = body_bare p.body ds (arguments_of p ds) o h.body e

found_bare : (defs : Defs) (specs : SpecTable) (before preds : List (List ℕ × Pred)) (x : List ℕ) (p : Pred) → PredsFit defs specs before preds → lookup (bytes_eq x) preds ≡ Some p → PredBare p
found_bare defs specs before [] x p h e = absurd cc
found_bare defs specs before (q ∷ preds) x p h e = by (found_bare defs specs (before ++ q ∷ []) preds x p h.1) (bytes_eq x q.0) e
  where
    by : (lookup (bytes_eq x) preds ≡ Some p → PredBare p) → (t : Bool) → cond t (Some q.1) (lookup (bytes_eq x) preds) ≡ Some p → PredBare p
    by go true k = subst PredBare (same_Some q.1 p k) (pred_bare defs specs before q.0 q.1 h.0)
    by go false k = go k

-- each item of all modules is one of a module
union_from : (all : List (List ℕ × Pred)) (modules : List Module) → AllByRecursion (λ m. u.Apart pred_name (pred_items m)) modules → (P : List ℕ × Pred → Type 0) → ((x : List ℕ) (a : List ℕ × Pred) → u.named pred_name all x ≡ Some a → P a) → AllByRecursion (λ m. (x : List ℕ) (a : List ℕ × Pred) → u.named pred_name (pred_items m) x ≡ Some a → P a) modules →
    (x : List ℕ) (a : List ℕ × Pred) → u.named pred_name (of_modules pred_name pred_items all modules) x ≡ Some a → P a
union_from all [] apart P first each x a e = first x a e
union_from all (m ∷ modules) apart P first each x a e =
    union_from (with_new pred_name all (pred_items m)) modules apart.1 P (λ y b q. of_both y b (u.new_from pred_name all (pred_items m) apart.0 y b q)) each.1 x a e
  where
    of_both : (y : List ℕ) (b : List ℕ × Pred) → (u.named pred_name all y ≡ Some b) ⊎ (u.named pred_name (pred_items m) y ≡ Some b) → P b
    of_both y b (inl q) = first y b q
    of_both y b (inr q) = each.0 y b q

module _ (L : Linked) where
  each_module : (number : ℕ) (modules : List Module) → ModulesLink L number modules → AllByRecursion (λ m. (x : List ℕ) (a : List ℕ × Pred) → u.named pred_name (pred_items m) x ≡ Some a → PredBare a.1) modules
  each_module number [] h = tt
  each_module number (m ∷ modules) h = (
    λ x a e. found_bare m.defs m.specs [] m.defs.preds x a.1 h.0.items.preds (pair_in m.defs.preds x a e).0,
    each_module (number + 1) modules h.1,
  )

  preds_named : Links L → (x : List ℕ) (a : List ℕ × Pred) → u.named pred_name (preds_of L) x ≡ Some a → PredBare a.1
  preds_named links = union_from [] L.modules (apart_preds L 0 L.modules links.modules) (λ a. PredBare a.1) (λ x a e. absurd cc) (each_module 0 L.modules links.modules)

  pub preds_bare : Links L → (name : List ℕ) (ds : List Datum) (o : Opened) → called (preds_of L) name ds ≡ Some o → assertion_has_local o.body ≡ false
  preds_bare links name ds o e = by (lookup (bytes_eq name) (preds_of L)) refl e
    where
      by : (p : Option Pred) → lookup (bytes_eq name) (preds_of L) ≡ p → option_and_then (λ p. opened p ds) p ≡ Some o → assertion_has_local o.body ≡ false
      by None k q = absurd cc
      by (Some p) k q =
          let a = pair_of (preds_of L) name p k in
          subst PredBare a.2 (preds_named links name a.0 a.1) ds o q
