-- What the clause of a predicate says.
use Rattle.std.specs.Prelude.{◌≡◌, ◌↔◌, ◌+◌, ◌<◌, ◌^◌, ℕ, List, [], ◌∷◌, Some, Ok, bytes_eq}
use Rattle.std.specs.Map.{lookup}
use Rattle.floyd_clight_heap.specs.Heaplet.{Heaplet}
use Rattle.floyd_tree_sorts.specs.declared.sorts.Sort.{Sort}
use Rattle.floyd_tree.specs.Plain.{Plain}
use Rattle.floyd_tree_values.specs.BuiltIns.{Env}
use Rattle.floyd_tree_values.specs.Means as values
use Rattle.floyd_tree_values.specs.Rules.{CallsOf, DefsKeep, Fits, Scope, Suits}
use Rattle.floyd_truth.specs.Laws.{nodes}
use Rattle.floyd_assert_trees.specs.declared.assertion.Assertion.{Assertion}
use Rattle.floyd_assert_trees.specs.declared.items.Defs.{Defs}
use Rattle.floyd_assert_trees.specs.declared.items.Pred.{Pred}
use Rattle.floyd_assert_trees.specs.declared.sep.Sep.TheVariants.{Predicate}
use Rattle.floyd_assert_trees.specs.declared.spec.SpecTable.{SpecTable}
use Rattle.floyd_assert_meaning.specs.Parts.{BodyHolds, PartHolds}
use Rattle.floyd_assert_meaning.specs.Settings.{Setting}
use Rattle.floyd_assert_laws.specs.InChanged.{body_nodes}
use Rattle.floyd_clauses.specs.Clauses.{Opening, TakesTerms, clause_in, opened}
use Rattle.floyd_goal_forms.specs.Items.{PredsFit, sorts_with}

-- a term for each sort, which has a value
abbrev pub AllFit : values.Defs → Scope → List Sort → List Plain → Type 0
AllFit defs scope [] [] = Unit {0}
AllFit defs scope [] (t ∷ ts) = ⊥
AllFit defs scope (s ∷ sorts) [] = ⊥
AllFit defs scope (s ∷ sorts) (t ∷ ts) = Fits defs.structs scope (CallsOf defs.funs) s t × AllFit defs scope sorts ts

-- The PRED of this name is that of the setting, and the PREDs are well formed. The terms are of its arguments' sorts, where
-- the FUNs keep their rules and each variable has a datum of its sort. There are fewer than 2 ^ 63 nodes where terms are put.
pub record ClauseFits (S : Setting) (env : Env) (name : List ℕ) (p : Pred) (terms : List Plain) : Type 0 where
  pub defs : Defs
  pub specs : SpecTable
  pub preds : PredsFit defs specs [] defs.preds
  pub own : lookup (bytes_eq name) defs.preds ≡ Some p
  pub there : lookup (bytes_eq name) S.preds ≡ Some p
  pub keeps : DefsKeep S.defs
  pub scope : Scope
  pub suits : Suits scope env
  pub terms_fit : AllFit S.defs scope (sorts_with p.arguments) terms
  pub small : (o : Opening) → opened p terms ≡ Ok o → nodes o.0 + body_nodes o.1 < 2 ^ 63

-- A predicate holds of a heaplet exactly where its clause does.
abbrev pub PredicatesAreClauses : Type 0
PredicatesAreClauses =
    (S : Setting) (env : Env) (name : List ℕ) (p : Pred) (terms : List Plain) (a : Assertion) → ClauseFits S env name p terms → clause_in p terms ≡ Ok a →
    (h : Heaplet) → PartHolds S env (Predicate name terms) h ↔ BodyHolds S env a h

-- A clause may be asked for at any terms where the PREDs are well formed.
abbrev pub ClausesAreMade : Type 0
ClausesAreMade = (defs : Defs) (specs : SpecTable) (name : List ℕ) (terms : List Plain) → PredsFit defs specs [] defs.preds → TakesTerms defs name terms
