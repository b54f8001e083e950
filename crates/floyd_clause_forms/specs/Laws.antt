-- When the clause of a predicate is well formed.
use Rattle.std.specs.Prelude.{◌≡◌, ◌+◌, ◌<◌, ◌^◌, ℕ, List, [], Some, Ok, bytes_eq}
use Rattle.std.specs.List.{AllByRecursion}
use Rattle.std.specs.Map.{lookup}
use Rattle.floyd_tree.specs.Plain.{Plain}
use Rattle.floyd_tree_values.specs.Rules.{Scope}
use Rattle.floyd_truth.specs.Laws.{nodes}
use Rattle.floyd_assert_trees.specs.declared.assertion.Assertion.{Assertion}
use Rattle.floyd_assert_trees.specs.declared.items.Defs.{Defs}
use Rattle.floyd_assert_trees.specs.declared.items.Pred.{Pred}
use Rattle.floyd_assert_trees.specs.declared.spec.SpecTable.{SpecTable}
use Rattle.floyd_assert_laws.specs.InChanged.{body_nodes}
use Rattle.floyd_clauses.specs.Clauses as clauses
use Rattle.floyd_clauses.specs.Clauses.{Opening, clause_of}
use Rattle.floyd_entail_predicates.specs.Fold as fold
use Rattle.floyd_goal_forms.specs.Assertions.{AssertionFits, PredicatesOf}
use Rattle.floyd_goal_forms.specs.Items.{PredsFit}
use Rattle.floyd_goal_trees.specs.declared.args.Args.{Args}
use Rattle.floyd_formed_pure.specs.Rows.{GivenTerm}

-- fewer than 2 ^ 63 nodes stand in what the clause of a predicate is made of, and in the clause beside so many others
pub record HasFewNodes (defs : Defs) (name : List ℕ) (terms : List Plain) (others : ℕ) : Type 0 where
  pub opened : (p : Pred) (o : Opening) → lookup (bytes_eq name) defs.preds ≡ Some p → clauses.opened p terms ≡ Ok o → nodes o.0 + body_nodes o.1 < 2 ^ 63
  pub clause : (a : Assertion) → clause_of defs name terms ≡ Ok a → others + body_nodes a < 2 ^ 63

-- the terms are well formed, each of some sort
abbrev pub AreGiven : Defs → Scope → List Plain → Type 0
AreGiven defs scope terms = AllByRecursion (GivenTerm defs scope) terms

-- Where the PREDs are well formed, the clause of one of them is so in each scope in which its terms are.
abbrev pub ClausesAreWellFormed : Type 0
ClausesAreWellFormed =
    (defs : Defs) (specs : SpecTable) (scope : Scope) (name : List ℕ) (terms : List Plain) (others : ℕ) (clause : Assertion) → PredsFit defs specs [] defs.preds →
    PredicatesOf defs scope name terms → HasFewNodes defs name terms others → clause_of defs name terms ≡ Ok clause →
    AssertionFits defs specs scope clause

-- There `fold` may be tried with any terms that are well formed.
abbrev pub FoldsAreMade : Type 0
FoldsAreMade =
    (defs : Defs) (specs : SpecTable) (scope : Scope) (args : Args) (others : ℕ) → PredsFit defs specs [] defs.preds → AreGiven defs scope args.terms →
    HasFewNodes defs args.name args.terms others → fold.SortsAgree defs args
