-- `fold P (ts) (us)` puts a predicate in place of the parts of its clause.
use Rattle.std.specs.Prelude.{◌≡◌, ℕ, List, [], ◌∷◌, ◌++◌, Result, Ok, Err}
use Rattle.floyd_text.specs.declared.refusal.No.{No}
use Rattle.floyd_tree.specs.Plain.{Plain}
use Rattle.floyd_truth.specs.Replace.{puts}
use Rattle.floyd_assert.specs.Removal.{Difference}
use Rattle.floyd_assert_trees.specs.declared.assertion.Assertion.{Assertion}
use Rattle.floyd_assert_trees.specs.declared.items.Defs.{Defs}
use Rattle.floyd_assert_trees.specs.declared.sep.Sep.{Sep}
use Rattle.floyd_assert_trees.specs.declared.sep.Sep.TheVariants.{Predicate}
use Rattle.floyd_assert_changes.specs.Changed.{AssertionSortsAgree, assertion_with}
use Rattle.floyd_assert_instances.specs.Instances.{taken}
use Rattle.floyd_clauses.specs.Clauses.{TakesTerms, clause_of}
use Rattle.floyd_goal_trees.specs.declared.args.Args.{Args}
use Rattle.floyd_goal_trees.specs.declared.goal.Goal.{Goal}
use Rattle.floyd_goal.specs.declared.side_goals.Sides.{Sides}
use Rattle.floyd_goal.specs.Goals.{enriched}
use Rattle.floyd_goal.specs.Sides.{Side, context_of}
use Rattle.floyd_goal_parts.specs.Rows.{Answer, OfResult, after_side}
use Rattle.floyd_goal_parts.specs.Sources.{from_source, source_of}

-- what stands below the existentials of a clause
abbrev pub below : Assertion → Assertion
below clause = record clause { existentials = [] }

-- the parts that are left, and behind them the predicate
abbrev pub folded_source : Args → Assertion → List Sep → Assertion
folded_source args source rest = record source { parts = rest ++ Predicate args.name args.terms ∷ [] }

abbrev pub folded : Goal → Args → Assertion → Sides → Result (List Sep) No → Answer
folded goal args source sides (Err why) = Err why
folded goal args source sides (Ok rest) =
    Ok (after_side sides.goal (from_source goal (enriched (context_of goal) sides.kept) (folded_source args source rest) ∷ []))

-- the clause's parts are taken out of the source's
abbrev pub Removes : Goal → Args → Assertion → List Sep → Sides → Answer → Type 0
Removes goal args source parts sides answer = (rest : Result (List Sep) No) × Difference source.parts 1 parts rest × (answer ≡ folded goal args source sides rest)

-- its PROP is a side formula
abbrev pub Folds : Goal → Args → Assertion → Assertion → Answer → Type 0
Folds goal args source clause answer =
    (sides : Result Sides No) × Side (context_of goal) clause.props sides × OfResult sides (Removes goal args source clause.parts) answer

-- with these terms for the clause's existentials
abbrev pub FoldsWith : Goal → Args → Assertion → Assertion → List (List ℕ × Plain) → Answer → Type 0
FoldsWith goal args source clause by = OfResult (assertion_with by (below clause)) (Folds goal args source)

abbrev pub FoldsClause : Goal → Args → Assertion → Assertion → Answer → Type 0
FoldsClause goal args source clause = OfResult (taken clause.existentials args.more) (FoldsWith goal args source clause)

abbrev pub FoldsFrom : Defs → Goal → Args → Assertion → Answer → Type 0
FoldsFrom defs goal args source = OfResult (clause_of defs args.name args.terms) (FoldsClause goal args source)

abbrev pub Row : Defs → Goal → Args → Answer → Type 0
Row defs goal args = OfResult (source_of goal) (FoldsFrom defs goal args)

-- each free occurrence of an existential of a clause has the sort of its term
abbrev pub ExistentialsAgree : Assertion → List Plain → Type 0
ExistentialsAgree clause terms = (by : List (List ℕ × Plain)) → taken clause.existentials terms ≡ Ok by → AssertionSortsAgree (puts by) (below clause)

-- the predicate's clause may be made, and terms be put in the place of its existentials
pub record SortsAgree (defs : Defs) (args : Args) : Type 0 where
  pub clause : TakesTerms defs args.name args.terms
  pub existentials : (clause : Assertion) → clause_of defs args.name args.terms ≡ Ok clause → ExistentialsAgree clause args.more
