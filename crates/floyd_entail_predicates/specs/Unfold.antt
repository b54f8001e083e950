-- `unfold k` puts the clause of a predicate in its place.
use Rattle.std.specs.Prelude.{◌≡◌, ℕ, [], ◌∷◌, ◌++◌, Ok}
use Rattle.floyd_assert_trees.specs.declared.assertion.Assertion.{Assertion}
use Rattle.floyd_assert_trees.specs.declared.items.Defs.{Defs}
use Rattle.floyd_assert_trees.specs.declared.sep.Sep.{Sep}
use Rattle.floyd_assert_changes.specs.Apart.{set_apart}
use Rattle.floyd_assert_changes.specs.Changed.{has_name}
use Rattle.floyd_clauses.specs.Clauses.{Unfolds, unfolded}
use Rattle.floyd_goal_trees.specs.declared.args.Args.{Args}
use Rattle.floyd_goal_trees.specs.declared.goal.Goal.{Goal}
use Rattle.floyd_goal.specs.Sides.{context_of}
use Rattle.floyd_goal_parts.specs.Rows.{Answer, OfResult}
use Rattle.floyd_goal_parts.specs.Sources.{in_place, part_number, part_of}
use Rattle.floyd_entail_predicates.specs.Settling.{settled}

-- The source with the parts of a clause in place of the part of that number, and with its PROP; the clause's existentials
-- stand over all of it. The source has none, and a clause says nothing of temporaries.
abbrev pub opened_source : ℕ → Assertion → Assertion → Assertion
opened_source k source clause = record {
  existentials = clause.existentials;
  props = source.props ++ clause.props;
  locals = source.locals;
  parts = in_place k clause.parts source.parts;
}

abbrev pub IsOpened : Goal → ℕ → Assertion → Assertion → Answer → Type 0
IsOpened goal k source clause answer = answer ≡ Ok (settled goal [] (opened_source k source clause) ∷ [])

-- an existential of the clause that has the name of a variable of the goal has a new one
abbrev pub Opens : Goal → ℕ → Assertion → Assertion → Answer → Type 0
Opens goal k source clause = OfResult (set_apart (λ x. has_name x (context_of goal).variables) clause) (IsOpened goal k source)

abbrev pub OpensPart : Defs → Goal → ℕ → Assertion × Sep → Answer → Type 0
OpensPart defs goal k found = OfResult (unfolded defs found.1) (Opens goal k found.0)

abbrev pub OpensAt : Defs → Goal → ℕ → Answer → Type 0
OpensAt defs goal k = OfResult (part_of goal k) (OpensPart defs goal k)

abbrev pub Row : Defs → Goal → Args → Answer → Type 0
Row defs goal args = OpensAt defs goal (part_number args.target)

-- the part that is named may be unfolded
abbrev pub SortsAgree : Defs → Goal → Args → Type 0
SortsAgree defs goal args = (found : Assertion × Sep) → part_of goal (part_number args.target) ≡ Ok found → Unfolds defs found.1
