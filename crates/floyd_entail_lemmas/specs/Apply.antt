-- `apply L (ts)` uses a lemma that is proved.
use Rattle.std.specs.Prelude.{◌≡◌, ℕ, ◌==◌, ◌&&◌, not, Bool, false, length, List, [], ◌∷◌, ◌++◌, Option, Some, None, Result, Ok, Err, bytes_eq}
use Rattle.std.specs.Map.{lookup}
use Rattle.floyd_text.specs.declared.code.Code.TheVariants as c
use Rattle.floyd_text.specs.declared.refusal.No.{No}
use Rattle.floyd_text.specs.declared.refusal.Shown.TheVariants.{Name}
use Rattle.floyd_tree.specs.Plain.{Plain}
use Rattle.floyd_truth.specs.Replace.{puts}
use Rattle.floyd_assert.specs.Removal.{Difference}
use Rattle.floyd_assert_trees.specs.declared.assertion.Assertion.{Assertion}
use Rattle.floyd_assert_trees.specs.declared.items.Defs.{Defs}
use Rattle.floyd_assert_trees.specs.declared.items.Lemma.{Lemma}
use Rattle.floyd_assert_trees.specs.declared.sep.Sep.{Sep}
use Rattle.floyd_assert_changes.specs.Apart.{set_apart}
use Rattle.floyd_assert_changes.specs.Changed.{AssertionSortsAgree, assertion_with, has_name}
use Rattle.floyd_assert_instances.specs.Instances.{taken}
use Rattle.floyd_fieldpath.specs.Written.{on_ok}
use Rattle.floyd_goal_trees.specs.declared.args.Args.{Args}
use Rattle.floyd_goal_trees.specs.declared.goal.Goal.{Goal}
use Rattle.floyd_goal_trees.specs.declared.goal.Goal.TheVariants as g
use Rattle.floyd_goal.specs.declared.side_goals.Sides.{Sides}
use Rattle.floyd_goal.specs.Goals.{in_context, enriched, intros_first, is_pending, wrong_goal}
use Rattle.floyd_goal.specs.Rows.{Unless}
use Rattle.floyd_goal.specs.Sides.{Side, context_of}
use Rattle.floyd_goal_parts.specs.Rows.{Answer, OfResult, after_side}
use Rattle.floyd_goal_parts.specs.Sources.{source_of}
use Rattle.floyd_entail_predicates.specs.Settling.{settled}

abbrev pub not_proved : List ℕ → No
not_proved name = record { code = c.NotYetProved; shown = Name name }

-- it says nothing of memory, and nothing of unnamed data
abbrev pub is_plain : Assertion → Bool
is_plain a = (length a.existentials == 0) && (length a.parts == 0)

-- on a Pure goal a lemma speaks of formulas alone
abbrev pub is_beyond : Goal → Lemma → Bool
is_beyond (g.Pure pure) l = not (is_plain l.left && is_plain l.right)
is_beyond (g.Run run) l = false
is_beyond (g.Entail entail) l = false

-- the parts that are left, and behind them those of the right side, whose existentials stand over all of it
abbrev pub used_source : Assertion → Assertion → List Sep → Assertion
used_source source right rest = record { existentials = right.existentials; props = source.props ++ right.props; locals = source.locals; parts = rest ++ right.parts }

abbrev pub used : Goal → Assertion → Assertion → Sides → Result (List Sep) No → Answer
used goal source right sides (Err why) = Err why
used goal source right sides (Ok rest) = Ok (after_side sides.goal (settled goal sides.kept (used_source source right rest) ∷ []))

-- the left side's parts are taken out of the source's
abbrev pub Removes : Goal → Assertion → List Sep → Assertion → Sides → Answer → Type 0
Removes goal source parts right sides answer = (rest : Result (List Sep) No) × Difference source.parts 1 parts rest × (answer ≡ used goal source right sides rest)

abbrev pub RemovesFrom : Goal → List Sep → Assertion → Sides → Assertion → Answer → Type 0
RemovesFrom goal parts right sides source = Removes goal source parts right sides

-- the right side's formulas are hypotheses
abbrev pub IsConcluded : Goal → Assertion → Sides → Answer → Type 0
IsConcluded goal right sides answer = answer ≡ Ok (after_side sides.goal (in_context goal (enriched (context_of goal) (sides.kept ++ right.props)) ∷ []))

abbrev pub AppliesSides : Goal → Assertion → Assertion → Sides → Answer → Type 0
AppliesSides (g.Pure pure) left right sides = IsConcluded (g.Pure pure) right sides
AppliesSides (g.Run run) left right sides = OfResult (source_of (g.Run run)) (RemovesFrom (g.Run run) left.parts right sides)
AppliesSides (g.Entail entail) left right sides = OfResult (source_of (g.Entail entail)) (RemovesFrom (g.Entail entail) left.parts right sides)

-- the left side's formulas are side formulas
abbrev pub Applies : Goal → Assertion → Assertion → Answer → Type 0
Applies goal left right answer = (sides : Result Sides No) × Side (context_of goal) left.props sides × OfResult sides (AppliesSides goal left right) answer

-- the right side at the terms; an existential that has the name of a variable of the goal has a new one
abbrev pub right_at : Goal → Lemma → List (List ℕ × Plain) → Result Assertion No
right_at goal l by = on_ok (assertion_with by l.right) (set_apart (λ x. has_name x (context_of goal).variables))

abbrev pub AppliesLeft : Goal → Lemma → List (List ℕ × Plain) → Assertion → Answer → Type 0
AppliesLeft goal l by left = OfResult (right_at goal l by) (Applies goal left)

abbrev pub AppliesAt : Goal → Lemma → List (List ℕ × Plain) → Answer → Type 0
AppliesAt goal l by = OfResult (assertion_with by l.left) (AppliesLeft goal l by)

abbrev pub AppliesWith : Goal → Lemma → List (List ℕ × Plain) → Answer → Type 0
AppliesWith goal l by = Unless (is_beyond goal l) wrong_goal (AppliesAt goal l by)

-- the terms are as many as the variables of WITH and of their sorts
abbrev pub AppliesLemma : Goal → List Plain → Lemma → Answer → Type 0
AppliesLemma goal terms l = OfResult (taken l.with terms) (AppliesWith goal l)

-- a lemma that is proved
abbrev pub proved_one : Option (Unit {0}) → Option Lemma → List ℕ → Result Lemma No
proved_one None l name = Err (not_proved name)
proved_one (Some u) None name = Err (not_proved name)
proved_one (Some u) (Some l) name = Ok l

abbrev pub proved : Defs → List ℕ → Result Lemma No
proved defs name = proved_one (lookup (bytes_eq name) defs.proved) (lookup (bytes_eq name) defs.lemmas) name

abbrev pub AppliesNamed : Defs → Goal → Args → Answer → Type 0
AppliesNamed defs goal args = OfResult (proved defs args.name) (AppliesLemma goal args.terms)

abbrev pub Row : Defs → Goal → Args → Answer → Type 0
Row defs goal args = Unless (is_pending goal) intros_first (AppliesNamed defs goal args)

-- each free variable of a lemma that is one of WITH has the sort of its term
pub record SidesAgree (l : Lemma) (by : List (List ℕ × Plain)) : Type 0 where
  pub left : AssertionSortsAgree (puts by) l.left
  pub right : AssertionSortsAgree (puts by) l.right

abbrev pub TakesTerms : Lemma → List Plain → Type 0
TakesTerms l terms = (by : List (List ℕ × Plain)) → taken l.with terms ≡ Ok by → SidesAgree l by

abbrev pub SortsAgree : Defs → Args → Type 0
SortsAgree defs args = (l : Lemma) → proved defs args.name ≡ Ok l → TakesTerms l args.terms
