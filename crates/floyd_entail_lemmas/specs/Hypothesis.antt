-- `apply_ih (ts)` uses the lemma that is proved by induction, for a part of what the variable stood for.
use Rattle.std.specs.Prelude.{◌≡◌, ℕ, Bool, false, if◌then◌else◌, List, slice_get, Option, Some, None, Result, Ok, Err, bytes_eq}
use Rattle.std.specs.List.{list_any}
use Rattle.std.specs.Map.{lookup}
use Rattle.floyd_text.specs.declared.code.Code.TheVariants as c
use Rattle.floyd_text.specs.declared.refusal.No.{No}
use Rattle.floyd_tree_sorts.specs.declared.heads.Head.{Head}
use Rattle.floyd_tree_sorts.specs.declared.heads.Head.TheVariants.{Variable}
use Rattle.floyd_tree.specs.Plain.{Plain, head_of}
use Rattle.floyd_assert_trees.specs.declared.items.Defs.{Defs}
use Rattle.floyd_assert_trees.specs.declared.items.Lemma.{Lemma}
use Rattle.floyd_goal_trees.specs.declared.args.Args.{Args}
use Rattle.floyd_goal_trees.specs.declared.context.Mark.{Mark}
use Rattle.floyd_goal_trees.specs.declared.context.Mark.TheVariants as m
use Rattle.floyd_goal_trees.specs.declared.goal.Goal.{Goal}
use Rattle.floyd_goal.specs.Goals.{intros_first, is_pending, refusal}
use Rattle.floyd_goal.specs.Rows.{Unless}
use Rattle.floyd_goal.specs.Sides.{context_of}
use Rattle.floyd_goal_parts.specs.Rows.{Answer, OfResult}
use Rattle.floyd_entail_lemmas.specs.Apply.{AppliesLemma, TakesTerms}

-- there is no such hypothesis of an induction
abbrev pub bad_induction : No
bad_induction = refusal c.BadInduction

-- a variable that is a part
abbrev pub is_part : List (List ℕ) → Head → Bool
is_part parts (Variable x s) = list_any (bytes_eq x) parts
is_part parts head = false

abbrev pub part_by : List (List ℕ) → Option Plain → Bool
part_by parts None = false
part_by parts (Some t) = is_part parts (head_of t)

-- the term at that place
abbrev pub part_at : List (List ℕ) → List Plain → ℕ → Bool
part_at parts terms place = part_by parts (slice_get terms place)

abbrev pub lemma_or : Option Lemma → Result Lemma No
lemma_or None = Err bad_induction
lemma_or (Some l) = Ok l

abbrev pub hypothesis_by : Defs → Mark → List Plain → Result Lemma No
hypothesis_by defs m.Plain terms = Err bad_induction
hypothesis_by defs (m.Start name) terms = Err bad_induction
hypothesis_by defs (m.Induction name place parts) terms = if part_at parts terms place then lemma_or (lookup (bytes_eq name) defs.lemmas) else Err bad_induction

abbrev pub hypothesis : Defs → Goal → List Plain → Result Lemma No
hypothesis defs goal terms = hypothesis_by defs (context_of goal).mark terms

-- then as `apply`
abbrev pub AppliesHypothesis : Defs → Goal → Args → Answer → Type 0
AppliesHypothesis defs goal args = OfResult (hypothesis defs goal args.terms) (AppliesLemma goal args.terms)

abbrev pub Row : Defs → Goal → Args → Answer → Type 0
Row defs goal args = Unless (is_pending goal) intros_first (AppliesHypothesis defs goal args)

abbrev pub SortsAgree : Defs → Goal → Args → Type 0
SortsAgree defs goal args = (l : Lemma) → hypothesis defs goal args.terms ≡ Ok l → TakesTerms l args.terms
