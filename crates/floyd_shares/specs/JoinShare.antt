-- `join_share k j` makes one part of two that are equal but for their shares.
use Rattle.std.specs.Prelude.{◌≡◌, ◌⊎◌, List, [], ◌∷◌, Result, Ok, Err, pos}
use Rattle.floyd_text.specs.declared.refusal.No.{No}
use Rattle.floyd_tree.specs.Formulas.{PlainFormula}
use Rattle.floyd_tree.specs.Plain.{Plain}
use Rattle.floyd_assert_trees.specs.declared.assertion.Assertion.{Assertion}
use Rattle.floyd_assert_trees.specs.declared.sep.Sep.{Sep}
use Rattle.floyd_fieldpath.specs.Nested.{literal}
use Rattle.floyd_fieldpath.specs.Sums.{plus}
use Rattle.floyd_fieldpath.specs.Written.{on_ok}
use Rattle.floyd_goal_trees.specs.declared.args.Args.{Args}
use Rattle.floyd_goal_trees.specs.declared.goal.Goal.{Goal}
use Rattle.floyd_goal.specs.Goals.{wrong_goal}
use Rattle.floyd_goal_plans.specs.declared.joining.Pair.{Pair}
use Rattle.floyd_goal_parts.specs.declared.placing.Plan.{Plan}
use Rattle.floyd_goal_plans.specs.Joining.{IsJoinedUnder, pair_of, two_of}
use Rattle.floyd_goal_parts.specs.Rows.{Answer}
use Rattle.floyd_goal_parts.specs.Writing.{all_written, at_most}
use Rattle.floyd_shares.specs.Chains.{After, Then}
use Rattle.floyd_shares.specs.Shares.{share_of, with_share}

-- `a + b <= 16`, where s is the sum
abbrev pub at_most_whole : Plain → Result (List PlainFormula) No
at_most_whole s = all_written (at_most s (literal (pos 16)) ∷ [])

abbrev pub with_sum : Sep → Plain → List PlainFormula → Result Plan No
with_sum part s sides = Ok (record { sides = sides; new = with_share part s ∷ [] })

-- the part with that share, which is one
abbrev pub of_sum : Sep → Plain → Result Plan No
of_sum part s = on_ok (at_most_whole s) (with_sum part s)

-- the part with the sum of the shares
abbrev pub summed : Sep → Plain → Plain → Result Plan No
summed part a b = on_ok (plus a b) (of_sum part)

-- the parts are equal once the second has the share of the first
abbrev pub OfShares : Sep → Sep → Plain → Plain → Result Plan No → Type 0
OfShares p q a b plan = ((with_share q a ≡ p) × (plan ≡ summed p a b)) ⊎ (¬ (with_share q a ≡ p) × (plan ≡ Err wrong_goal))

abbrev pub WithShare : Sep → Sep → Plain → Result Plan No → Type 0
WithShare p q a = Then (share_of q) (OfShares p q a)

-- what becomes of both
abbrev pub IsPlan : Sep → Sep → Result Plan No → Type 0
IsPlan p q = Then (share_of p) (WithShare p q)

abbrev pub OfTwo : Goal → Pair → Assertion × Sep × Sep → Answer → Type 0
OfTwo goal pair found = After (IsPlan found.1 found.2) (IsJoinedUnder goal pair found.0)

abbrev pub Row : Goal → Args → Answer → Type 0
Row goal args = Then (two_of goal (pair_of args)) (OfTwo goal (pair_of args))
