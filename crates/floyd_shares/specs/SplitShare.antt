-- `split_share k (s)` makes two parts of one, with shares s and what is left of the part's own.
use Rattle.std.specs.Prelude.{List, [], ◌∷◌, Result, Ok, pos}
use Rattle.floyd_text.specs.declared.refusal.No.{No}
use Rattle.floyd_tree_sorts.specs.declared.operators.Operator.TheVariants.{Sub}
use Rattle.floyd_tree.specs.Formulas.{PlainFormula}
use Rattle.floyd_tree.specs.Plain.{Plain}
use Rattle.floyd_assert_trees.specs.declared.sep.Sep.{Sep}
use Rattle.floyd_fieldpath.specs.Nested.{literal}
use Rattle.floyd_fieldpath.specs.Sums.{plus}
use Rattle.floyd_fieldpath.specs.Written.{on_ok}
use Rattle.floyd_folding.specs.Folding.{folded}
use Rattle.floyd_goal_trees.specs.declared.args.Args.{Args}
use Rattle.floyd_goal_trees.specs.declared.goal.Goal.{Goal}
use Rattle.floyd_goal_parts.specs.declared.placing.Plan.{Plan}
use Rattle.floyd_goal_parts.specs.Rows.{Answer, InPlaceUnder}
use Rattle.floyd_goal_parts.specs.Sources.{part_number}
use Rattle.floyd_goal_plans.specs.Plans.{first_term, planned}
use Rattle.floyd_goal_parts.specs.Writing.{all_written, at_most}
use Rattle.floyd_shares.specs.Shares.{share_of, with_share}

-- `1 <= s` and `s + 1 <= sh`, where the sum is `next`
abbrev pub between : Plain → Plain → Plain → Plain → Result (List PlainFormula) No
between one s share next = all_written (at_most one s ∷ at_most next share ∷ [])

abbrev pub bounds_by : Plain → Plain → Plain → Result (List PlainFormula) No
bounds_by one s share = on_ok (plus s one) (between one s share)

abbrev pub bounds : Plain → Plain → Result (List PlainFormula) No
bounds s share = bounds_by (literal (pos 1)) s share

-- the part with one share, and with another
abbrev pub both_shares : Sep → Plain → Plain → Result (List Sep) No
both_shares part s rest = Ok (with_share part s ∷ with_share part rest ∷ [])

-- with s, and with the share less s
abbrev pub halves : Sep → Plain → Plain → Result (List Sep) No
halves part s share = on_ok (folded Sub share s) (both_shares part s)

abbrev pub with_shares : Plain → Sep → Plain → Result Plan No
with_shares s part share = planned (bounds s share) (halves part s share)

abbrev pub split_part : Sep → Plain → Result Plan No
split_part part s = on_ok (share_of part) (with_shares s part)

abbrev pub split : List Plain → Sep → Result Plan No
split terms part = on_ok (first_term terms) (split_part part)

abbrev pub Row : Goal → Args → Answer → Type 0
Row goal args = InPlaceUnder goal (part_number args.target) (split args.terms)
