-- `split_array k (m)` makes two arrays of one, the first with m elements.
use Rattle.std.specs.Prelude.{List, [], ◌∷◌, Result, Ok, pos}
use Rattle.floyd_text.specs.declared.refusal.No.{No}
use Rattle.floyd_ctypes.specs.Structs.{Structs}
use Rattle.floyd_tree_sorts.specs.declared.operators.Operator.TheVariants.{Sub}
use Rattle.floyd_tree.specs.Formulas.{PlainFormula}
use Rattle.floyd_tree.specs.Plain.{Plain}
use Rattle.floyd_assert_trees.specs.declared.sep.Sep.{Sep}
use Rattle.floyd_fieldpath.specs.Nested.{literal}
use Rattle.floyd_fieldpath.specs.Written.{on_ok}
use Rattle.floyd_folding.specs.Folding.{folded}
use Rattle.floyd_goal_trees.specs.declared.args.Args.{Args}
use Rattle.floyd_goal_trees.specs.declared.goal.Goal.{Goal}
use Rattle.floyd_goal_parts.specs.declared.placing.Plan.{Plan}
use Rattle.floyd_goal_parts.specs.Rows.{Answer, InPlaceUnder}
use Rattle.floyd_goal_parts.specs.Sources.{part_number}
use Rattle.floyd_goal_plans.specs.Plans.{first_term, planned}
use Rattle.floyd_goal_parts.specs.Writing.{all_written, at_most}
use Rattle.floyd_arrays.specs.declared.arrays.ArrayPart.{ArrayPart}
use Rattle.floyd_arrays.specs.Arrays.{array_of, behind, piece_at, slice}

-- the first m elements
abbrev pub front : Plain → Plain → ArrayPart → Result Sep No
front zero m a = on_ok (slice zero m a.value) (piece_at a m a.region.root)

-- the n others, from that address on
abbrev pub back_at : Plain → ArrayPart → Plain → Plain → Result Sep No
back_at m a n root = on_ok (slice m a.count a.value) (piece_at a n root)

abbrev pub back_of : Structs → Plain → ArrayPart → Plain → Result Sep No
back_of structs m a n = on_ok (behind structs a m) (back_at m a n)

-- the others
abbrev pub back : Structs → Plain → ArrayPart → Result Sep No
back structs m a = on_ok (folded Sub a.count m) (back_of structs m a)

abbrev pub two_parts : Result Sep No → Result Sep No → Result (List Sep) No
two_parts p q = on_ok p (λ x. on_ok q (λ y. Ok (x ∷ y ∷ [])))

-- `0 <= m` and `m <= n`
abbrev pub within : Plain → Plain → ArrayPart → Result (List PlainFormula) No
within zero m a = all_written (at_most zero m ∷ at_most m a.count ∷ [])

abbrev pub split_from : Structs → Plain → Plain → ArrayPart → Result Plan No
split_from structs zero m a = planned (within zero m a) (two_parts (front zero m a) (back structs m a))

abbrev pub split_at : Structs → Plain → ArrayPart → Result Plan No
split_at structs m a = split_from structs (literal (pos 0)) m a

abbrev pub split_part : Structs → Sep → Plain → Result Plan No
split_part structs part m = on_ok (array_of part) (split_at structs m)

abbrev pub split : Structs → List Plain → Sep → Result Plan No
split structs terms part = on_ok (first_term terms) (split_part structs part)

abbrev pub Row : Structs → Goal → Args → Answer → Type 0
Row structs goal args = InPlaceUnder goal (part_number args.target) (split structs args.terms)
