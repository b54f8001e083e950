-- `join_array k j` makes one array of two, of which the second begins where the first ends.
use Rattle.std.specs.Prelude.{◌≡◌, ◌⊎◌, Bool, true, false, List, [], ◌∷◌, Option, Some, None, Result, Ok, Err}
use Rattle.floyd_text.specs.declared.refusal.No.{No}
use Rattle.floyd_ctypes.specs.Structs.{Structs}
use Rattle.floyd_tree_sorts.specs.declared.heads.Head.{Head}
use Rattle.floyd_tree_sorts.specs.declared.heads.Head.TheVariants.{Operator}
use Rattle.floyd_tree_sorts.specs.declared.operators.Operator.TheVariants.{Append, Sub}
use Rattle.floyd_tree.specs.Plain.{Plain}
use Rattle.floyd_assert_trees.specs.declared.assertion.Assertion.{Assertion}
use Rattle.floyd_assert_trees.specs.declared.sep.Sep.{Sep}
use Rattle.floyd_fieldpath.specs.Projections.{kid_under}
use Rattle.floyd_fieldpath.specs.Sums.{plus, two}
use Rattle.floyd_fieldpath.specs.Written.{on_ok, written}
use Rattle.floyd_goal_trees.specs.declared.args.Args.{Args}
use Rattle.floyd_goal_trees.specs.declared.goal.Goal.{Goal}
use Rattle.floyd_goal.specs.Goals.{wrong_goal}
use Rattle.floyd_goal_plans.specs.declared.joining.Pair.{Pair}
use Rattle.floyd_goal_plans.specs.Joining.{IsJoined, pair_of, two_of}
use Rattle.floyd_goal_parts.specs.Rows.{Answer}
use Rattle.floyd_shares.specs.Chains.{After, Then}
use Rattle.floyd_arrays.specs.declared.arrays.ArrayPart.{ArrayPart}
use Rattle.floyd_arrays.specs.Arrays.{array_of, behind, piece}

-- the second part has the share and the elements of the first, and begins where that ends
abbrev pub Meets : Structs → ArrayPart → ArrayPart → Sep → Type 0
Meets structs a b q = (root : Plain) × (behind structs a a.count ≡ Ok root) × (piece a b.count root b.value ≡ q)

abbrev pub is_difference : Head → Bool
is_difference (Operator Sub) = true
is_difference head = false

abbrev pub OfSides : Plain → Plain → Option Plain → Option Plain → Result Plain No → Type 0
OfSides m c (Some whole) (Some less) n = ((less ≡ m) × (n ≡ Ok whole)) ⊎ (¬ (less ≡ m) × (n ≡ plus m c))
OfSides m c (Some whole) None n = n ≡ plus m c
OfSides m c None less n = n ≡ plus m c

-- the number of elements of both: n, where the second has `n - m` and the first m, and else the sum
abbrev pub IsSum : Plain → Plain → Result Plain No → Type 0
IsSum m c n = OfSides m c (kid_under is_difference 0 c) (kid_under is_difference 1 c) n

abbrev pub both_at : ArrayPart → Plain → Plain → Result (List Sep) No
both_at a n v = Ok (piece a n a.region.root v ∷ [])

-- the array of n elements that has the values of both, one behind the other
abbrev pub both : ArrayPart → ArrayPart → Plain → Result (List Sep) No
both a b n = on_ok (written (two Append a.value b.value)) (both_at a n)

abbrev pub IsBoth : ArrayPart → ArrayPart → Plain → Result (List Sep) No → Type 0
IsBoth a b n new = new ≡ both a b n

abbrev pub IsUnion : ArrayPart → ArrayPart → Result (List Sep) No → Type 0
IsUnion a b = After (IsSum a.count b.count) (IsBoth a b)

abbrev pub Joins : Structs → Sep → ArrayPart → ArrayPart → Result (List Sep) No → Type 0
Joins structs q a b new = (Meets structs a b q × IsUnion a b new) ⊎ (¬ Meets structs a b q × (new ≡ Err wrong_goal))

abbrev pub WithSecond : Structs → Sep → ArrayPart → Result (List Sep) No → Type 0
WithSecond structs q a = Then (array_of q) (Joins structs q a)

-- what becomes of both
abbrev pub IsNew : Structs → Sep → Sep → Result (List Sep) No → Type 0
IsNew structs p q = Then (array_of p) (WithSecond structs q)

abbrev pub OfTwo : Structs → Goal → Pair → Assertion × Sep × Sep → Answer → Type 0
OfTwo structs goal pair found = After (IsNew structs found.1 found.2) (IsJoined goal pair found.0)

abbrev pub Row : Structs → Goal → Args → Answer → Type 0
Row structs goal args = Then (two_of goal (pair_of args)) (OfTwo structs goal (pair_of args))
