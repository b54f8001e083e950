-- `facts k` adds what a part of memory says of its address, its value and its share to the hypotheses.
use Rattle.std.specs.Prelude.{◌≡◌, if◌then◌else◌, is_some, List, [], ◌∷◌, ◌++◌, map, Option, Some, None, Result, Ok, Err, pos}
use Rattle.std.specs.List.{flat_map}
use Rattle.floyd_text.specs.declared.refusal.No.{No}
use Rattle.floyd_ctypes.specs.Structs.{Structs}
use Rattle.floyd_tree_sorts.specs.declared.connectives.FormulaHead.TheVariants.{Compatible}
use Rattle.floyd_tree_sorts.specs.declared.connectives.StepShape.{StepShape}
use Rattle.floyd_tree_sorts.specs.declared.connectives.StepShape.TheVariants as s
use Rattle.floyd_tree_sorts.specs.declared.operators.Operator.TheVariants.{Len}
use Rattle.floyd_tree.specs.declared.paths.PathStep.{PathStep}
use Rattle.floyd_tree.specs.declared.paths.PathStep.TheVariants.{Field, Subscript}
use Rattle.floyd_tree.specs.Formulas.{PlainFormula, Says, NoFormula}
use Rattle.floyd_tree.specs.Plain.{Plain, plains}
use Rattle.floyd_tree.specs.Types.{SizedType}
use Rattle.floyd_assert_trees.specs.declared.assertion.Assertion.{Assertion}
use Rattle.floyd_assert_trees.specs.declared.sep.Region.{Region}
use Rattle.floyd_assert_trees.specs.declared.sep.Sep.{Sep}
use Rattle.floyd_assert_trees.specs.declared.sep.Sep.TheVariants.{FieldAt, Padding, Valid, Anything, Predicate}
use Rattle.floyd_assert_changes.specs.Changed.{step_terms}
use Rattle.floyd_fieldpath.specs.Nested.{literal, nested_type}
use Rattle.floyd_fieldpath.specs.Projections.{one}
use Rattle.floyd_fieldpath.specs.Sums.{literal_in}
use Rattle.floyd_fieldpath.specs.Written.{on_ok, written}
use Rattle.floyd_goal_trees.specs.declared.args.Args.{Args}
use Rattle.floyd_goal_trees.specs.declared.goal.Goal.{Goal}
use Rattle.floyd_goal.specs.Goals.{enriched, in_context, wrong_goal}
use Rattle.floyd_goal.specs.Sides.{context_of}
use Rattle.floyd_goal_plans.specs.Counts.{count_of}
use Rattle.floyd_goal_parts.specs.Rows.{Answer, OfResult}
use Rattle.floyd_goal_parts.specs.Sources.{part_number, part_of}
use Rattle.floyd_goal_parts.specs.Writing.{all_written, at_most, equation, is_pointer}

abbrev pub step_shape : PathStep → StepShape
step_shape (Field name) = s.Field name
step_shape (Subscript t) = s.Subscript

-- the sizes of the type, the subscripts of the path, and the root
abbrev pub compatible_terms : Region → List Plain
compatible_terms r = r.ty.sizes ++ (flat_map step_terms r.path ++ r.root ∷ [])

-- the root is a pointer that fits the type and the path
abbrev pub compatible : Region → PlainFormula
compatible r = Says (Compatible r.ty.shape (map step_shape r.path)) (plains (compatible_terms r)) NoFormula

-- formulas, and behind them others
abbrev pub in_turn : Result (List PlainFormula) No → Result (List PlainFormula) No → Result (List PlainFormula) No
in_turn front back = on_ok front (λ fs. on_ok back (λ gs. Ok (fs ++ gs)))

abbrev pub address_facts : Region → Result (List PlainFormula) No
address_facts r = all_written (is_pointer r.root ∷ compatible r ∷ [])

-- the length is the number of elements, and that is not negative
abbrev pub count_facts : Plain → Plain → Result (List PlainFormula) No
count_facts n length = all_written (equation length n ∷ at_most (literal (pos 0)) n ∷ [])

-- of an array's value
abbrev pub length_facts : Plain → Option Plain → Result (List PlainFormula) No
length_facts v None = Ok []
length_facts v (Some n) = on_ok (written (one Len v)) (count_facts n)

abbrev pub share_bounds : Plain → Result (List PlainFormula) No
share_bounds share = all_written (at_most (literal (pos 1)) share ∷ at_most share (literal (pos 16)) ∷ [])

-- of a share that is no literal
abbrev pub share_facts : Plain → Result (List PlainFormula) No
share_facts share = if is_some (literal_in share) then Ok [] else share_bounds share

-- of the value at the region's path, which has that type, and of the share
abbrev pub value_facts : Region → Plain → SizedType → Result (List PlainFormula) No
value_facts r v t = in_turn (length_facts v (count_of t)) (share_facts r.share)

abbrev pub facts : Region → Plain → SizedType → Result (List PlainFormula) No
facts r v t = in_turn (address_facts r) (value_facts r v t)

abbrev pub facts_of : Structs → Sep → Result (List PlainFormula) No
facts_of structs (FieldAt region value) = on_ok (nested_type structs region.ty region.path) (facts region value)
facts_of structs (Padding region) = Err wrong_goal
facts_of structs (Valid address) = Err wrong_goal
facts_of structs Anything = Err wrong_goal
facts_of structs (Predicate name terms) = Err wrong_goal

-- the goal with these hypotheses more
abbrev pub HasMore : Goal → List PlainFormula → Answer → Type 0
HasMore goal fs answer = answer ≡ Ok (in_context goal (enriched (context_of goal) fs) ∷ [])

abbrev pub OfPart : Structs → Goal → Assertion × Sep → Answer → Type 0
OfPart structs goal found = OfResult (facts_of structs found.1) (HasMore goal)

abbrev pub Row : Structs → Goal → Args → Answer → Type 0
Row structs goal args = OfResult (part_of goal (part_number args.target)) (OfPart structs goal)
