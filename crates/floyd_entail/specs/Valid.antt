-- `valid k` makes a part of an Entail goal's source say only that its address is valid, where it has a byte at least;
-- `valid Hk` adds such a part for a value that is null or a function's start by a hypothesis.
use Rattle.std.specs.Prelude.{◌≡◌, ℕ, Bool, true, false, if◌then◌else◌, List, [], ◌∷◌, ◌++◌, slice_get, Option, Some, None, Result, Ok, Err, pos}
use Rattle.floyd_text.specs.declared.refusal.No.{No}
use Rattle.floyd_ctypes.specs.Structs.{Structs}
use Rattle.floyd_tree_sorts.specs.declared.connectives.FormulaHead.{FormulaHead}
use Rattle.floyd_tree_sorts.specs.declared.connectives.FormulaHead.TheVariants.{Equal, FuncPtr}
use Rattle.floyd_tree_sorts.specs.declared.heads.Head.{Head}
use Rattle.floyd_tree_sorts.specs.declared.heads.Head.TheVariants.{Operator}
use Rattle.floyd_tree_sorts.specs.declared.operators.Operator.TheVariants.{Nullval}
use Rattle.floyd_tree.specs.Formulas.{PlainFormula, form_of, terms_of}
use Rattle.floyd_tree.specs.Plain.{Plain, head_of}
use Rattle.floyd_tree.specs.Types.{SizedType}
use Rattle.floyd_assert_trees.specs.declared.sep.Region.{Region}
use Rattle.floyd_assert_trees.specs.declared.sep.Sep.{Sep}
use Rattle.floyd_assert_trees.specs.declared.sep.Sep.TheVariants.{FieldAt, Padding, Valid, Anything, Predicate}
use Rattle.floyd_fieldpath.specs.Addresses.{address, size_term}
use Rattle.floyd_fieldpath.specs.Nested.{literal, nested_type}
use Rattle.floyd_fieldpath.specs.Written.{on_ok}
use Rattle.floyd_goal_trees.specs.Contexts.{after_command}
use Rattle.floyd_goal_trees.specs.declared.args.Args.{Args}
use Rattle.floyd_goal_trees.specs.declared.args.Target as t
use Rattle.floyd_goal_trees.specs.declared.goal.Entail as e
use Rattle.floyd_goal_trees.specs.declared.goal.Goal.{Goal}
use Rattle.floyd_goal_trees.specs.declared.goal.Goal.TheVariants.{Run, Entail, Pure}
use Rattle.floyd_goal.specs.Goals.{hypothesis_at, intros_first, no_hypothesis, some_left, wrong_goal}
use Rattle.floyd_goal_parts.specs.declared.placing.Plan.{Plan}
use Rattle.floyd_goal_parts.specs.Rows.{Answer, InPlaceUnder, Unless}
use Rattle.floyd_goal_parts.specs.Sources.{with_parts}
use Rattle.floyd_goal_parts.specs.Writing.{all_written, at_most}

-- that there is a byte at least
abbrev pub one_at_least : Plain → Result (List PlainFormula) No
one_at_least bytes = all_written (at_most (literal (pos 1)) bytes ∷ [])

-- that an object of the type has one
abbrev pub some_byte : Structs → SizedType → Result (List PlainFormula) No
some_byte structs t = on_ok (size_term structs t.shape t.sizes) one_at_least

abbrev pub only_valid : Plain → List PlainFormula → Result Plan No
only_valid root sides = Ok (record { sides = sides; new = Valid root ∷ [] })

abbrev pub valid_at : Structs → SizedType → Plain → Result Plan No
valid_at structs t root = on_ok (some_byte structs t) (only_valid root)

abbrev pub valid_in : Structs → Region → SizedType → Result Plan No
valid_in structs region t = on_ok (address structs region.ty region.path region.root) (valid_at structs t)

abbrev pub valid_plan : Structs → Sep → Result Plan No
valid_plan structs (FieldAt region value) = on_ok (nested_type structs region.ty region.path) (valid_in structs region)
valid_plan structs (Padding region) = Err wrong_goal
valid_plan structs (Valid address) = Err wrong_goal
valid_plan structs Anything = Err wrong_goal
valid_plan structs (Predicate name terms) = Err wrong_goal

abbrev pub is_null : Head → Bool
is_null (Operator Nullval) = true
is_null head = false

abbrev pub is_null_term : Option Plain → Bool
is_null_term None = false
is_null_term (Some w) = is_null (head_of w)

-- the left side of an equation whose right side is null
abbrev pub null_value : List Plain → Option Plain
null_value ts = if is_null_term (slice_get ts 1) then slice_get ts 0 else None

-- the value that is null, or a function's start, by a formula of this head on these terms
abbrev pub valid_value : FormulaHead → List Plain → Option Plain
valid_value Equal ts = null_value ts
valid_value (FuncPtr name) ts = slice_get ts 0
valid_value head ts = None

abbrev pub value_by : Option PlainFormula → Option Plain
value_by None = None
value_by (Some h) = valid_value (form_of h) (terms_of h)

-- the goal with a part more, last
abbrev pub with_valid : e.Entail → Plain → Goal
with_valid entail v =
    Entail (record entail { context = after_command entail.context; source = with_parts entail.source (entail.source.parts ++ Valid v ∷ []) })

abbrev pub ByValue : e.Entail → ℕ → Option Plain → Answer → Type 0
ByValue entail k None answer = answer ≡ Err (no_hypothesis k)
ByValue entail k (Some v) answer = answer ≡ Ok (with_valid entail v ∷ [])

abbrev pub OfHypothesis : e.Entail → ℕ → Answer → Type 0
OfHypothesis entail k = ByValue entail k (value_by (hypothesis_at entail.context.hypotheses k))

abbrev pub ByHypothesis : e.Entail → ℕ → Answer → Type 0
ByHypothesis entail k answer = Unless (some_left entail.source.existentials) intros_first (OfHypothesis entail k) answer

-- the command always names a part or a hypothesis
abbrev pub ByTarget : Structs → e.Entail → t.Target → Answer → Type 0
ByTarget structs entail t.TheVariants.Nothing answer = answer ≡ Err wrong_goal
ByTarget structs entail (t.TheVariants.Part k) answer = InPlaceUnder (Entail entail) k (valid_plan structs) answer
ByTarget structs entail (t.TheVariants.Hypothesis k) answer = ByHypothesis entail k answer

abbrev pub Row : Structs → Goal → Args → Answer → Type 0
Row structs (Run run) args answer = answer ≡ Err wrong_goal
Row structs (Entail entail) args answer = ByTarget structs entail args.target answer
Row structs (Pure pure) args answer = answer ≡ Err wrong_goal
