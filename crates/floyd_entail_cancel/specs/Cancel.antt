-- `cancel` closes an Entail goal whose target's parts are those of its source; what is left is the target's PROP and the
-- equality of the temporaries.
use Rattle.std.specs.Prelude.{◌≡◌, ◌⊎◌, ℕ, ◌+◌, ◌-◌, nat_le, Bool, true, false, List, [], ◌∷◌, ◌++◌, if◌then◌else◌, bytes_eq, Option, Some, None, is_some, Result, Ok, Err}
use Rattle.std.specs.List.{list_any}
use Rattle.floyd_text.specs.declared.code.Code.TheVariants as c
use Rattle.floyd_text.specs.declared.refusal.No.{No}
use Rattle.floyd_text.specs.declared.refusal.Shown.TheVariants as s
use Rattle.floyd_tree.specs.Formulas.{PlainFormula}
use Rattle.floyd_tree.specs.Plain.{Plain}
use Rattle.floyd_assert.specs.Removal.{Difference, missing}
use Rattle.floyd_assert_trees.specs.declared.assertion.Local.{Local}
use Rattle.floyd_assert_trees.specs.declared.sep.Sep.{Sep}
use Rattle.floyd_assert_trees.specs.declared.sep.Sep.TheVariants.{FieldAt, Padding, Valid, Anything, Predicate}
use Rattle.floyd_goal_trees.specs.declared.context.Context.{Context}
use Rattle.floyd_goal_trees.specs.declared.goal.Entail as e
use Rattle.floyd_goal_trees.specs.declared.goal.Goal.{Goal}
use Rattle.floyd_goal_trees.specs.declared.goal.Goal.TheVariants.{Run, Entail, Pure}
use Rattle.floyd_goal.specs.Goals.{intros_first, refusal, some_left, wrong_goal}
use Rattle.floyd_goal_parts.specs.Rows.{Answer, OfResult, Sided, Unless}
use Rattle.floyd_goal_parts.specs.Writing.{all_written, equation}

-- the target has existentials
abbrev pub exists_first : No
exists_first = refusal c.ExistsFirst

-- the source says nothing of that temporary
abbrev pub local_missing : List ℕ → No
local_missing x = record { code = c.LocalMissing; shown = s.Name x }

-- the part of that number is left
abbrev pub part_left : ℕ → No
part_left k = record { code = c.PartLeft; shown = s.Part k }

-- the value of a temporary
abbrev pub value_of : List Local → List ℕ → Option Plain
value_of [] x = None
value_of (l ∷ locals) x = if bytes_eq x l.name then Some l.term else value_of locals x

-- the first of the target's temporaries of which the source says nothing
abbrev pub first_missing : List Local → List Local → Option (List ℕ)
first_missing source [] = None
first_missing source (l ∷ target) = if is_some (value_of source l.name) then first_missing source target else Some l.name

abbrev pub equation_to : Option Plain → Plain → List PlainFormula
equation_to None t = []
equation_to (Some v) t = equation v t ∷ []

-- the values of the target's temporaries in the source are those in the target
abbrev pub equations : List Local → List Local → List PlainFormula
equations source [] = []
equations source (l ∷ target) = equation_to (value_of source l.name) l.term ++ equations source target

abbrev pub is_anything : Sep → Bool
is_anything (FieldAt region value) = false
is_anything (Padding region) = false
is_anything (Valid address) = false
is_anything Anything = true
is_anything (Predicate name terms) = false

-- the parts but TT
abbrev pub solid : List Sep → List Sep
solid [] = []
solid (p ∷ parts) = if is_anything p then solid parts else (p ∷ solid parts)

-- the number among all of these parts of the one that has this number among those but TT
abbrev pub number_among : List Sep → ℕ → ℕ
number_among [] k = k
number_among (p ∷ parts) k =
    if is_anything p then number_among parts k + 1
    else if nat_le k 1 then 1
    else number_among parts (k - 1) + 1

-- whether none is left, or the target has TT
abbrev pub is_done : List Sep → List Sep → Bool
is_done [] target = true
is_done (p ∷ rest) target = list_any is_anything target

-- k is the number of the first part of the source that is left: of the first that the target lacks
abbrev pub IsFirstLeft : List Sep → List Sep → ℕ → Type 0
IsFirstLeft source target k = Difference target 1 source (Err (missing k))

-- the goal of the side formulas, if there is one
abbrev pub closed : List PlainFormula → List Goal
closed kept = []

abbrev pub IsSided : Context → List PlainFormula → List PlainFormula → Answer → Type 0
IsSided context props fs = Sided context (props ++ fs) closed

-- PROP, and then the equations
abbrev pub Closes : e.Entail → Answer → Type 0
Closes entail = OfResult (all_written (equations entail.source.locals entail.target.locals)) (IsSided entail.context entail.target.props)

abbrev pub WhenDone : e.Entail → Bool → Answer → Type 0
WhenDone entail true answer = Closes entail answer
WhenDone entail false answer = (k : ℕ) × IsFirstLeft entail.source.parts entail.target.parts k × (answer ≡ Err (part_left k))

-- nothing may be left, unless the target has TT
abbrev pub LeavesNone : e.Entail → List Sep → Answer → Type 0
LeavesNone entail rest = WhenDone entail (is_done rest entail.target.parts)

-- The target's parts but TT are taken out of the source's, and these are left; or the part of that number is missing, which
-- is told by its number in the target.
abbrev pub TakesParts : e.Entail → Answer → Type 0
TakesParts entail answer =
    ((rest : List Sep) × Difference entail.source.parts 1 (solid entail.target.parts) (Ok rest) × LeavesNone entail rest answer)
    ⊎ ((n : ℕ) × Difference entail.source.parts 1 (solid entail.target.parts) (Err (missing n)) × (answer ≡ Err (missing (number_among entail.target.parts n))))

abbrev pub UnlessMissing : Option (List ℕ) → (Answer → Type 0) → Answer → Type 0
UnlessMissing None Next answer = Next answer
UnlessMissing (Some x) Next answer = answer ≡ Err (local_missing x)

abbrev pub TakesLocals : e.Entail → Answer → Type 0
TakesLocals entail answer = UnlessMissing (first_missing entail.source.locals entail.target.locals) (TakesParts entail) answer

abbrev pub OfTarget : e.Entail → Answer → Type 0
OfTarget entail answer = Unless (some_left entail.target.existentials) exists_first (TakesLocals entail) answer

abbrev pub OfEntail : e.Entail → Answer → Type 0
OfEntail entail answer = Unless (some_left entail.source.existentials) intros_first (OfTarget entail) answer

-- the command takes no arguments
abbrev pub Row : Goal → Answer → Type 0
Row (Run run) answer = answer ≡ Err wrong_goal
Row (Entail entail) answer = OfEntail entail answer
Row (Pure pure) answer = answer ≡ Err wrong_goal
