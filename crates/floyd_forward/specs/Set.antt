-- `forward` on a set: to an expression's term, or to what is read from memory.
use Rattle.std.specs.Prelude.{ℕ, Bool, true, false, ◌&&◌, List, [], ◌∷◌, ◌++◌, drop, Option, Some, None, is_some, slice_set, position, bytes_eq, Result, Ok}
use Rattle.floyd_text.specs.declared.refusal.No.{No}
use Rattle.floyd_ctypes.specs.declared.ctype.CType.{CType}
use Rattle.floyd_ctypes.specs.Structs.{Structs}
use Rattle.floyd_clight.specs.declared.syntax.Expr.{Expr}
use Rattle.floyd_clight.specs.Types.{type_of}
use Rattle.floyd_clight_typing.specs.Expressions.{is_place}
use Rattle.floyd_memval.specs.Chunks.{chunk_of}
use Rattle.floyd_tree_sorts.specs.declared.connectives.FormulaHead.TheVariants.{Defined}
use Rattle.floyd_tree.specs.Formulas.{PlainFormula, Says, NoFormula}
use Rattle.floyd_tree.specs.Plain.{Plain, Done, More}
use Rattle.floyd_assert_trees.specs.declared.assertion.Assertion.{Assertion}
use Rattle.floyd_assert_trees.specs.declared.assertion.Local.{Local}
use Rattle.floyd_fieldpath.specs.Nested.{sized_type}
use Rattle.floyd_fieldpath.specs.Written.{on_ok}
use Rattle.floyd_goal_formulas.specs.Keeping.{Kept}
use Rattle.floyd_goal_forms.specs.Starts.{run_goal}
use Rattle.floyd_goal_trees.specs.Contexts.{with_hypotheses}
use Rattle.floyd_goal_trees.specs.declared.context.Context.{Context}
use Rattle.floyd_goal_trees.specs.declared.goal.Goal.{Goal}
use Rattle.floyd_goal_trees.specs.declared.goal.Run.{Run}
use Rattle.floyd_goal_parts.specs.Rows.{Answer, OfResult}
use Rattle.floyd_goal_runs.specs.Needing.{Needing}
use Rattle.floyd_symexpr_paths.specs.declared.location.Located.{Located}
use Rattle.floyd_symexpr_rows.specs.declared.needs.Needs.{Needs}
use Rattle.floyd_symexpr_rows.specs.Formulas.{of_type, saying}
use Rattle.floyd_symexpr.specs.declared.evaluation.Evaluated.{Evaluated}
use Rattle.floyd_symexpr.specs.Expressions.{evaluate}
use Rattle.floyd_symexpr.specs.Locate.{locate}
use Rattle.floyd_forward.specs.Objects.{item_in, region_at}

-- a temporary that was there keeps its place, and one that was not goes last
abbrev pub put_local : Local → Option ℕ → List Local → List Local
put_local l (Some i) locals = slice_set locals i l
put_local l None locals = locals ++ l ∷ []

abbrev pub local_place : List ℕ → List Local → Option ℕ
local_place x locals = position (λ (l : Local). bytes_eq x l.name) locals

-- the assertion with x set to t
abbrev pub with_temp : List ℕ → Plain → Assertion → Assertion
with_temp x t a = record a { locals = put_local (record { name = x; term = t }) (local_place x a.locals) a.locals }

-- what is left runs behind the next statement, from that source
abbrev pub runs_on : Run → Context → Assertion → Goal
runs_on run context source = run_goal (record run { context = context; source = source; rest = drop 1 run.rest })

-- the goals behind Side: x is set to the term
abbrev pub set_to : Run → List ℕ → Plain → Context → Answer
set_to run x t context = Ok (runs_on run context (with_temp x t run.source) ∷ [])

-- an expression's term, and what it needs
abbrev pub needs_of : Evaluated → Needs
needs_of v = record { sides = v.sides; valid = v.valid }

abbrev pub SetsTerm : Run → List ℕ → Evaluated → Answer → Type 0
SetsTerm run x v = Needing run.context run.source (needs_of v) (set_to run x v.term)

-- From memory: the value of the object, which must be defined.

abbrev pub is_defined : Plain → PlainFormula
is_defined v = Says Defined (More v Done) NoFormula

abbrev pub read_needs : Located → Plain → Result Needs No
read_needs l v = on_ok (saying l.sides (is_defined v ∷ [])) (λ sides. Ok (record { sides = sides; valid = l.valid }))

abbrev pub read_at : Assertion → Structs → Located → Result (Plain × Needs) No
read_at source structs l =
    on_ok (region_at source.parts l.part) (λ part.
    on_ok (item_in structs l.path part) (λ v.
    on_ok (read_needs l v) (λ needs. Ok (v, needs))))

abbrev pub read_from : Assertion → Structs → Expr → Result (Plain × Needs) No
read_from source structs e = on_ok (locate source structs e) (read_at source structs)

-- That the value has its type is a hypothesis, unless Side drops it: that is judged under the hypotheses of the goal.
abbrev pub SetsWith : Run → List ℕ → Plain × Needs → List PlainFormula → Answer → Type 0
SetsWith run x v more = Needing run.context run.source v.1 (λ context. set_to run x v.0 (with_hypotheses context more))

abbrev pub SetsTyped : Run → List ℕ → Plain × Needs → List PlainFormula → Answer → Type 0
SetsTyped run x v typed answer = (more : List PlainFormula) × Kept run.context.hypotheses typed more × SetsWith run x v more answer

abbrev pub SetsRead : Run → List ℕ → CType → Plain × Needs → Answer → Type 0
SetsRead run x t v = OfResult (saying [] (of_type (sized_type t) v.0 ∷ [])) (SetsTyped run x v)

-- a number or a pointer in memory is read; an array or a function is not, but gives its address
abbrev pub is_read : Expr → Bool
is_read e = is_place e && is_some (chunk_of (type_of e))

abbrev pub SetsBy : Bool → Structs → Run → List ℕ → Expr → Answer → Type 0
SetsBy true structs run x e = OfResult (read_from run.source structs e) (SetsRead run x (type_of e))
SetsBy false structs run x e = OfResult (evaluate run.source structs e) (SetsTerm run x)

abbrev pub Sets : Structs → Run → List ℕ → Expr → Answer → Type 0
Sets structs run x e = SetsBy (is_read e) structs run x e
