-- `forward` on an assignment to memory: the part that has the object is updated in place.
use Rattle.std.specs.Prelude.{ℕ, List, [], ◌∷◌, ◌++◌, pos, Result, Ok}
use Rattle.floyd_text.specs.declared.refusal.No.{No}
use Rattle.floyd_ctypes.specs.declared.ctype.CType.{CType}
use Rattle.floyd_ctypes.specs.Structs.{Structs}
use Rattle.floyd_clight.specs.declared.syntax.Expr.{Expr}
use Rattle.floyd_clight.specs.Types.{type_of}
use Rattle.floyd_tree.specs.Formulas.{PlainFormula}
use Rattle.floyd_tree.specs.Plain.{Plain}
use Rattle.floyd_assert_trees.specs.declared.assertion.Assertion.{Assertion}
use Rattle.floyd_assert_trees.specs.declared.sep.Region.{Region}
use Rattle.floyd_assert_trees.specs.declared.sep.Sep.{Sep}
use Rattle.floyd_fieldpath.specs.Nested.{literal, sized_type}
use Rattle.floyd_fieldpath.specs.Written.{on_ok}
use Rattle.floyd_goal_trees.specs.declared.context.Context.{Context}
use Rattle.floyd_goal_trees.specs.declared.goal.Run.{Run}
use Rattle.floyd_goal_parts.specs.Rows.{Answer, OfResult}
use Rattle.floyd_goal_parts.specs.Sources.{in_place, with_parts}
use Rattle.floyd_goal_runs.specs.Needing.{Needing}
use Rattle.floyd_symexpr_paths.specs.declared.location.Located.{Located}
use Rattle.floyd_symexpr_rows.specs.declared.needs.Needs.{Needs}
use Rattle.floyd_symexpr_rows.specs.Formulas.{equal, of_type, saying}
use Rattle.floyd_symexpr.specs.declared.evaluation.Evaluated.{Evaluated}
use Rattle.floyd_symexpr.specs.Expressions.{evaluate}
use Rattle.floyd_symexpr.specs.Locate.{locate}
use Rattle.floyd_forward.specs.declared.assigning.Stored.{Stored}
use Rattle.floyd_forward.specs.Objects.{part_with, region_at}
use Rattle.floyd_forward.specs.Set.{runs_on}

-- the value has the object's type, and the part is had whole
abbrev pub may_store : CType → Plain → Region → List PlainFormula
may_store t v region = of_type (sized_type t) v ∷ equal region.share (literal (pos 16)) ∷ []

-- what the place needs, then what the value needs, and then that it may be stored
abbrev pub store_needs : CType → Located → Evaluated → Region → Result Needs No
store_needs t l v region =
    on_ok (saying (l.sides ++ v.sides) (may_store t v.term region)) (λ sides. Ok (record { sides = sides; valid = l.valid ++ v.valid }))

abbrev pub stored : Assertion → Structs → CType → Located → Evaluated → Result Stored No
stored source structs t l v =
    on_ok (region_at source.parts l.part) (λ part.
    on_ok (part_with structs l.path v.term part) (λ new.
    on_ok (store_needs t l v part.0) (λ needs. Ok (record { number = l.part; part = new; needs = needs }))))

abbrev pub assigned : Assertion → Structs → Expr → Expr → Result Stored No
assigned source structs p e =
    on_ok (locate source structs p) (λ l. on_ok (evaluate source structs e) (stored source structs (type_of p) l))

-- the goals behind Side: the part is that of the number
abbrev pub part_set : Run → ℕ → Sep → Context → Answer
part_set run k part context = Ok (runs_on run context (with_parts run.source (in_place k (part ∷ []) run.source.parts)) ∷ [])

abbrev pub AssignsTo : Run → Stored → Answer → Type 0
AssignsTo run s = Needing run.context run.source s.needs (part_set run s.number s.part)

abbrev pub Assigns : Structs → Run → Expr → Expr → Answer → Type 0
Assigns structs run p e = OfResult (assigned run.source structs p e) (AssignsTo run)
