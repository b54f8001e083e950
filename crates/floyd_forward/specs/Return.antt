-- `forward` on a return and at the function's end: the local variables that have blocks are given back whole, and the
-- postcondition holds of what is left and of the value.
use Rattle.std.specs.Prelude.{ℕ, ◌==◌, Bool, false, ◌&&◌, List, [], ◌∷◌, ◌++◌, length, drop, remove, position, pos, Option, Some, None, Result, Ok, Err}
use Rattle.std.specs.Option.{option_map_or}
use Rattle.std.specs.Ordering.{int_eq}
use Rattle.floyd_text.specs.declared.code.Code.TheVariants as c
use Rattle.floyd_text.specs.declared.refusal.No.{No}
use Rattle.floyd_text.specs.declared.refusal.Shown.TheVariants.{Name}
use Rattle.floyd_ctypes.specs.declared.ctype.CType.{CType}
use Rattle.floyd_ctypes.specs.Structs.{Structs}
use Rattle.floyd_clight.specs.declared.syntax.Expr.{Expr}
use Rattle.floyd_clight.specs.declared.unit.Local.{Local}
use Rattle.floyd_tree_sorts.specs.declared.heads.Head.TheVariants.{Lv}
use Rattle.floyd_tree.specs.Formulas.{PlainFormula}
use Rattle.floyd_tree.specs.Plain.{Plain, At, Done, mentions}
use Rattle.floyd_tree.specs.Types.{SizedType}
use Rattle.floyd_arith.specs.Same.{same_term}
use Rattle.floyd_assert_trees.specs.declared.assertion.Assertion.{Assertion}
use Rattle.floyd_assert_trees.specs.declared.sep.Region.{Region}
use Rattle.floyd_assert_trees.specs.declared.sep.Sep.{Sep}
use Rattle.floyd_assert_trees.specs.declared.sep.Sep.TheVariants.{FieldAt, Padding, Valid, Anything, Predicate}
use Rattle.floyd_assert_changes.specs.Apart.{set_apart}
use Rattle.floyd_fieldpath.specs.Nested.{sized_type}
use Rattle.floyd_fieldpath.specs.Sums.{literal_in}
use Rattle.floyd_fieldpath.specs.Written.{on_ok}
use Rattle.floyd_goal_changes.specs.Changed.{covering, first_term}
use Rattle.floyd_goal_trees.specs.declared.context.Context.{Context}
use Rattle.floyd_goal_trees.specs.declared.goal.Goal.TheVariants.{Entail}
use Rattle.floyd_goal_trees.specs.declared.goal.Run.{Run}
use Rattle.floyd_goal_parts.specs.Rows.{Answer, OfResult}
use Rattle.floyd_goal_parts.specs.Sources.{with_parts}
use Rattle.floyd_goal_runs.specs.Needing.{Needing}
use Rattle.floyd_symexpr_paths.specs.Same.{same_type}
use Rattle.floyd_symexpr_rows.specs.declared.needs.Needs.{Needs}
use Rattle.floyd_symexpr_rows.specs.Formulas.{equal, of_type, saying}
use Rattle.floyd_symexpr_rows.specs.Rows.{nothing_needed}
use Rattle.floyd_symexpr.specs.declared.evaluation.Evaluated.{Evaluated}
use Rattle.floyd_symexpr.specs.Expressions.{evaluate}

-- ---- local variables

-- the literal 16
abbrev pub is_full : Plain → Bool
is_full share = option_map_or (λ z. int_eq z (pos 16)) (literal_in share) false

-- data_at(16, t, v, root), for any v
abbrev pub is_object : SizedType → Plain → Region → Bool
is_object t root region =
    is_full region.share && (length region.path == 0 && (same_term region.root root && same_type region.ty t))

abbrev pub is_whole : SizedType → Plain → Sep → Bool
is_whole t root (FieldAt region v) = is_object t root region
is_whole t root (Padding region) = false
is_whole t root (Valid address) = false
is_whole t root Anything = false
is_whole t root (Predicate name terms) = false

abbrev pub block_not_whole : List ℕ → No
block_not_whole x = record { code = c.BlockNotWhole; shown = Name x }

abbrev pub without_at : List ℕ → List Sep → Option ℕ → Result (List Sep) No
without_at x parts (Some i) = Ok (remove parts i)
without_at x parts None = Err (block_not_whole x)

-- the parts without the first one that is the whole object of the variable
abbrev pub without_block : Local → List Sep → Result (List Sep) No
without_block b parts = without_at b.name parts (position (is_whole (sized_type b.ctype) (At (Lv b.name) Done)) parts)

-- the same for each of these variables, in order
abbrev pub without_blocks : List Local → List Sep → Result (List Sep) No
without_blocks [] parts = Ok parts
without_blocks (b ∷ blocks) parts = on_ok (without_block b parts) (without_blocks blocks)

-- ---- the postcondition of a value

-- the value is the term of RETURN
abbrev pub claim : Plain → Option Plain → List PlainFormula
claim v None = []
claim v (Some t) = equal v t ∷ []

abbrev pub with_claim : Assertion → List PlainFormula → Assertion
with_claim a fs = record a { props = a.props ++ fs; parts = drop 1 a.parts }

abbrev pub claimed : Plain → Assertion → Result Assertion No
claimed v a = on_ok (saying [] (claim v (first_term a.parts))) (λ fs. Ok (with_claim a fs))

-- The existentials of the postcondition stand over the value now: one that is free in it is renamed. The term of RETURN
-- stands below them, as one part more, the first one, would.
abbrev pub of_value : Plain → Assertion → Plain → Result Assertion No
of_value v post t = on_ok (set_apart (λ x. mentions x v) (covering post (Some t))) (claimed v)

-- without a value, or without a term of RETURN, it stays as it is
abbrev pub returned : Option Plain → Assertion → Option Plain → Result Assertion No
returned (Some v) post (Some t) = of_value v post t
returned v post t = Ok post

-- ---- the rows

-- the goals behind Side
abbrev pub given_back : Run → Option Plain → Context → Answer
given_back run v context =
    on_ok (without_blocks run.exits.ret.blocks run.source.parts) (λ parts.
    on_ok (returned v run.exits.ret.post run.exits.ret.value) (λ target.
    Ok (Entail (record { context = context; source = with_parts run.source parts; target = target }) ∷ [])))

abbrev pub GivesBack : Run → Option Plain → Needs → Answer → Type 0
GivesBack run v needs = Needing run.context run.source needs (given_back run v)

-- what the expression needs, and that its value has the result's type
abbrev pub result_needs : CType → Evaluated → Result (Plain × Needs) No
result_needs t v =
    on_ok (saying v.sides (of_type (sized_type t) v.term ∷ [])) (λ sides. Ok (v.term, record { sides = sides; valid = v.valid }))

abbrev pub result_of : Structs → Run → Expr → Result (Plain × Needs) No
result_of structs run e = on_ok (evaluate run.source structs e) (result_needs run.exits.ret.result)

abbrev pub ReturnsTerm : Run → Plain × Needs → Answer → Type 0
ReturnsTerm run v = GivesBack run (Some v.0) v.1

-- the function's end is a return without a value
abbrev pub Returns : Structs → Run → Option Expr → Answer → Type 0
Returns structs run None = GivesBack run None nothing_needed
Returns structs run (Some e) = OfResult (result_of structs run e) (ReturnsTerm run)
