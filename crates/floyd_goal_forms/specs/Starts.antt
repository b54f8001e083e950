-- The goals with which proofs of functions and of lemmas start.
use Rattle.std.specs.Prelude.{ℕ, List, [], ◌∷◌, ◌++◌, map, pos, unwrap_or, if◌then◌else◌}
use Rattle.floyd_ctypes.specs.declared.ctype.CType.{CType, Void}
use Rattle.floyd_ctypes.specs.Structs.{Structs}
use Rattle.floyd_clight.specs.declared.syntax.Stmt.{Stmt}
use Rattle.floyd_clight.specs.declared.unit.Defined.{Defined}
use Rattle.floyd_clight.specs.declared.unit.Local as l
use Rattle.floyd_clight.specs.Flat.{flat}
use Rattle.floyd_clight_machine.specs.Types.{same_type}
use Rattle.floyd_tree_sorts.specs.declared.connectives.FormulaHead.TheVariants.{False}
use Rattle.floyd_tree_sorts.specs.declared.heads.Head.TheVariants.{Lv}
use Rattle.floyd_tree_sorts.specs.declared.sorts.Sort.{Val}
use Rattle.floyd_tree.specs.Formulas.{Says, NoFormula}
use Rattle.floyd_tree.specs.Plain.{Plain, At, Done}
use Rattle.floyd_tree_values.specs.Defaults.{value_sort}
use Rattle.floyd_assert_trees.specs.declared.assertion.Assertion.{Assertion}
use Rattle.floyd_assert_trees.specs.declared.assertion.Local.{Local}
use Rattle.floyd_assert_trees.specs.declared.items.Lemma.{Lemma}
use Rattle.floyd_assert_trees.specs.declared.sep.Sep.{Sep}
use Rattle.floyd_assert_trees.specs.declared.sep.Sep.TheVariants.{FieldAt}
use Rattle.floyd_assert_trees.specs.declared.spec.Funspec.{Funspec}
use Rattle.floyd_assert_trees.specs.declared.spec.Postcondition.{Postcondition}
use Rattle.floyd_fieldpath.specs.DefaultTerms.{default_term}
use Rattle.floyd_fieldpath.specs.Nested.{literal, sized_type}
use Rattle.floyd_goal_trees.specs.declared.context.Mark.TheVariants as m
use Rattle.floyd_goal_trees.specs.declared.exits.Exit.{Exit}
use Rattle.floyd_goal_trees.specs.declared.exits.Exit.TheVariants as x
use Rattle.floyd_goal_trees.specs.declared.goal.Goal.{Goal}
use Rattle.floyd_goal_trees.specs.declared.goal.Goal.TheVariants.{Run, Entail}
use Rattle.floyd_goal_trees.specs.declared.goal.Run as r

-- data_at(share, T, value, root) of a type of C
abbrev pub object_part : Plain → CType → Plain → Plain → Sep
object_part share t value root = FieldAt (record { share = share; ty = sized_type t; path = []; root = root }) value

-- the default value of a type
abbrev pub default_of : Structs → CType → Plain
default_of structs t = default_term (sized_type t) (unwrap_or (value_sort structs (sized_type t).shape) Val)

-- data_at_(T, lv(x)) for a local variable with a block
abbrev pub block_part : Structs → l.Local → Sep
block_part structs b = object_part (literal (pos 16)) b.ctype (default_of structs b.ctype) (At (Lv b.name) Done)

-- temp x = t for each parameter and its term of PARAMS
abbrev pub parameters_are : List l.Local → List Plain → List Local
parameters_are (p ∷ ps) (t ∷ ts) = record { name = p.name; term = t } ∷ parameters_are ps ts
parameters_are ps ts = []

-- PROP (False) LOCAL () SEP ()
abbrev pub never : Assertion
never = record { existentials = []; props = Says False Done NoFormula ∷ []; locals = []; parts = [] }

-- a postcondition as an assertion, without its term of RETURN
abbrev pub as_assertion : Postcondition → Assertion
as_assertion post = record { existentials = post.existentials; props = post.props; locals = []; parts = post.parts }

-- the end of a void function; the end of another one is never reached
abbrev pub end_of : CType → Exit
end_of result = if same_type result Void then x.End else x.To never

-- a run of no statements is the goal that its exit follows, unless that is the function's end
abbrev pub by_rest : r.Run → List Stmt → Exit → Goal
by_rest run [] (x.To a) = Entail (record { context = run.context; source = run.source; target = a })
by_rest run ss exit = Run run

abbrev pub run_goal : r.Run → Goal
run_goal run = by_rest run run.rest run.exits.normal

-- The proof of a function: from its precondition, with its parameters and its local variables, its body leads to its
-- postcondition.
abbrev pub function_start : Structs → Funspec → Defined → Goal
function_start structs spec d = run_goal (record {
  context = record { variables = spec.with; hypotheses = spec.pre.props; mark = m.Plain };
  source = record { existentials = []; props = []; locals = parameters_are d.parameters spec.pre.params; parts = spec.pre.parts ++ map (block_part structs) d.blocks };
  rest = flat d.body;
  exits = record {
    normal = end_of d.result;
    brk = x.None;
    cont = x.None;
    ret = record { post = as_assertion spec.post; value = spec.post.value; result = d.result; blocks = d.blocks };
  };
})

-- the proof of a lemma: its right side follows from its left one
abbrev pub lemma_start : List ℕ → Lemma → Goal
lemma_start name l = Entail (record {
  context = record { variables = l.with; hypotheses = l.left.props; mark = m.Start name };
  source = record { existentials = []; props = []; locals = []; parts = l.left.parts };
  target = l.right;
})
