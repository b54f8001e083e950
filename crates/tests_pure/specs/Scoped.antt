-- Goals that are such as commands ask for, whatever is defined. Of the assertions in Run and Entail goals few forms are
-- judged: without PROP, and without LOCAL and SEP where there are existentials; and each part is TT or valid.
use Rattle.std.specs.Prelude.{◌≡◌, Bool, true, false, not, ◌&&◌, if◌then◌else◌, List, [], ◌∷◌, Option, Some, None}
use Rattle.floyd_tree.specs.Formulas.{PlainFormula}
use Rattle.floyd_tree.specs.Plain.{Plain}
use Rattle.floyd_assert_trees.specs.declared.assertion.Assertion.{Assertion}
use Rattle.floyd_assert_trees.specs.declared.assertion.Local.{Local}
use Rattle.floyd_assert_trees.specs.declared.binder.Binder.{Binder}
use Rattle.floyd_assert_trees.specs.declared.sep.Sep.{Sep}
use Rattle.floyd_assert_trees.specs.declared.sep.Sep.TheVariants.{Valid, Anything}
use Rattle.floyd_goal_trees.specs.declared.exits.Exit.{Exit}
use Rattle.floyd_goal_trees.specs.declared.exits.Exit.TheVariants as e
use Rattle.floyd_goal_trees.specs.declared.exits.Exits.{Exits}
use Rattle.floyd_goal_trees.specs.declared.exits.Return.{Return}
use Rattle.floyd_goal_trees.specs.declared.goal.Goal.{Goal}
use Rattle.floyd_goal_trees.specs.declared.goal.Goal.TheVariants.{Run, Entail, Pure}
use Rattle.floyd_goal.specs.Goals.{some_left}
use Rattle.floyd_goal.specs.Sides.{context_of}
use Rattle.tests_pure.specs.declared.scoped.Found.{Found}
use Rattle.tests_pure.specs.Known.{all_known, known, term_known}

abbrev pub has_props : List PlainFormula → Bool
has_props [] = false
has_props (f ∷ fs) = true

abbrev pub has_locals : List Local → Bool
has_locals [] = false
has_locals (l ∷ ls) = true

abbrev pub has_parts : List Sep → Bool
has_parts [] = false
has_parts (p ∷ ps) = true

abbrev pub part_known : List Binder → Sep → Bool
part_known bs Anything = true
part_known bs (Valid t) = term_known bs t
part_known bs part = false

abbrev pub parts_known : List Binder → List Sep → Bool
parts_known bs [] = true
parts_known bs (p ∷ ps) = part_known bs p && parts_known bs ps

abbrev pub locals_known : List Binder → List Local → Bool
locals_known bs [] = true
locals_known bs (l ∷ ls) = term_known bs l.term && locals_known bs ls

abbrev pub body_known : List Binder → Assertion → Bool
body_known bs a =
    if some_left a.existentials then not (has_locals a.locals) && not (has_parts a.parts) else locals_known bs a.locals && parts_known bs a.parts

abbrev pub assertion_known : List Binder → Assertion → Bool
assertion_known bs a = not (has_props a.props) && body_known bs a

abbrev pub exit_known : List Binder → Exit → Bool
exit_known bs (e.To a) = assertion_known bs a
exit_known bs exit = true

-- RETURN's term, which stands below no existential
abbrev pub value_known : List Binder → Assertion → Option Plain → Bool
value_known bs post None = true
value_known bs post (Some t) = not (some_left post.existentials) && term_known bs t

abbrev pub return_known : List Binder → Return → Bool
return_known bs r = assertion_known bs r.post && value_known bs r.post r.value

abbrev pub exits_known : List Binder → Exits → Bool
exits_known bs exits = exit_known bs exits.normal && (exit_known bs exits.brk && (exit_known bs exits.cont && return_known bs exits.ret))

abbrev pub said_known : List Binder → Goal → Bool
said_known bs (Run run) = assertion_known bs run.source && exits_known bs run.exits
said_known bs (Entail entail) = assertion_known bs entail.source && assertion_known bs entail.target
said_known bs (Pure pure) = true

-- the hypotheses
abbrev pub hypotheses_known : Goal → Bool
hypotheses_known goal = all_known (context_of goal).variables (context_of goal).hypotheses

-- the target of a Pure goal
abbrev pub target_known : Goal → Bool
target_known (Run run) = true
target_known (Entail entail) = true
target_known (Pure pure) = known pure.context.variables pure.target

-- what a goal of another kind says
abbrev pub goal_known : Goal → Bool
goal_known goal = said_known (context_of goal).variables goal

abbrev pub is_pure : Goal → Bool
is_pure (Run run) = false
is_pure (Entail entail) = false
is_pure (Pure pure) = true

-- what is known of a goal is so
pub record IsFound (goal : Goal) (found : Found) : Type 0 where
  pub hypotheses : found.hypotheses ≡ hypotheses_known goal
  pub target : found.target ≡ target_known goal
  pub rest : found.rest ≡ goal_known goal
