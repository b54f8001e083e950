-- What the rules share: refusals, hypotheses by number, and a goal in another context.
use Rattle.std.specs.Prelude.{ℕ, zero, suc, Bool, true, false, List, [], ◌∷◌, Option, None, slice_get}
use Rattle.floyd_text.specs.declared.code.Code.{Code}
use Rattle.floyd_text.specs.declared.code.Code.TheVariants as c
use Rattle.floyd_text.specs.declared.refusal.No.{No}
use Rattle.floyd_text.specs.declared.refusal.Shown.TheVariants.{Nothing, Hypothesis}
use Rattle.floyd_tree.specs.Formulas.{PlainFormula}
use Rattle.floyd_assert_trees.specs.declared.binder.Binder.{Binder}
use Rattle.floyd_goal_trees.specs.Contexts.{after_command, with_hypotheses}
use Rattle.floyd_goal_trees.specs.declared.args.Target as t
use Rattle.floyd_goal_trees.specs.declared.context.Context.{Context}
use Rattle.floyd_goal_trees.specs.declared.goal.Goal.{Goal}
use Rattle.floyd_goal_trees.specs.declared.goal.Goal.TheVariants.{Run, Entail, Pure}

abbrev pub refusal : Code → No
refusal code = record { code = code; shown = Nothing }

-- a goal, or a target, of another kind
abbrev pub wrong_goal : No
wrong_goal = refusal c.WrongGoal

-- the existentials of the source have no names yet
abbrev pub intros_first : No
intros_first = refusal c.IntrosFirst

-- there is no hypothesis of that number, or it is of another form
abbrev pub no_hypothesis : ℕ → No
no_hypothesis k = record { code = c.NoHypothesis; shown = Hypothesis k }

abbrev pub some_left : List Binder → Bool
some_left [] = false
some_left (b ∷ bs) = true

-- whether the source has existentials
abbrev pub is_pending : Goal → Bool
is_pending (Run run) = some_left run.source.existentials
is_pending (Entail entail) = some_left entail.source.existentials
is_pending (Pure pure) = false

-- the number of the hypothesis that a command is tried on; 0 is none
abbrev pub number_of : t.Target → ℕ
number_of t.TheVariants.Nothing = 0
number_of (t.TheVariants.Part k) = 0
number_of (t.TheVariants.Hypothesis k) = k

-- the hypothesis of that number, from 1
abbrev pub hypothesis_at : List PlainFormula → ℕ → Option PlainFormula
hypothesis_at hs zero = None
hypothesis_at hs (suc k) = slice_get hs k

-- the goal in that context
abbrev pub in_context : Goal → Context → Goal
in_context (Run run) context = Run (record run { context = context })
in_context (Entail entail) context = Entail (record entail { context = context })
in_context (Pure pure) context = Pure (record pure { context = context })

-- behind a command, with these hypotheses more
abbrev pub enriched : Context → List PlainFormula → Context
enriched context fs = with_hypotheses (after_command context) fs

-- the goal that the formula is true, behind a command
abbrev pub pure_goal : Context → PlainFormula → Goal
pure_goal context target = Pure (record { context = after_command context; target = target })
