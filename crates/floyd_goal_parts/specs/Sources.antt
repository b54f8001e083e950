-- The source of a goal, its parts by their numbers, and the goal from another source.
use Rattle.std.specs.Prelude.{ℕ, zero, suc, ◌-◌, List, ◌++◌, take, drop, if◌then◌else◌, Option, Some, None, Result, Ok, Err, slice_get}
use Rattle.floyd_text.specs.declared.refusal.No.{No}
use Rattle.floyd_assert.specs.Removal.{missing}
use Rattle.floyd_assert_trees.specs.declared.assertion.Assertion.{Assertion}
use Rattle.floyd_assert_trees.specs.declared.sep.Sep.{Sep}
use Rattle.floyd_goal_trees.specs.declared.args.Target as t
use Rattle.floyd_goal_trees.specs.declared.context.Context.{Context}
use Rattle.floyd_goal_trees.specs.declared.goal.Goal.{Goal}
use Rattle.floyd_goal_trees.specs.declared.goal.Goal.TheVariants.{Run, Entail, Pure}
use Rattle.floyd_goal.specs.Goals.{intros_first, some_left, wrong_goal}

-- the number of the part that a command is tried on; 0 is none
abbrev pub part_number : t.Target → ℕ
part_number t.TheVariants.Nothing = 0
part_number (t.TheVariants.Part k) = k
part_number (t.TheVariants.Hypothesis k) = 0

abbrev pub or_missing : ℕ → Option Sep → Result Sep No
or_missing k None = Err (missing k)
or_missing k (Some part) = Ok part

-- the part of that number, from 1
abbrev pub part_at : List Sep → ℕ → Result Sep No
part_at parts zero = Err (missing 0)
part_at parts (suc k) = or_missing (suc k) (slice_get parts k)

-- a source whose existentials have names
abbrev pub when_named : Assertion → Result Assertion No
when_named source = if some_left source.existentials then Err intros_first else Ok source

-- the source of a goal about memory
abbrev pub source_of : Goal → Result Assertion No
source_of (Run run) = when_named run.source
source_of (Entail entail) = when_named entail.source
source_of (Pure pure) = Err wrong_goal

abbrev pub beside : Assertion → Result Sep No → Result (Assertion × Sep) No
beside source (Ok part) = Ok (source, part)
beside source (Err why) = Err why

abbrev pub part_in : Result Assertion No → ℕ → Result (Assertion × Sep) No
part_in (Ok source) k = beside source (part_at source.parts k)
part_in (Err why) k = Err why

-- the source of a goal about memory, and the part that a command is tried on
abbrev pub part_of : Goal → ℕ → Result (Assertion × Sep) No
part_of goal k = part_in (source_of goal) k

-- the parts with these in place of the one of that number
abbrev pub in_place : ℕ → List Sep → List Sep → List Sep
in_place k new parts = take (k - 1) parts ++ new ++ drop k parts

abbrev pub with_parts : Assertion → List Sep → Assertion
with_parts source parts = record source { parts = parts }

-- the goal in that context, from that source
abbrev pub from_source : Goal → Context → Assertion → Goal
from_source (Run run) context source = Run (record run { context = context; source = source })
from_source (Entail entail) context source = Entail (record entail { context = context; source = source })
from_source (Pure pure) context source = Pure (record pure { context = context })
