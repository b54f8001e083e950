-- What a play stands on: laws of the commands over the items that a module sees, that what was read is such as the calls of
-- commands ask for, and that goals stay well formed.
use Rattle.std.specs.Prelude.{◌≤◌, ◌<◌, ◌^◌, ℕ, List, length, Ok}
use Rattle.std.specs.List.{AllByRecursion}
use Rattle.floyd_text.specs.declared.rule.Rule.{Rule}
use Rattle.floyd_lex.specs.Token.{TokenList}
use Rattle.floyd_assert_trees.specs.declared.items.Defs.{Defs}
use Rattle.floyd_assert_trees.specs.declared.spec.SpecTable.{SpecTable}
use Rattle.floyd_clight.specs.declared.unit.Local.{Local}
use Rattle.floyd_goal.specs.Stacks.{most}
use Rattle.floyd_goal_trees.specs.declared.args.Args.{Args}
use Rattle.floyd_goal_trees.specs.declared.goal.Goal.{Goal}
use Rattle.floyd_goal_trees.specs.Sizes.{goal_size}
use Rattle.floyd_goal_forms.specs.Goals.{IsWellFormed}
use Rattle.floyd_script_trees.specs.declared.trees.Command.{Command}
use Rattle.floyd_play_reading.specs.Arguments.{AreRead}
use Rattle.floyd_play_rows.specs.Conditions.{Meets}
use Rattle.floyd_play_rows.specs.Rows.{Row}
use Rattle.floyd_play_steps.specs.Few.{HasFew, HasFewVariables}

-- a command of a script has its word, and fewer than 2 ^ 32 tokens
pub record IsCommand (c : Command) : Type 0 where
  pub word : 1 ≤ length c.tokens.items
  pub count : length c.tokens.items < 2 ^ 32

abbrev pub AreWellFormed : Defs → SpecTable → List Goal → Type 0
AreWellFormed defs specs goals = AllByRecursion (IsWellFormed defs specs) goals

-- Law of the items that a module sees. Arguments that were read for a command in the context of a well-formed goal are such as
-- the command's call asks for.
abbrev pub ArgumentsMeet : Defs → SpecTable → Type 0
ArgumentsMeet defs specs =
    (blocks : List Local) (goal : Goal) (bytes : List ℕ) (list : TokenList) (command : Rule) (args : Args) →
    IsWellFormed defs specs goal → AreRead bytes list defs specs blocks goal command (Ok args) → Meets defs command goal args

-- Law of these. What a row makes of a well-formed goal with arguments that were read is well formed, where the goal is within
-- the limit and has few existentials and variables.
abbrev pub CommandsKeepForms : Defs → SpecTable → Type 0
CommandsKeepForms defs specs =
    (blocks : List Local) (c : Command) (goal : Goal) (args : Args) (made : List Goal) →
    IsCommand c → IsWellFormed defs specs goal → HasFew goal → HasFewVariables goal → goal_size goal ≤ most →
    AreRead c.bytes c.tokens defs specs blocks goal c.rule (Ok args) → Row defs c.rule goal args (Ok made) → AreWellFormed defs specs made
