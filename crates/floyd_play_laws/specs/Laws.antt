-- What is known of the commands of a play, over the items that a module sees: each keeps goals well formed, and a goal holds
-- where the goals do that its row makes. From this a derivation shows its start goals.
use Rattle.std.specs.Prelude.{◌≤◌, ◌<◌, ◌^◌, ℕ, List, length, Ok}
use Rattle.std.specs.List.{AllByRecursion}
use Rattle.floyd_text.specs.declared.rule.Rule.{Rule}
use Rattle.floyd_text.specs.declared.rule.Rule.TheVariants as rule
use Rattle.floyd_lex.specs.Token.{TokenList}
use Rattle.floyd_clight.specs.declared.unit.Local.{Local}
use Rattle.floyd_assert_trees.specs.declared.items.Defs.{Defs}
use Rattle.floyd_assert_trees.specs.declared.spec.SpecTable.{SpecTable}
use Rattle.floyd_goal.specs.Stacks.{most}
use Rattle.floyd_goal_forms.specs.Goals.{IsWellFormed}
use Rattle.floyd_goal_meaning.specs.GoalHolds.{HoldsFor}
use Rattle.floyd_goal_trees.specs.Contexts.{context_of}
use Rattle.floyd_goal_trees.specs.declared.args.Args.{Args}
use Rattle.floyd_goal_trees.specs.declared.goal.Goal.{Goal}
use Rattle.floyd_goal_trees.specs.Sizes.{goal_size}
use Rattle.floyd_entail_soundness.specs.Rows.{IsWitness}
use Rattle.floyd_formed_pure.specs.Rows.{IsGiven}
use Rattle.floyd_shares_soundness.specs.Numbers.{IsOfNumber}
use Rattle.floyd_structs_soundness.specs.Fields.{IsOfStructs}
use Rattle.floyd_row_laws.specs.Laws.{Asking, Nothing}
use Rattle.floyd_play_reading.specs.Arguments.{AreRead}
use Rattle.floyd_play_rows.specs.Rows.{Row}
use Rattle.floyd_play_steps.specs.declared.state.Start.{Start}
use Rattle.floyd_play_steps.specs.Derivations.{HasDerivation}
use Rattle.floyd_play_steps.specs.Few.{HasFew, HasFewVariables}
use Rattle.floyd_play_steps.specs.Forms.{AreWellFormed, CommandsKeepForms}

-- what a command meets in a play: a well-formed goal, within the limit and with few existentials and variables, and
-- arguments that were read in its context
pub record Meets (defs : Defs) (specs : SpecTable) (command : Rule) (goal : Goal) (args : Args) : Type 0 where
  pub formed : IsWellFormed defs specs goal
  pub few : HasFew goal
  pub variables : HasFewVariables goal
  pub size : goal_size goal ≤ most
  pub blocks : List Local
  pub bytes : List ℕ
  pub list : TokenList
  pub count : length list.items < 2 ^ 32
  pub read : AreRead bytes list defs specs blocks goal command (Ok args)

-- both laws of a command
pub record IsLawful (defs : Defs) (specs : SpecTable) (command : Rule) : Type 0 where
  pub forms : (goal : Goal) (args : Args) (made : List Goal) → Meets defs specs command goal args → Row defs command goal args (Ok made) → AreWellFormed defs specs made
  pub sound : (n : ℕ) (goal : Goal) (args : Args) (made : List Goal) → Meets defs specs command goal args → Row defs command goal args (Ok made) → AllByRecursion (HoldsFor defs specs n) made → HoldsFor defs specs n goal

abbrev pub AreLawful : Defs → SpecTable → Type 0
AreLawful defs specs = (command : Rule) → IsLawful defs specs command

-- ---- what follows

-- commands keep goals well formed
abbrev pub LawfulKeepForms : Type 0
LawfulKeepForms = (defs : Defs) (specs : SpecTable) → AreLawful defs specs → CommandsKeepForms defs specs

-- well-formed start goals that have a derivation hold for every number of steps
abbrev pub DerivedGoalsHold : Type 0
DerivedGoalsHold =
    (defs : Defs) (specs : SpecTable) (start : Start) → AreLawful defs specs → AreWellFormed defs specs start.goals → HasDerivation defs specs start →
    (n : ℕ) → AllByRecursion (HoldsFor defs specs n) start.goals

-- ---- what is left

-- what the row of a command asks of its arguments, besides that they are well formed
abbrev pub asks : Rule → Asking
asks rule.Exists = IsWitness
asks rule.SplitArray = IsOfNumber
asks rule.SplitShare = IsOfNumber
asks rule.SplitStruct = IsOfStructs
asks rule.JoinStruct = IsOfStructs
asks command = Nothing

-- The laws of readers, and those of commands, that are not gathered here: what was read is well formed, and as the row asks.
pub record Left (defs : Defs) (specs : SpecTable) : Type 0 where
  pub given : (command : Rule) (goal : Goal) (args : Args) → Meets defs specs command goal args → IsGiven defs specs (context_of goal) args × asks command defs goal args
  pub forward : IsLawful defs specs rule.Forward
  pub forward_if : IsLawful defs specs rule.ForwardIf
  pub forward_while : IsLawful defs specs rule.ForwardWhile
  pub forward_loop : IsLawful defs specs rule.ForwardLoop
  pub forward_switch : IsLawful defs specs rule.ForwardSwitch
  pub unfold_part : IsLawful defs specs rule.Unfold
  pub fold_parts : IsLawful defs specs rule.Fold
  pub apply : IsLawful defs specs rule.Apply
  pub apply_ih : IsLawful defs specs rule.ApplyIh
  pub induction : IsLawful defs specs rule.Induction
  pub unfold_fun : IsLawful defs specs rule.UnfoldFun

abbrev pub CommandsAreLawful : Type 0
CommandsAreLawful = (defs : Defs) (specs : SpecTable) → Left defs specs → AreLawful defs specs
