-- The table of commands and their rows. What a command does that is not built yet is refused as not built.
use Rattle.std.specs.Prelude.{◌≡◌, Err}
use Rattle.floyd_text.specs.declared.code.Code.TheVariants.{NotBuilt}
use Rattle.floyd_text.specs.declared.refusal.No.{No}
use Rattle.floyd_text.specs.declared.rule.Rule.{Rule}
use Rattle.floyd_text.specs.declared.rule.Rule.TheVariants as rule
use Rattle.floyd_assert_trees.specs.declared.items.Defs.{Defs}
use Rattle.floyd_goal.specs.Goals.{refusal}
use Rattle.floyd_goal.specs.Rows.{Answer}
use Rattle.floyd_goal_trees.specs.declared.args.Args.{Args}
use Rattle.floyd_goal_trees.specs.declared.goal.Goal.{Goal}
use Rattle.floyd_goal_trees.specs.declared.goal.Goal.TheVariants as g
use Rattle.floyd_arrays.specs.JoinArray as join_array
use Rattle.floyd_arrays.specs.SplitArray as split_array
use Rattle.floyd_arrays_structs.specs.JoinStruct as join_struct
use Rattle.floyd_arrays_structs.specs.SplitStruct as split_struct
use Rattle.floyd_control.specs.ForwardIf as forward_if
use Rattle.floyd_control.specs.ForwardLoop as forward_loop
use Rattle.floyd_control.specs.ForwardSwitch as forward_switch
use Rattle.floyd_control.specs.ForwardWhile as forward_while
use Rattle.floyd_entail.specs.Exists as exists
use Rattle.floyd_entail.specs.Facts as facts
use Rattle.floyd_entail.specs.Intros as intros
use Rattle.floyd_entail.specs.Reroot as reroot
use Rattle.floyd_entail.specs.Valid as valid
use Rattle.floyd_entail.specs.Weaken as weaken
use Rattle.floyd_entail_cancel.specs.Cancel as cancel
use Rattle.floyd_entail_lemmas.specs.Apply as apply
use Rattle.floyd_entail_lemmas.specs.Hypothesis as apply_ih
use Rattle.floyd_entail_predicates.specs.Fold as folding
use Rattle.floyd_entail_predicates.specs.Unfold as unfolding_part
use Rattle.floyd_forward.specs.Forward as forward
use Rattle.floyd_pure_formulas.specs.Cut.{CutRow}
use Rattle.floyd_pure_formulas.specs.Destruct.{DestructRow}
use Rattle.floyd_pure_formulas.specs.Discriminate.{DiscriminateRow}
use Rattle.floyd_pure_formulas.specs.LeftRight.{LeftRow, RightRow}
use Rattle.floyd_pure_formulas.specs.Mp.{MpRow}
use Rattle.floyd_pure_formulas.specs.Refl.{ReflRow}
use Rattle.floyd_pure_formulas.specs.Trivial.{TrivialRow}
use Rattle.floyd_pure_induction.specs.Induction.{InductionRow}
use Rattle.floyd_pure_laws.specs.ByLaw.{LawRow}
use Rattle.floyd_pure_laws.specs.Lia.{LiaRow}
use Rattle.floyd_pure_quantifiers.specs.Exists.{ExistsRow}
use Rattle.floyd_pure_quantifiers.specs.Inject.{InjectRow}
use Rattle.floyd_pure_quantifiers.specs.Intro.{IntroRow}
use Rattle.floyd_pure_quantifiers.specs.Specialize.{SpecializeRow}
use Rattle.floyd_pure_quantifiers.specs.Split.{SplitRow}
use Rattle.floyd_pure_rewriting.specs.Rewrite.{RewriteRow}
use Rattle.floyd_pure_simplifying.specs.Simpl.{SimplRow}
use Rattle.floyd_pure_unfolding.specs.Row as unfolding_fun
use Rattle.floyd_shares.specs.JoinShare as join_share
use Rattle.floyd_shares.specs.SplitShare as split_share

-- `Exists` is one row on a Pure goal, and another on the others
abbrev pub ExistsOn : Goal → Args → Answer → Type 0
ExistsOn (g.Pure pure) args = ExistsRow (g.Pure pure) args
ExistsOn (g.Entail entail) args = exists.Row (g.Entail entail) args
ExistsOn (g.Run run) args = exists.Row (g.Run run) args

abbrev pub not_built : No
not_built = refusal NotBuilt

abbrev pub NotYet : Answer → Type 0
NotYet answer = answer ≡ Err not_built

-- What the row of a command answers on a goal with these arguments. The rows of `forward_call`, `forward_call_ptr`
-- and `use_spec` take the place of `NotYet` as they come; those of the commands on threads are other rows.
module _ (defs : Defs) where
  -- commands on Pure goals, and other ones that are left
  abbrev pub PureRow : Rule → Goal → Args → Answer → Type 0
  PureRow rule.Refl goal args = ReflRow goal args
  PureRow rule.Trivial goal args = TrivialRow goal args
  PureRow rule.Intro goal args = IntroRow goal args
  PureRow rule.Left goal args = LeftRow goal args
  PureRow rule.Right goal args = RightRow goal args
  PureRow rule.Split goal args = SplitRow goal args
  PureRow rule.Simpl goal args = SimplRow goal args
  PureRow rule.Lia goal args = LiaRow goal args
  PureRow command goal args = NotYet

  -- commands on hypotheses and variables
  abbrev pub HypothesisRow : Rule → Goal → Args → Answer → Type 0
  HypothesisRow rule.Law goal args = LawRow goal args
  HypothesisRow rule.Rewrite goal args = RewriteRow goal args
  HypothesisRow rule.Cut goal args = CutRow goal args
  HypothesisRow rule.Destruct goal args = DestructRow goal args
  HypothesisRow rule.Specialize goal args = SpecializeRow goal args
  HypothesisRow rule.Mp goal args = MpRow goal args
  HypothesisRow rule.UnfoldFun goal args = unfolding_fun.Row defs goal args
  HypothesisRow rule.Discriminate goal args = DiscriminateRow goal args
  HypothesisRow rule.Inject goal args = InjectRow goal args
  HypothesisRow command goal args = PureRow command goal args

  -- commands that cut parts of memory and join them
  abbrev pub MemoryRow : Rule → Goal → Args → Answer → Type 0
  MemoryRow rule.SplitArray goal args = split_array.Row defs.structs goal args
  MemoryRow rule.JoinArray goal args = join_array.Row defs.structs goal args
  MemoryRow rule.SplitStruct goal args = split_struct.Row defs.structs goal args
  MemoryRow rule.JoinStruct goal args = join_struct.Row defs.structs goal args
  MemoryRow rule.SplitShare goal args = split_share.Row goal args
  MemoryRow rule.JoinShare goal args = join_share.Row goal args
  MemoryRow rule.Reroot goal args = reroot.Row defs.structs goal args
  MemoryRow command goal args = HypothesisRow command goal args

  -- commands on assertions
  abbrev pub PartRow : Rule → Goal → Args → Answer → Type 0
  PartRow rule.Intros goal args = intros.Row goal args
  PartRow rule.Exists goal args = ExistsOn goal args
  PartRow rule.Cancel goal args = cancel.Row goal
  PartRow rule.Weaken goal args = weaken.Row defs.structs goal args
  PartRow rule.Unfold goal args = unfolding_part.Row defs goal args
  PartRow rule.Fold goal args = folding.Row defs goal args
  PartRow rule.Facts goal args = facts.Row defs.structs goal args
  PartRow rule.Valid goal args = valid.Row defs.structs goal args
  PartRow rule.Apply goal args = apply.Row defs goal args
  PartRow rule.ApplyIh goal args = apply_ih.Row defs goal args
  PartRow rule.Induction goal args = InductionRow goal args
  PartRow command goal args = MemoryRow command goal args

  -- commands on statements, and all others
  abbrev pub Row : Rule → Goal → Args → Answer → Type 0
  Row rule.Forward goal args = forward.Row defs.structs goal
  Row rule.ForwardIf goal args = forward_if.Row defs.structs goal args
  Row rule.ForwardWhile goal args = forward_while.Row defs.structs goal args
  Row rule.ForwardLoop goal args = forward_loop.Row goal args
  Row rule.ForwardSwitch goal args = forward_switch.Row defs.structs goal args
  Row command goal args = PartRow command goal args
