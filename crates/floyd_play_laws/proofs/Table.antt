-- The laws of the rows that are gathered, and the table of all commands.
use Rattle.floyd_text.specs.declared.rule.Rule.TheVariants as rule
use Rattle.floyd_assert_trees.specs.declared.items.Defs.{Defs}
use Rattle.floyd_assert_trees.specs.declared.spec.SpecTable.{SpecTable}
use Rattle.floyd_arrays.specs.JoinArray as join_array
use Rattle.floyd_arrays.specs.SplitArray as split_array
use Rattle.floyd_arrays_structs.specs.JoinStruct as join_struct
use Rattle.floyd_arrays_structs.specs.SplitStruct as split_struct
use Rattle.floyd_entail.specs.Exists as exists
use Rattle.floyd_entail.specs.Facts as facts
use Rattle.floyd_entail.specs.Intros as intros
use Rattle.floyd_entail.specs.Reroot as reroot
use Rattle.floyd_entail.specs.Valid as valid
use Rattle.floyd_entail.specs.Weaken as weaken
use Rattle.floyd_entail_soundness.specs.Rows.{CancelRow, IsWitness}
use Rattle.floyd_pure_formulas.specs.Cut.{CutRow}
use Rattle.floyd_pure_formulas.specs.Destruct.{DestructRow}
use Rattle.floyd_pure_formulas.specs.Discriminate.{DiscriminateRow}
use Rattle.floyd_pure_formulas.specs.LeftRight.{LeftRow, RightRow}
use Rattle.floyd_pure_formulas.specs.Mp.{MpRow}
use Rattle.floyd_pure_formulas.specs.Refl.{ReflRow}
use Rattle.floyd_pure_formulas.specs.Trivial.{TrivialRow}
use Rattle.floyd_pure_laws.specs.ByLaw.{LawRow}
use Rattle.floyd_pure_laws.specs.Lia.{LiaRow}
use Rattle.floyd_pure_quantifiers.specs.Exists.{ExistsRow}
use Rattle.floyd_pure_quantifiers.specs.Inject.{InjectRow}
use Rattle.floyd_pure_quantifiers.specs.Intro.{IntroRow}
use Rattle.floyd_pure_quantifiers.specs.Specialize.{SpecializeRow}
use Rattle.floyd_pure_quantifiers.specs.Split.{SplitRow}
use Rattle.floyd_pure_rewriting.specs.Rewrite.{RewriteRow}
use Rattle.floyd_pure_simplifying.specs.Simpl.{SimplRow}
use Rattle.floyd_row_laws.specs.Laws.{HasLaws, Nothing}
use Rattle.floyd_shares.specs.JoinShare as join_share
use Rattle.floyd_shares.specs.SplitShare as split_share
use Rattle.floyd_shares_soundness.specs.Numbers.{IsOfNumber}
use Rattle.floyd_structs_soundness.specs.Fields.{IsOfStructs}
use Rattle.floyd_play_laws.specs.Laws.{AreLawful, Left}
use Rattle.floyd_play_laws.proofs.Gathering.{exists_laws, lawful, not_yet}

pub record RowLaws : Type 0 where
  pub refl : HasLaws Nothing (λ defs. ReflRow)
  pub trivial : HasLaws Nothing (λ defs. TrivialRow)
  pub intro : HasLaws Nothing (λ defs. IntroRow)
  pub left : HasLaws Nothing (λ defs. LeftRow)
  pub right : HasLaws Nothing (λ defs. RightRow)
  pub split : HasLaws Nothing (λ defs. SplitRow)
  pub exists_pure : HasLaws Nothing (λ defs. ExistsRow)
  pub lia : HasLaws Nothing (λ defs. LiaRow)
  pub cut : HasLaws Nothing (λ defs. CutRow)
  pub mp : HasLaws Nothing (λ defs. MpRow)
  pub law : HasLaws Nothing (λ defs. LawRow)
  pub specialize : HasLaws Nothing (λ defs. SpecializeRow)
  pub inject : HasLaws Nothing (λ defs. InjectRow)
  pub discriminate : HasLaws Nothing (λ defs. DiscriminateRow)
  pub destruct : HasLaws Nothing (λ defs. DestructRow)
  pub rewrite : HasLaws Nothing (λ defs. RewriteRow)
  pub simpl : HasLaws Nothing (λ defs. SimplRow)
  pub intros : HasLaws Nothing (λ defs. intros.Row)
  pub exists : HasLaws IsWitness (λ defs. exists.Row)
  pub cancel : HasLaws Nothing (λ defs. CancelRow)
  pub weaken : HasLaws Nothing (λ defs. weaken.Row defs.structs)
  pub facts : HasLaws Nothing (λ defs. facts.Row defs.structs)
  pub valid : HasLaws Nothing (λ defs. valid.Row defs.structs)
  pub reroot : HasLaws Nothing (λ defs. reroot.Row defs.structs)
  pub split_array : HasLaws IsOfNumber (λ defs. split_array.Row defs.structs)
  pub join_array : HasLaws Nothing (λ defs. join_array.Row defs.structs)
  pub split_struct : HasLaws IsOfStructs (λ defs. split_struct.Row defs.structs)
  pub join_struct : HasLaws IsOfStructs (λ defs. join_struct.Row defs.structs)
  pub split_share : HasLaws IsOfNumber (λ defs. split_share.Row)
  pub join_share : HasLaws Nothing (λ defs. join_share.Row)

pub table : RowLaws → (defs : Defs) (specs : SpecTable) → Left defs specs → AreLawful defs specs
table rows defs specs left rule.Forward = left.forward
table rows defs specs left rule.ForwardIf = left.forward_if
table rows defs specs left rule.ForwardWhile = left.forward_while
table rows defs specs left rule.ForwardLoop = left.forward_loop
table rows defs specs left rule.ForwardSwitch = left.forward_switch
table rows defs specs left rule.Unfold = left.unfold_part
table rows defs specs left rule.Fold = left.fold_parts
table rows defs specs left rule.Apply = left.apply
table rows defs specs left rule.ApplyIh = left.apply_ih
table rows defs specs left rule.Induction = left.induction
table rows defs specs left rule.UnfoldFun = left.unfold_fun
table rows defs specs left rule.Exists = lawful defs specs left rule.Exists (exists_laws rows.exists_pure rows.exists)
table rows defs specs left rule.Refl = lawful defs specs left rule.Refl rows.refl
table rows defs specs left rule.Trivial = lawful defs specs left rule.Trivial rows.trivial
table rows defs specs left rule.Intro = lawful defs specs left rule.Intro rows.intro
table rows defs specs left rule.Left = lawful defs specs left rule.Left rows.left
table rows defs specs left rule.Right = lawful defs specs left rule.Right rows.right
table rows defs specs left rule.Split = lawful defs specs left rule.Split rows.split
table rows defs specs left rule.Lia = lawful defs specs left rule.Lia rows.lia
table rows defs specs left rule.Cut = lawful defs specs left rule.Cut rows.cut
table rows defs specs left rule.Mp = lawful defs specs left rule.Mp rows.mp
table rows defs specs left rule.Law = lawful defs specs left rule.Law rows.law
table rows defs specs left rule.Specialize = lawful defs specs left rule.Specialize rows.specialize
table rows defs specs left rule.Inject = lawful defs specs left rule.Inject rows.inject
table rows defs specs left rule.Discriminate = lawful defs specs left rule.Discriminate rows.discriminate
table rows defs specs left rule.Destruct = lawful defs specs left rule.Destruct rows.destruct
table rows defs specs left rule.Rewrite = lawful defs specs left rule.Rewrite rows.rewrite
table rows defs specs left rule.Simpl = lawful defs specs left rule.Simpl rows.simpl
table rows defs specs left rule.Intros = lawful defs specs left rule.Intros rows.intros
table rows defs specs left rule.Cancel = lawful defs specs left rule.Cancel rows.cancel
table rows defs specs left rule.Weaken = lawful defs specs left rule.Weaken rows.weaken
table rows defs specs left rule.Facts = lawful defs specs left rule.Facts rows.facts
table rows defs specs left rule.Valid = lawful defs specs left rule.Valid rows.valid
table rows defs specs left rule.Reroot = lawful defs specs left rule.Reroot rows.reroot
table rows defs specs left rule.SplitArray = lawful defs specs left rule.SplitArray rows.split_array
table rows defs specs left rule.JoinArray = lawful defs specs left rule.JoinArray rows.join_array
table rows defs specs left rule.SplitStruct = lawful defs specs left rule.SplitStruct rows.split_struct
table rows defs specs left rule.JoinStruct = lawful defs specs left rule.JoinStruct rows.join_struct
table rows defs specs left rule.SplitShare = lawful defs specs left rule.SplitShare rows.split_share
table rows defs specs left rule.JoinShare = lawful defs specs left rule.JoinShare rows.join_share
table rows defs specs left command = not_yet defs specs left command (λ goal args made row. row)
