-- Each command gets what it asks for.
use Rattle.std.proofs.Common.{ℕ, List, Ok}
use Rattle.floyd_text.specs.declared.rule.Rule.TheVariants as rule
use Rattle.floyd_lex.specs.Token.{TokenList}
use Rattle.floyd_clight.specs.declared.unit.Local.{Local}
use Rattle.floyd_assert_trees.specs.declared.items.Defs.{Defs}
use Rattle.floyd_assert_trees.specs.declared.spec.SpecTable.{SpecTable}
use Rattle.floyd_goal_fits.proofs.Goals.{hypotheses_fit, is_scoped, names_agree, target_fits, witness_agrees}
use Rattle.floyd_goal_forms.specs.Goals.{IsWellFormed}
use Rattle.floyd_goal_trees.specs.declared.args.Args.{Args}
use Rattle.floyd_goal_trees.specs.declared.goal.Goal.{Goal}
use Rattle.floyd_goal_trees.specs.declared.goal.Goal.TheVariants.{Run, Entail, Pure}
use Rattle.floyd_unfolding_laws.proofs.Taking.{takes}
use Rattle.floyd_play_reading.specs.Arguments.{AreRead}
use Rattle.floyd_play_rows.specs.Conditions.{MeetsExists}
use Rattle.floyd_play_conditions.specs.Laws.{CommandsMeet, ReadingLaws}
use Rattle.floyd_play_conditions.proofs.Items.{apply_agrees, clause_taken, hypothesis_agrees, unfolds}
use Rattle.floyd_play_conditions.proofs.Reading.{is_witness}

meets_exists : ReadingLaws → (defs : Defs) (specs : SpecTable) (blocks : List Local) (goal : Goal) (bytes : List ℕ) (list : TokenList) (args : Args) → IsWellFormed defs specs goal → AreRead bytes list defs specs blocks goal rule.Exists (Ok args) → MeetsExists defs goal args
meets_exists laws defs specs blocks (Run run) bytes list args fits read = witness_agrees defs specs (Run run) fits args.terms tt
meets_exists laws defs specs blocks (Entail entail) bytes list args fits read =
    witness_agrees defs specs (Entail entail) fits args.terms (is_witness laws.sorts bytes list defs specs blocks (Entail entail) args read)
meets_exists laws defs specs blocks (Pure pure) bytes list args fits read = target_fits defs specs (Pure pure) fits

pub meets : CommandsMeet
meets laws defs specs items blocks goal bytes list rule.Intros args fits read = names_agree defs specs goal fits args.names
meets laws defs specs items blocks goal bytes list rule.Exists args fits read = meets_exists laws defs specs blocks goal bytes list args fits read
meets laws defs specs items blocks goal bytes list rule.Unfold args fits read = λ found e. unfolds defs specs items found.1
meets laws defs specs items blocks goal bytes list rule.Fold args fits read = record {
  clause = clause_taken defs specs items args.name args.terms;
  existentials = laws.clauses defs specs blocks goal bytes list args items fits read;
}
meets laws defs specs items blocks goal bytes list rule.Apply args fits read = apply_agrees defs specs items args
meets laws defs specs items blocks goal bytes list rule.ApplyIh args fits read = hypothesis_agrees defs specs items goal args
meets laws defs specs items blocks goal bytes list rule.Induction args fits read = is_scoped defs specs goal fits
meets laws defs specs items blocks goal bytes list rule.Destruct args fits read = is_scoped defs specs goal fits
meets laws defs specs items blocks goal bytes list rule.Specialize args fits read = hypotheses_fit defs specs goal fits
meets laws defs specs items blocks goal bytes list rule.Intro args fits read = target_fits defs specs goal fits
meets laws defs specs items blocks goal bytes list rule.UnfoldFun args fits read = λ name own e. takes defs items.funs name own e
meets laws defs specs items blocks goal bytes list command args fits read = tt
