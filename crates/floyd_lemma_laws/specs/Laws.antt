-- Lemmas that are well formed take any terms.
use Rattle.std.specs.Prelude.{List}
use Rattle.floyd_tree.specs.Plain.{Plain}
use Rattle.floyd_assert_trees.specs.declared.items.Defs.{Defs}
use Rattle.floyd_assert_trees.specs.declared.items.Lemma.{Lemma}
use Rattle.floyd_assert_trees.specs.declared.spec.SpecTable.{SpecTable}
use Rattle.floyd_entail_lemmas.specs.Apply.{TakesTerms}
use Rattle.floyd_goal_forms.specs.Items.{LemmaFits}

-- A lemma may be used at any terms where it is well formed.
abbrev pub LemmasAreTaken : Type 0
LemmasAreTaken = (defs : Defs) (specs : SpecTable) (l : Lemma) (terms : List Plain) → LemmaFits defs specs l → TakesTerms l terms
