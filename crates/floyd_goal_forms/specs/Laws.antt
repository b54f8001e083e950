-- What holds of goals that are well formed.
use Rattle.std.specs.Prelude.{◌≡◌, ℕ, List, Some, bytes_eq}
use Rattle.std.specs.Map.{lookup}
use Rattle.floyd_assert_trees.specs.declared.items.Defs.{Defs}
use Rattle.floyd_assert_trees.specs.declared.items.Lemma.{Lemma}
use Rattle.floyd_assert_trees.specs.declared.spec.SpecTable.{SpecTable}
use Rattle.floyd_goal_forms.specs.Goals.{IsWellFormed}
use Rattle.floyd_goal_forms.specs.Items.{LemmaFits}
use Rattle.floyd_goal_forms.specs.Starts.{lemma_start}

-- the start goal of a lemma that is well formed is so too
abbrev pub LemmasStartWellFormed : Type 0
LemmasStartWellFormed =
    (defs : Defs) (specs : SpecTable) (name : List ℕ) (l : Lemma) → lookup (bytes_eq name) defs.lemmas ≡ Some l → LemmaFits defs specs l → IsWellFormed defs specs (lemma_start name l)
