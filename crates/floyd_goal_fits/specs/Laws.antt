-- What commands ask of goals follows from that these are well formed.
use Rattle.std.specs.Prelude.{◌≡◌, ℕ, List, [], ◌∷◌, Some}
use Rattle.floyd_tree.specs.Plain.{Plain}
use Rattle.floyd_tree.specs.WellSorted.{sort_of}
use Rattle.floyd_assert_trees.specs.declared.binder.Binder.{Binder}
use Rattle.floyd_assert_trees.specs.declared.items.Defs.{Defs}
use Rattle.floyd_assert_trees.specs.declared.spec.SpecTable.{SpecTable}
use Rattle.floyd_assert_trees.specs.Meanings.{value_defs}
use Rattle.floyd_goal_trees.specs.Contexts.{context_of}
use Rattle.floyd_goal_trees.specs.declared.goal.Goal.{Goal}
use Rattle.floyd_goal_trees.specs.declared.goal.Goal.TheVariants.{Run, Entail, Pure}
use Rattle.floyd_goal_trees.specs.declared.goal.Pure as p
use Rattle.floyd_goal_truth.specs.Scopes.{AllFit}
use Rattle.floyd_goal_forms.specs.Goals.{IsWellFormed}
use Rattle.floyd_pure_formulas.specs.Instances.{IsFitIfPure}
use Rattle.floyd_pure_formulas.specs.Scoping.{IsScoped}
use Rattle.floyd_pure_soundness.specs.Rows.{PureFits}
use Rattle.floyd_entail.specs.Exists as exists
use Rattle.floyd_entail.specs.Intros as intros

-- P of each goal that is well formed
abbrev pub OfWellFormed : (Defs → Goal → Type 0) → Type 0
OfWellFormed P = (defs : Defs) (specs : SpecTable) (goal : Goal) → IsWellFormed defs specs goal → P defs goal

-- the hypotheses are well formed
abbrev pub MeetSpecialize : Type 0
MeetSpecialize = OfWellFormed (λ defs goal. AllFit (value_defs defs) (context_of goal) (context_of goal).hypotheses)

-- the target of a Pure goal is well formed
abbrev pub MeetIntro : Type 0
MeetIntro = OfWellFormed (λ defs goal. IsFitIfPure (value_defs defs) goal)

-- a term of a variable's sort may stand in its place everywhere
abbrev pub MeetDestruct : Type 0
MeetDestruct = OfWellFormed (λ defs goal. IsScoped (value_defs defs) goal)

-- a variable of its sort may stand in the place of each existential of the source
abbrev pub MeetIntros : Type 0
MeetIntros = OfWellFormed (λ defs goal. (names : List (List ℕ)) → intros.SortsAgree goal names)

-- the first term has the sort of the first existential
abbrev pub IsOfFirst : List Binder → List Plain → Type 0
IsOfFirst [] terms = Unit {0}
IsOfFirst (b ∷ more) [] = Unit {0}
IsOfFirst (b ∷ more) (t ∷ terms) = sort_of t ≡ Some b.sort

-- the first term has the sort of the first existential of an Entail goal's target
abbrev pub IsWitness : Goal → List Plain → Type 0
IsWitness (Run run) terms = Unit {0}
IsWitness (Entail entail) terms = IsOfFirst entail.target.existentials terms
IsWitness (Pure pure) terms = Unit {0}

-- such a term may stand in the place of that existential
abbrev pub MeetExists : Type 0
MeetExists = OfWellFormed (λ defs goal. (terms : List Plain) → IsWitness goal terms → exists.SortsAgree goal terms)

-- a Pure goal is such as the law asks that commands on Pure goals are sound
abbrev pub MeetSoundness : Type 0
MeetSoundness = (defs : Defs) (specs : SpecTable) (pure : p.Pure) → IsWellFormed defs specs (Pure pure) → PureFits defs pure
