-- The formulas that need a proof, and formulas in one.
use Rattle.std.specs.Prelude.{◌≡◌, ◌⊎◌, List, [], ◌∷◌, Option, Some, None}
use Rattle.floyd_text.specs.declared.code.Code.TheVariants.{TermTooLarge}
use Rattle.floyd_text.specs.declared.refusal.No.{No}
use Rattle.floyd_text.specs.declared.refusal.Shown.TheVariants.{Nothing}
use Rattle.floyd_tree_sorts.specs.declared.connectives.FormulaHead.TheVariants.{And}
use Rattle.floyd_tree.specs.Formulas.{PlainFormula, Says, NoFormula, MoreFormulas}
use Rattle.floyd_tree.specs.Plain.{Done}
use Rattle.floyd_goal_formulas.specs.Drops.{Drops}

-- these are those that need a proof under the hypotheses, in order
abbrev pub Kept : List PlainFormula → List PlainFormula → List PlainFormula → Type 0
Kept hs [] kept = kept ≡ []
Kept hs (f ∷ fs) kept = (Drops hs f × Kept hs fs kept) ⊎ (¬ Drops hs f × ((more : List PlainFormula) × Kept hs fs more × (kept ≡ f ∷ more)))

abbrev pub and : PlainFormula → PlainFormula → PlainFormula
and f g = Says And Done (MoreFormulas f (MoreFormulas g NoFormula))

abbrev pub before : PlainFormula → Option PlainFormula → PlainFormula
before f None = f
before f (Some g) = and f g

-- nested to the right; there is none of no formulas
abbrev pub conjunction : List PlainFormula → Option PlainFormula
conjunction [] = None
conjunction (f ∷ fs) = Some (before f (conjunction fs))

abbrev pub too_large : No
too_large = record { code = TermTooLarge; shown = Nothing }
