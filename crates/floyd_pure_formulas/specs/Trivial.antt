-- `trivial` closes a goal that needs no proof, and every goal under a hypothesis False.
use Rattle.std.specs.Prelude.{◌≡◌, ◌⊎◌, true, List, [], ◌∷◌}
use Rattle.floyd_text.specs.declared.code.Code.TheVariants as c
use Rattle.floyd_tree.specs.Formulas.{PlainFormula, form_of}
use Rattle.floyd_goal_trees.specs.declared.goal.Pure.{Pure}
use Rattle.floyd_goal.specs.Goals.{refusal}
use Rattle.floyd_goal_formulas.specs.Drops.{Drops}
use Rattle.floyd_goal_formulas.specs.Known.{is_absurd}
use Rattle.floyd_pure_formulas.specs.Rows.{Answer, Row, Closes, OfPure, Provided}

-- some hypothesis is False
abbrev pub HasAbsurd : List PlainFormula → Type 0
HasAbsurd [] = ⊥
HasAbsurd (h ∷ hs) = (is_absurd (form_of h) ≡ true) ⊎ HasAbsurd hs

abbrev pub IsTrivial : Pure → Type 0
IsTrivial pure = Drops pure.context.hypotheses pure.target ⊎ HasAbsurd pure.context.hypotheses

abbrev pub ClosesTrivial : Pure → Answer → Type 0
ClosesTrivial pure answer = Provided (IsTrivial pure) (refusal c.NotTrivial) Closes answer

abbrev pub TrivialRow : Row
TrivialRow goal args answer = OfPure goal ClosesTrivial answer
