-- What is said of pointers, behind other formulas, and the row of a truth value of two pointers.
use Rattle.std.proofs.Common.{◌≡◌, List, [], ◌∷◌, Result, Ok, ap}
use Rattle.floyd_text.specs.declared.refusal.No.{No}
use Rattle.floyd_text.specs.declared.refusal.RuleStop.{RuleStop}
use Rattle.floyd_text.specs.Gives.{RuleGives, RuleStops}
use Rattle.floyd_tree.specs.Formulas.{PlainFormula}
use Rattle.floyd_tree.specs.Plain.{Plain}
use Rattle.floyd_symexpr_rows.specs.declared.needs.Needs.{Needs}
use Rattle.floyd_symexpr_rows.specs.Formulas.{saying}
use Rattle.floyd_symexpr_rows.specs.Rows.{row}
use Rattle.floyd_symexpr_rows.proofs.SayingLemmas.{more_said, said_stops}

pub two_more : {C : Type 0} (view : C → List PlainFormula) (all : List PlainFormula) (f g : PlainFormula) (gs more : List PlainFormula) (x : Result C RuleStop) → saying all (f ∷ g ∷ []) ≡ Ok more → RuleGives view x (saying more gs) → RuleGives view x (saying all (f ∷ g ∷ gs))
two_more view all f g gs more x e h = more_said view all (f ∷ g ∷ []) gs more x e h

pub two_stop : (stop : RuleStop) (all : List PlainFormula) (f g : PlainFormula) (gs : List PlainFormula) → RuleStops stop (saying all (f ∷ g ∷ [])) → RuleStops stop (saying all (f ∷ g ∷ gs))
two_stop stop all f g gs e = said_stops stop all (f ∷ g ∷ []) gs e

pub valid_gives : (term : Result Plain No) (needs : Needs) (t : Plain) → term ≡ Ok t → row term [] needs ≡ Ok (t, needs)
valid_gives term needs t e = ap (λ (d : Result Plain No). row d [] needs) e
