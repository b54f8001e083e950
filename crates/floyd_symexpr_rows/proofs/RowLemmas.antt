-- What a row answers, once its term and its formulas are there.
use Rattle.std.proofs.Common.{◌≡◌, List, Result, Ok, Err, ap, sym, subst, ◌∙◌, refl}
use Rattle.floyd_text.specs.declared.refusal.No.{No}
use Rattle.floyd_text.specs.declared.refusal.RuleStop.{RuleStop}
use Rattle.floyd_text.specs.Gives.{RuleStops}
use Rattle.floyd_tree.specs.Formulas.{PlainFormula}
use Rattle.floyd_tree.specs.Plain.{Plain}
use Rattle.floyd_fieldpath.specs.Nested.{literal}
use Rattle.floyd_fieldpath.specs.Sums.{plus}
use Rattle.floyd_fieldpath.specs.Written.{on_ok}
use Rattle.std.specs.Prelude.{pos, ◌++◌}
use Rattle.floyd_symexpr_rows.specs.declared.needs.Needs.{Needs}
use Rattle.floyd_symexpr_rows.specs.declared.needs.Number.{Number}
use Rattle.floyd_symexpr_rows.specs.Formulas.{saying}
use Rattle.floyd_symexpr_rows.specs.Rows.{amount_fits, ranges, row, shifted, value_of_kind}
use Rattle.floyd_symexpr_rows.proofs.SayingLemmas.{stops}

pub row_gives : (term : Result Plain No) (sides : List PlainFormula) (needs : Needs) (t : Plain) (all : List PlainFormula) → term ≡ Ok t → saying needs.sides sides ≡ Ok all → row term sides needs ≡ Ok (t, record needs { sides = all })
row_gives term sides needs t all e h =
    ap (λ (d : Result Plain No). row d sides needs) e
    ∙ ap (λ (d : Result (List PlainFormula) No). on_ok d (λ more. Ok (t, record needs { sides = more }))) h

pub row_stops_first : (stop : RuleStop) (term : Result Plain No) (sides : List PlainFormula) (needs : Needs) → RuleStops stop term → RuleStops stop (row term sides needs)
row_stops_first stop term sides needs h = stops stop term _ h

pub row_stops : (stop : RuleStop) (term : Result Plain No) (sides : List PlainFormula) (needs : Needs) (t : Plain) → term ≡ Ok t → RuleStops stop (saying needs.sides sides) → RuleStops stop (row term sides needs)
row_stops stop term sides needs t e h =
    subst (λ (d : Result Plain No). RuleStops stop (row d sides needs)) (sym e)
    (stops stop (saying needs.sides sides) (λ more. Ok (t, record needs { sides = more })) h)

-- the same of a number that is shifted
pub shifted_gives : (a b : Number) (n : Plain) (needs : Needs) (more t : Plain) (all : List PlainFormula) → plus b.term (literal (pos 1)) ≡ Ok more → value_of_kind a.kind n ≡ Ok t → saying needs.sides (ranges a b ++ amount_fits a b more) ≡ Ok all → shifted a b n needs ≡ Ok (t, record needs { sides = all })
shifted_gives a b n needs more t all e f h =
    ap (λ (d : Result Plain No). on_ok d (λ m. row (value_of_kind a.kind n) (ranges a b ++ amount_fits a b m) needs)) e
    ∙ row_gives (value_of_kind a.kind n) (ranges a b ++ amount_fits a b more) needs t all f h

pub shifted_stops_first : (stop : RuleStop) (a b : Number) (n : Plain) (needs : Needs) → RuleStops stop (plus b.term (literal (pos 1))) → RuleStops stop (shifted a b n needs)
shifted_stops_first stop a b n needs h = stops stop (plus b.term (literal (pos 1))) _ h

pub shifted_stops_next : (stop : RuleStop) (a b : Number) (n : Plain) (needs : Needs) (more : Plain) → plus b.term (literal (pos 1)) ≡ Ok more → RuleStops stop (value_of_kind a.kind n) → RuleStops stop (shifted a b n needs)
shifted_stops_next stop a b n needs more e h =
    subst (λ (d : Result Plain No). RuleStops stop (on_ok d (λ m. row (value_of_kind a.kind n) (ranges a b ++ amount_fits a b m) needs))) (sym e)
    (row_stops_first stop (value_of_kind a.kind n) (ranges a b ++ amount_fits a b more) needs h)

pub shifted_stops : (stop : RuleStop) (a b : Number) (n : Plain) (needs : Needs) (more t : Plain) → plus b.term (literal (pos 1)) ≡ Ok more → value_of_kind a.kind n ≡ Ok t → RuleStops stop (saying needs.sides (ranges a b ++ amount_fits a b more)) → RuleStops stop (shifted a b n needs)
shifted_stops stop a b n needs more t e f h =
    subst (λ (d : Result Plain No). RuleStops stop (on_ok d (λ m. row (value_of_kind a.kind n) (ranges a b ++ amount_fits a b m) needs))) (sym e)
    (row_stops stop (value_of_kind a.kind n) (ranges a b ++ amount_fits a b more) needs t f h)
