-- What takes the place of a node, as the program finds it.
use Rattle.std.proofs.Common.{◌≡◌, List, reverse, Option, Some, None, Ok, refl, sym, ap, ◌∙◌}
use Rattle.std.specs.Prelude.{option_map}
use Rattle.floyd_text.specs.declared.refusal.RuleStop.{RuleStop}
use Rattle.floyd_text.specs.declared.refusal.RuleStop.TheVariants as r
use Rattle.floyd_text.specs.Gives.{RuleStops}
use Rattle.floyd_tree_sorts.specs.declared.operators.Operator.TheVariants.{Rev}
use Rattle.floyd_tree.specs.Plain.{Plain, At, Done, More, head_of, kids_of}
use Rattle.floyd_simplifying.specs.Simplified.{of_items, some_of, step, step_of_operator}
use Rattle.floyd_simplifying.specs.StepClauses.{step_over}
use Rattle.floyd_simplifying.specs.WrittenLists.{chained, end_of, items_of}

pub step_is : (t : Plain) → step_over (head_of t) (kids_of t) ≡ step t
step_is (At head Done) = refl
step_is (At head (More a Done)) = refl
step_is (At head (More a (More b Done))) = refl
step_is (At head (More a (More b (More c ts)))) = refl

-- the items in the other order
back_none : (a : Plain) (q : Option (List Plain)) → None ≡ option_map reverse q → of_items q (λ items. chained (reverse items) (end_of a)) ≡ Ok None
back_none a None e = refl
back_none a (Some items) e = absurd cc

back_some : (a : Plain) (q : Option (List Plain)) (back : List Plain) → Some back ≡ option_map reverse q → of_items q (λ items. chained (reverse items) (end_of a)) ≡ some_of (chained back (end_of a))
back_some a (Some items) back e =
    let same : back ≡ reverse items = cc in
    ap (λ xs. some_of (chained xs (end_of a))) (sym same)
back_some a None back e = absurd cc

pub rev_none : (a : Plain) → None ≡ option_map reverse (items_of a) → step_of_operator Rev a ≡ Ok None
rev_none a e = back_none a (items_of a) e

pub rev_some : (a made : Plain) (back : List Plain) → Some back ≡ option_map reverse (items_of a) → chained back (end_of a) ≡ Ok made → step_of_operator Rev a ≡ Ok (Some made)
rev_some a made back e i = back_some a (items_of a) back e ∙ ap some_of i

pub rev_stops : (a : Plain) (back : List Plain) (stop : RuleStop) → Some back ≡ option_map reverse (items_of a) → RuleStops stop (chained back (end_of a)) → RuleStops stop (step_of_operator Rev a)
rev_stops a back (r.No refusal) e i = back_some a (items_of a) back e ∙ ap some_of i
rev_stops a back r.Memory e i = tt
