-- Two parts, one after the other.
use Rattle.std.proofs.Common.{◌≡◌, List, [], ◌∷◌, Result, Ok, refl, sym, subst}
use Rattle.floyd_text.specs.declared.refusal.No.{No}
use Rattle.floyd_text.specs.declared.refusal.RuleStop.{RuleStop}
use Rattle.floyd_text.specs.Gives.{RuleStops}
use Rattle.floyd_assert_trees.specs.declared.sep.Sep.{Sep}
use Rattle.floyd_fieldpath.specs.Written.{on_ok}
use Rattle.floyd_fieldpath.proofs.WrittenLemmas.{stops}
use Rattle.floyd_arrays.specs.SplitArray.{two_parts}

pub parts_stop_first : (stop : RuleStop) (p q : Result Sep No) → RuleStops stop p → RuleStops stop (two_parts p q)
parts_stop_first stop p q h = stops stop p (λ x. on_ok q (λ y. Ok (x ∷ y ∷ []))) h

pub parts_stop_second : (stop : RuleStop) (p q : Result Sep No) (x : Sep) → p ≡ Ok x → RuleStops stop q → RuleStops stop (two_parts p q)
parts_stop_second stop p q x e h =
    subst (λ (d : Result Sep No). RuleStops stop (two_parts d q)) (sym e) (stops stop q (λ y. Ok (x ∷ y ∷ [])) h)

pub parts_go : (p q : Result Sep No) (x y : Sep) (all : List Sep) → p ≡ Ok x → q ≡ Ok y → all ≡ x ∷ y ∷ [] → two_parts p q ≡ Ok all
parts_go p q x y all e f h =
    subst (λ (d : Result Sep No). two_parts d q ≡ Ok all) (sym e)
    (subst (λ (d : Result Sep No). two_parts (Ok x) d ≡ Ok all) (sym f) (subst (λ (ps : List Sep). two_parts (Ok x) (Ok y) ≡ Ok ps) (sym h) refl))
