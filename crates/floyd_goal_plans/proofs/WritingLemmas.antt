-- Formulas of which one cannot be made, in a list.
use Rattle.std.proofs.Common.{◌≡◌, Bool, true, false, ◌||◌, List, [], ◌∷◌, Result, Ok, Err, refl, sym, ap, subst, ◌∙◌}
use Rattle.std.specs.Prelude.{if◌then◌else◌}
use Rattle.std.specs.List.{list_any}
use Rattle.floyd_text.specs.declared.refusal.No.{No}
use Rattle.floyd_text.specs.declared.refusal.RuleStop.{RuleStop}
use Rattle.floyd_text.specs.declared.refusal.RuleStop.TheVariants as r
use Rattle.floyd_text.specs.Gives.{RuleStops}
use Rattle.floyd_tree.specs.Formulas.{PlainFormula}
use Rattle.floyd_goal_formulas.specs.Keeping.{too_large}
use Rattle.floyd_goal_parts.specs.Writing.{StopsAs, all_written, is_faulty}

fine_by : (b : Bool) (fs : List PlainFormula) → b ≡ false → (if b then Err too_large else Ok fs) ≡ Ok fs
fine_by true fs e = absurd cc
fine_by false fs e = refl

faulty_by : (b : Bool) (fs : List PlainFormula) (why : No) → why ≡ too_large → b ≡ true → (if b then Err too_large else Ok fs) ≡ Err why
faulty_by true fs why e f = cc
faulty_by false fs why e f = absurd cc

pub written : (fs : List PlainFormula) → list_any is_faulty fs ≡ false → all_written fs ≡ Ok fs
written fs fine = fine_by (list_any is_faulty fs) fs fine

pub unwritten : (stop : RuleStop) (fs : List PlainFormula) → StopsAs stop (list_any is_faulty fs) → RuleStops stop (all_written fs)
unwritten (r.No why) fs h = faulty_by (list_any is_faulty fs) fs why h.0 h.1
unwritten r.Memory fs h = tt

first_of : (a b : Bool) → a ≡ true → (a || b) ≡ true
first_of true b e = refl
first_of false b e = absurd cc

second_of : (a b : Bool) → a ≡ false → (a || b) ≡ b
second_of true b e = absurd cc
second_of false b e = refl

stops_first : (stop : RuleStop) (f : PlainFormula) (fs : List PlainFormula) → StopsAs stop (is_faulty f) → StopsAs stop (list_any is_faulty (f ∷ fs))
stops_first (r.No why) f fs h = (h.0, first_of (is_faulty f) (list_any is_faulty fs) h.1)
stops_first r.Memory f fs h = tt

stops_later : (stop : RuleStop) (f : PlainFormula) (fs : List PlainFormula) → is_faulty f ≡ false → StopsAs stop (list_any is_faulty fs) → StopsAs stop (list_any is_faulty (f ∷ fs))
stops_later stop f fs fine h = subst (StopsAs stop) (sym (second_of (is_faulty f) (list_any is_faulty fs) fine)) h

fine_with : (f : PlainFormula) (fs : List PlainFormula) → is_faulty f ≡ false → list_any is_faulty fs ≡ false → list_any is_faulty (f ∷ fs) ≡ false
fine_with f fs a b = second_of (is_faulty f) (list_any is_faulty fs) a ∙ b

-- one formula
pub one_stops : (stop : RuleStop) (f : PlainFormula) → StopsAs stop (is_faulty f) → RuleStops stop (all_written (f ∷ []))
one_stops stop f h = unwritten stop (f ∷ []) (stops_first stop f [] h)

pub one_fine : (f : PlainFormula) (all : List PlainFormula) → is_faulty f ≡ false → all ≡ f ∷ [] → all_written (f ∷ []) ≡ Ok all
one_fine f all a e = subst (λ fs. all_written (f ∷ []) ≡ Ok fs) (sym e) (written (f ∷ []) (fine_with f [] a refl))

-- two formulas
pub two_first : (stop : RuleStop) (f g : PlainFormula) → StopsAs stop (is_faulty f) → RuleStops stop (all_written (f ∷ g ∷ []))
two_first stop f g h = unwritten stop (f ∷ g ∷ []) (stops_first stop f (g ∷ []) h)

pub two_second : (stop : RuleStop) (f g : PlainFormula) → is_faulty f ≡ false → StopsAs stop (is_faulty g) → RuleStops stop (all_written (f ∷ g ∷ []))
two_second stop f g a h = unwritten stop (f ∷ g ∷ []) (stops_later stop f (g ∷ []) a (stops_first stop g [] h))

pub two_fine : (f g : PlainFormula) (all : List PlainFormula) → is_faulty f ≡ false → is_faulty g ≡ false → all ≡ f ∷ g ∷ [] → all_written (f ∷ g ∷ []) ≡ Ok all
two_fine f g all a b e = subst (λ fs. all_written (f ∷ g ∷ []) ≡ Ok fs) (sym e) (written (f ∷ g ∷ []) (fine_with f (g ∷ []) a (fine_with g [] b refl)))
