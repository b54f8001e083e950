-- A formula is within the limits only where its parts are.
use Rattle.std.proofs.Common.{◌≡◌, ℕ, ◌+◌, ◌≤◌, max, Bool, true, false, ◌&&◌, List, [], ◌∷◌, ◌++◌, Option, Some, None, Result, Ok, Err, refl, ap, ap₂, sym, ◌∙◌, subst, arith, if◌then◌else◌}
use Rattle.std.specs.Prelude.{is_some, nat_le, length}
use Rattle.std.proofs.lemmas.Bool.Decides.{nat_tests}
use Rattle.floyd_text.specs.declared.refusal.No.{No}
use Rattle.floyd_text.specs.declared.refusal.RuleStop.{RuleStop}
use Rattle.floyd_text.specs.declared.refusal.RuleStop.TheVariants as r
use Rattle.floyd_text.specs.Gives.{RuleGives, RuleStops}
use Rattle.floyd_tree_sorts.specs.declared.connectives.FormulaHead.{FormulaHead}
use Rattle.floyd_tree.specs.declared.stop.MakeStop.{MakeStop}
use Rattle.floyd_tree.specs.declared.stop.MakeStop.TheVariants.{IllSorted, TooLarge}
use Rattle.floyd_tree.specs.Formulas.{PlainFormula, PlainFormulas, Says, NoFormula, MoreFormulas, formula_size, formula_sizes, formula_height, formula_heights, listed_formulas, takes_all, well_sorted, all_well_sorted}
use Rattle.floyd_tree.specs.MadeFormulas.{formula_fault_at, formula_fits}
use Rattle.floyd_tree.specs.Plain.{Plains, sizes, heights}
use Rattle.floyd_tree.specs.WellSorted.{sorts_of}
use Rattle.floyd_fieldpath.specs.Written.{too_large}
use Rattle.floyd_tree_sorts.specs.declared.connectives.FormulaHead.TheVariants.{Implies, Or}
use Rattle.floyd_tree.specs.Plain.{Plain, Done}
use Rattle.floyd_symexpr_rows.specs.Formulas.{absurd_formula, different, either, equal, said, saying}
use Rattle.floyd_symexpr_rows.proofs.SayingLemmas.{stops}

both : (p q : Bool) → p && q ≡ true → (p ≡ true) × (q ≡ true)
both true true e = (refl, refl)
both true false e = absurd cc
both false q e = absurd cc

abbrev fault : Bool → Bool → Option MakeStop
fault sorted fits = if sorted then (if fits then None else Some TooLarge) else Some IllSorted

fine_parts : (sorted fits : Bool) → is_some (fault sorted fits) ≡ false → (sorted ≡ true) × (fits ≡ true)
fine_parts true true e = (refl, refl)
fine_parts true false e = absurd cc
fine_parts false fits e = absurd cc

parts_fine : (sorted fits : Bool) → sorted ≡ true → fits ≡ true → is_some (fault sorted fits) ≡ false
parts_fine true true e f = refl
parts_fine true false e f = absurd cc
parts_fine false fits e f = absurd cc

less : (m n k : ℕ) → m ≤ n → nat_le n k ≡ true → nat_le m k ≡ true
less m n k h e = grind (arith, nat_tests)

fits_down : (s h t i : ℕ) → s ≤ t → h ≤ i → nat_le t 65536 && nat_le i 256 ≡ true → nat_le s 65536 && nat_le h 256 ≡ true
fits_down s h t i a b e =
    let p = both (nat_le t 65536) (nat_le i 256) e in
    ap₂ (λ (x y : Bool). x && y) (less s t 65536 a p.0) (less h i 256 b p.1)

-- the first and the second of the formulas below a head
pub first_fine : (head : FormulaHead) (ts : Plains) (f : PlainFormula) (fs : PlainFormulas) → is_some (formula_fault_at (Says head ts (MoreFormulas f fs))) ≡ false → is_some (formula_fault_at f) ≡ false
first_fine head ts f fs e =
    let p = fine_parts (well_sorted (Says head ts (MoreFormulas f fs))) (formula_fits (Says head ts (MoreFormulas f fs))) e in
    let q = both (takes_all head (sorts_of ts) (length (listed_formulas (MoreFormulas f fs)))) (well_sorted f && all_well_sorted fs) p.0 in
    let s : formula_size f ≤ sizes ts + (formula_size f + formula_sizes fs) + 1 = omega arith in
    let h : formula_height f ≤ max (heights ts) (max (formula_height f) (formula_heights fs)) + 1 = omega arith in
    parts_fine (well_sorted f) (formula_fits f) (both (well_sorted f) (all_well_sorted fs) q.1).0
    (fits_down (formula_size f) (formula_height f) (sizes ts + (formula_size f + formula_sizes fs) + 1) (max (heights ts) (max (formula_height f) (formula_heights fs)) + 1) s h p.1)

pub second_fine : (head : FormulaHead) (ts : Plains) (g f : PlainFormula) (fs : PlainFormulas) → is_some (formula_fault_at (Says head ts (MoreFormulas g (MoreFormulas f fs)))) ≡ false → is_some (formula_fault_at f) ≡ false
second_fine head ts g f fs e =
    let p = fine_parts (well_sorted (Says head ts (MoreFormulas g (MoreFormulas f fs)))) (formula_fits (Says head ts (MoreFormulas g (MoreFormulas f fs)))) e in
    let q = both (takes_all head (sorts_of ts) (length (listed_formulas (MoreFormulas g (MoreFormulas f fs))))) (well_sorted g && (well_sorted f && all_well_sorted fs)) p.0 in
    let w = both (well_sorted g) (well_sorted f && all_well_sorted fs) q.1 in
    let s : formula_size f ≤ sizes ts + (formula_size g + (formula_size f + formula_sizes fs)) + 1 = omega arith in
    let h : formula_height f ≤ max (heights ts) (max (formula_height g) (max (formula_height f) (formula_heights fs))) + 1 = omega arith in
    parts_fine (well_sorted f) (formula_fits f) (both (well_sorted f) (all_well_sorted fs) w.1).0
    (fits_down (formula_size f) (formula_height f) (sizes ts + (formula_size g + (formula_size f + formula_sizes fs)) + 1)
    (max (heights ts) (max (formula_height g) (max (formula_height f) (formula_heights fs))) + 1) s h p.1)

-- where a part stops, so does what it is a part of
part_stops : (f g : PlainFormula) (b c : Bool) → is_some (formula_fault_at f) ≡ b → is_some (formula_fault_at g) ≡ c → (is_some (formula_fault_at g) ≡ false → is_some (formula_fault_at f) ≡ false) → (stop : RuleStop) → RuleStops stop (if b then Err too_large else Ok f) → RuleStops stop (if c then Err too_large else Ok g)
part_stops f g b c i j h r.Memory e = tt
part_stops f g true true i j h (r.No refusal) e = cc
part_stops f g false c i j h (r.No refusal) e = absurd cc
part_stops f g true false i j h (r.No refusal) e = let k = h j in absurd cc

pub stops_up : (f g : PlainFormula) → (is_some (formula_fault_at g) ≡ false → is_some (formula_fault_at f) ≡ false) → (stop : RuleStop) → RuleStops stop (said f) → RuleStops stop (said g)
stops_up f g h stop e = part_stops f g (is_some (formula_fault_at f)) (is_some (formula_fault_at g)) refl refl h stop e

same_said : (f g : PlainFormula) (b : Bool) → ◌≡◌ {A = Result PlainFormula No} (if b then Err too_large else Ok f) (Ok g) → g ≡ f
same_said f g true e = absurd cc
same_said f g false e = cc

pub said_same : (f g : PlainFormula) → said f ≡ Ok g → g ≡ f
said_same f g e = same_said f g (is_some (formula_fault_at f)) e

-- `a <> b`
pub equation_stops : (stop : RuleStop) (a b : Plain) → RuleStops stop (said (equal a b)) → RuleStops stop (said (different a b))
equation_stops stop a b e = stops_up (equal a b) (different a b) (first_fine Implies Done (equal a b) (MoreFormulas absurd_formula NoFormula)) stop e

pub absurd_stops : (stop : RuleStop) (a b : Plain) → RuleStops stop (said absurd_formula) → RuleStops stop (said (different a b))
absurd_stops stop a b e = stops_up absurd_formula (different a b) (second_fine Implies Done (equal a b) absurd_formula NoFormula) stop e

pub different_gives : {C : Type 0} (view : C → PlainFormula) (x : Result C RuleStop) (a b : Plain) (f g : PlainFormula) → said (equal a b) ≡ Ok f → said absurd_formula ≡ Ok g → RuleGives view x (said (Says Implies Done (MoreFormulas f (MoreFormulas g NoFormula)))) → RuleGives view x (said (different a b))
different_gives view x a b f g e h k =
    subst (λ (p : PlainFormula). RuleGives view x (said (Says Implies Done (MoreFormulas p (MoreFormulas absurd_formula NoFormula))))) (said_same (equal a b) f e)
    (subst (λ (q : PlainFormula). RuleGives view x (said (Says Implies Done (MoreFormulas f (MoreFormulas q NoFormula))))) (said_same absurd_formula g h) k)

-- one of two formulas, behind others
said_stops_behind : (stop : RuleStop) (all : List PlainFormula) (f : PlainFormula) → RuleStops stop (said f) → RuleStops stop (saying all (f ∷ []))
said_stops_behind stop all f e = stops stop (said f) (λ g. saying (all ++ g ∷ []) []) e

pub left_stops : (stop : RuleStop) (all : List PlainFormula) (f g : PlainFormula) → RuleStops stop (said f) → RuleStops stop (saying all (either f g ∷ []))
left_stops stop all f g e = said_stops_behind stop all (either f g) (stops_up f (either f g) (first_fine Or Done f (MoreFormulas g NoFormula)) stop e)

pub right_stops : (stop : RuleStop) (all : List PlainFormula) (f g : PlainFormula) → RuleStops stop (said g) → RuleStops stop (saying all (either f g ∷ []))
right_stops stop all f g e = said_stops_behind stop all (either f g) (stops_up g (either f g) (second_fine Or Done f g NoFormula) stop e)

pub either_gives : {C : Type 0} (view : C → List PlainFormula) (x : Result C RuleStop) (all : List PlainFormula) (f g p q : PlainFormula) → said f ≡ Ok p → said g ≡ Ok q → RuleGives view x (saying all (either p q ∷ [])) → RuleGives view x (saying all (either f g ∷ []))
either_gives view x all f g p q e h k =
    subst (λ (r : PlainFormula). RuleGives view x (saying all (either r g ∷ []))) (said_same f p e)
    (subst (λ (r : PlainFormula). RuleGives view x (saying all (either p r ∷ []))) (said_same g q h) k)
