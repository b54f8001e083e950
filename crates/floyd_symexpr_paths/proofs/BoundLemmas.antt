-- The bounds of subscripts, step by step.
use Rattle.std.proofs.Common.{◌≡◌, ℕ, ◌-◌, Bool, List, [], ◌∷◌, Option, Some, None, Result, Ok, Err, refl, ap, sym, subst, ◌∙◌}
use Rattle.std.specs.Prelude.{◌==◌, if◌then◌else◌}
use Rattle.floyd_text.specs.declared.refusal.No.{No}
use Rattle.floyd_text.specs.declared.refusal.RuleStop.{RuleStop}
use Rattle.floyd_text.specs.declared.refusal.RuleStop.TheVariants as r
use Rattle.floyd_text.specs.Gives.{RuleGives, RuleStops}
use Rattle.floyd_ctypes.specs.Structs.{Structs}
use Rattle.floyd_tree.specs.declared.paths.PathStep.{PathStep}
use Rattle.floyd_tree.specs.Formulas.{PlainFormula}
use Rattle.floyd_tree.specs.Types.{SizedType}
use Rattle.floyd_fieldpath.specs.Addresses.{on_type}
use Rattle.floyd_fieldpath.specs.Nested.{type_after}
use Rattle.floyd_fieldpath.specs.Written.{on_ok}
use Rattle.floyd_symexpr_rows.proofs.SayingLemmas.{stops}
use Rattle.floyd_symexpr_paths.specs.declared.lvalue.Taken.{Taken}
use Rattle.floyd_symexpr_paths.specs.Bounds.{bounded_step, bounds, step_bounds}

abbrev asked_bounds : SizedType → Bool → PathStep → List PlainFormula → Result (List PlainFormula) No
asked_bounds t asked step all = if asked then step_bounds t step all else Ok all

-- a step, by its two parts
pub step_stops : (stop : RuleStop) (structs : Structs) (t : SizedType) (asked : Bool) (step : PathStep) (all : List PlainFormula) → RuleStops stop (asked_bounds t asked step all) → RuleStops stop (bounded_step structs t asked step all)
step_stops stop structs t asked step all e = stops stop (asked_bounds t asked step all) (λ more. on_type (type_after structs t step) (λ after. Ok (after, more))) e

type_stops_by : (stop : RuleStop) (o : Option SizedType) (more : List PlainFormula) → RuleStops stop (on_type {A = SizedType} o (λ after. Ok after)) → RuleStops stop (on_type {A = SizedType × List PlainFormula} o (λ after. Ok (after, more)))
type_stops_by r.Memory o more e = tt
type_stops_by (r.No refusal) None more e = cc
type_stops_by (r.No refusal) (Some t) more e = absurd cc

pub type_stops : (stop : RuleStop) (structs : Structs) (t : SizedType) (asked : Bool) (step : PathStep) (all more : List PlainFormula) → asked_bounds t asked step all ≡ Ok more → RuleStops stop (on_type {A = SizedType} (type_after structs t step) (λ after. Ok after)) → RuleStops stop (bounded_step structs t asked step all)
type_stops stop structs t asked step all more e h =
    subst (λ (d : Result (List PlainFormula) No). RuleStops {Y = SizedType × List PlainFormula} stop (on_ok d (λ more. on_type (type_after structs t step) (λ after. Ok (after, more))))) (sym e)
    (type_stops_by stop (type_after structs t step) more h)

type_gives_by : (o : Option SizedType) (u : SizedType) (more : List PlainFormula) → on_type {A = SizedType} o (λ after. Ok after) ≡ Ok u → on_type {A = SizedType × List PlainFormula} o (λ after. Ok (after, more)) ≡ Ok (u, more)
type_gives_by None u more e = absurd cc
type_gives_by (Some t) u more e = let same : t ≡ u = cc in ap (λ (v : SizedType). Ok (v, more)) same

pub step_gives : (structs : Structs) (t u : SizedType) (asked : Bool) (step : PathStep) (all more : List PlainFormula) → asked_bounds t asked step all ≡ Ok more → on_type {A = SizedType} (type_after structs t step) (λ after. Ok after) ≡ Ok u → bounded_step structs t asked step all ≡ Ok (u, more)
step_gives structs t u asked step all more e h =
    ap (λ (d : Result (List PlainFormula) No). on_ok {B = SizedType × List PlainFormula} d (λ more. on_type (type_after structs t step) (λ after. Ok (after, more)))) e
    ∙ type_gives_by (type_after structs t step) u more h

-- the steps of a path, one by one
pub bounds_on : (structs : Structs) (t u : SizedType) (skip : ℕ) (taken : Taken) (form : List Taken) (all more : List PlainFormula) → bounded_step structs t (skip == 0) taken.step all ≡ Ok (u, more) → bounds structs u (skip - 1) form more ≡ bounds structs t skip (taken ∷ form) all
bounds_on structs t u skip taken form all more e =
    sym (ap (λ (d : Result (SizedType × List PlainFormula) No). on_ok d (λ p. bounds structs p.0 (skip - 1) form p.1)) e)

pub bounds_stop : (stop : RuleStop) (structs : Structs) (t : SizedType) (skip : ℕ) (taken : Taken) (form : List Taken) (all : List PlainFormula) → RuleStops stop (bounded_step structs t (skip == 0) taken.step all) → RuleStops stop (bounds structs t skip (taken ∷ form) all)
bounds_stop stop structs t skip taken form all e = stops stop (bounded_step structs t (skip == 0) taken.step all) (λ p. bounds structs p.0 (skip - 1) form p.1) e

-- a step, once its bounds are there, by what is answered for its type
pub step_goes : {C : Type 0} (view : C → SizedType) (r : Result C RuleStop) (structs : Structs) (t : SizedType) (asked : Bool) (step : PathStep) (all more : List PlainFormula) → asked_bounds t asked step all ≡ Ok more → RuleGives view r (on_type {A = SizedType} (type_after structs t step) (λ after. Ok after)) → RuleGives (λ (u : C). (view u, more)) r (bounded_step structs t asked step all)
step_goes view (Ok u) structs t asked step all more e h = step_gives structs t (view u) asked step all more e h
step_goes view (Err stop) structs t asked step all more e h = type_stops stop structs t asked step all more e h
