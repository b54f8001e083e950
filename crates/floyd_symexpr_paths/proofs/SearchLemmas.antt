-- Paths and types, step by step.
use Rattle.std.proofs.Common.{◌≡◌, ℕ, zero, suc, ◌+◌, ◌<◌, Bool, true, false, ◌&&◌, List, [], ◌∷◌, length, drop, get_or, Option, Some, None, Result, Ok, Err, refl, ap, ap₂, sym, subst, ◌∙◌, arith, add-one}
use Rattle.std.specs.Prelude.{slice_get, option_and_then}
use Rattle.floyd_text.specs.declared.refusal.No.{No}
use Rattle.floyd_text.specs.declared.refusal.RuleStop.{RuleStop}
use Rattle.floyd_text.specs.declared.refusal.RuleStop.TheVariants as r
use Rattle.floyd_text.specs.Gives.{RuleStops}
use Rattle.floyd_ctypes.specs.Structs.{Structs}
use Rattle.floyd_tree.specs.declared.paths.PathStep.{PathStep}
use Rattle.floyd_tree.specs.Types.{SizedType}
use Rattle.floyd_fieldpath.specs.Nested.{nested_type, or_illegal, type_after}
use Rattle.floyd_fieldpath.proofs.PathLemmas.{drop_step}
use Rattle.floyd_symexpr_paths.specs.declared.lvalue.Taken.{Taken}
use Rattle.floyd_symexpr_paths.specs.Locating.{identical_steps, is_prefix}

-- the type at a path of one step
pub after_is : (structs : Structs) (t u : SizedType) (step : PathStep) → nested_type structs t (step ∷ []) ≡ Ok u → Some u ≡ type_after structs t step
after_is structs t u step e = by (type_after structs t step) e
  where
    by : (o : Option SizedType) → or_illegal (option_and_then (λ (v : SizedType). Some v) o) ≡ Ok u → Some u ≡ o
    by None h = absurd cc
    by (Some v) h = cc

pub after_is_none : (structs : Structs) (t : SizedType) (step : PathStep) (refusal : No) → nested_type structs t (step ∷ []) ≡ Err refusal → None ≡ type_after structs t step
after_is_none structs t step refusal e = by (type_after structs t step) e
  where
    by : (o : Option SizedType) → or_illegal (option_and_then (λ (v : SizedType). Some v) o) ≡ Err refusal → None ≡ o
    by None h = refl
    by (Some v) h = absurd cc

-- where the program finds no type there
pub after_stops : (structs : Structs) (t : SizedType) (step : PathStep) (path : List PathStep) (stop : RuleStop) (refusal : No) → path ≡ step ∷ [] → RuleStops stop (nested_type structs t path) → stop ≡ r.No refusal → None ≡ type_after structs t step
after_stops structs t step path stop refusal one e is =
    after_is_none structs t step refusal
    (subst (λ (p : List PathStep). nested_type structs t p ≡ Err refusal) one (subst (λ (s : RuleStop). RuleStops s (nested_type structs t path)) is e))

-- a path that is longer is no prefix
pub longer : (path : List PathStep) (form : List Taken) → length form < length path → is_prefix path form ≡ false
longer [] form h = absurd (omega arith)
longer (step ∷ path) [] h = refl
longer (step ∷ path) (taken ∷ form) h = by (identical_steps step taken.step) (longer path form (omega arith))
  where
    by : (b : Bool) → is_prefix path form ≡ false → b && is_prefix path form ≡ false
    by true e = e
    by false e = refl

form_step : (form : List Taken) (i : ℕ) (taken : Taken) → i < length form → taken ≡ get_or form i taken → drop i form ≡ taken ∷ drop (suc i) form
form_step [] i taken h e = absurd (omega arith)
form_step (x ∷ xs) zero taken h e = ap (λ y. y ∷ xs) (sym e)
form_step (x ∷ xs) (suc i) taken h e = form_step xs i taken (omega arith) e

pub form_at : (form : List Taken) (i : ℕ) (taken : Taken) → i < length form → taken ≡ get_or form i taken → drop i form ≡ taken ∷ drop (i + 1) form
form_at form i taken h e = rw add-one (form_step form i taken h e)

pub prefix_at : (path : List PathStep) (form : List Taken) (i : ℕ) (step : PathStep) (taken : Taken) → slice_get path i ≡ Some step → i < length form → taken ≡ get_or form i taken → is_prefix (drop i path) (drop i form) ≡ identical_steps step taken.step && is_prefix (drop (i + 1) path) (drop (i + 1) form)
prefix_at path form i step taken e h f = ap₂ (λ p q. is_prefix p q) (drop_step path i step e) (form_at form i taken h f)

pub prefix_false : (path : List PathStep) (form : List Taken) (i : ℕ) (step : PathStep) (taken : Taken) → slice_get path i ≡ Some step → i < length form → taken ≡ get_or form i taken → is_prefix (drop i path) (drop i form) ≡ is_prefix path form → identical_steps step taken.step ≡ false → is_prefix path form ≡ false
prefix_false path form i step taken e h f held off = sym held ∙ prefix_at path form i step taken e h f ∙ ap (λ (b : Bool). b && is_prefix (drop (i + 1) path) (drop (i + 1) form)) off

pub prefix_true : (path : List PathStep) (form : List Taken) (i : ℕ) (step : PathStep) (taken : Taken) → slice_get path i ≡ Some step → i < length form → taken ≡ get_or form i taken → is_prefix (drop i path) (drop i form) ≡ is_prefix path form → identical_steps step taken.step ≡ true → is_prefix (drop (i + 1) path) (drop (i + 1) form) ≡ is_prefix path form
prefix_true path form i step taken e h f held on = sym (ap (λ (b : Bool). b && is_prefix (drop (i + 1) path) (drop (i + 1) form)) on) ∙ sym (prefix_at path form i step taken e h f) ∙ held
