-- A walk along a path, one step on.
use Rattle.std.proofs.Common.{◌≡◌, ℕ, zero, suc, ◌+◌, List, [], ◌∷◌, drop, Some, None, Err, ap, sym, ◌∙◌, add-one}
use Rattle.std.specs.Prelude.{slice_get, option_and_then}
use Rattle.floyd_ctypes.specs.Structs.{Structs}
use Rattle.floyd_tree.specs.declared.paths.PathStep.{PathStep}
use Rattle.floyd_tree.specs.Types.{SizedType}
use Rattle.floyd_fieldpath.specs.Nested.{type_after, type_at, nested_type, or_illegal, path_illegal}

dropped : {A : Type 0} (xs : List A) (k : ℕ) (x : A) → slice_get xs k ≡ Some x → drop k xs ≡ x ∷ drop (suc k) xs
dropped [] k x e = absurd cc
dropped (y ∷ ys) zero x e = let same : y ≡ x = cc in ap (λ z. z ∷ ys) same
dropped (y ∷ ys) (suc k) x e = dropped ys k x e

-- the steps from a place on are the step there, and those behind it
pub drop_step : {A : Type 0} (xs : List A) (k : ℕ) (x : A) → slice_get xs k ≡ Some x → drop k xs ≡ x ∷ drop (k + 1) xs
drop_step xs k x e = rw add-one (dropped xs k x e)

pub step_on : (structs : Structs) (t inner u : SizedType) (path : List PathStep) (k : ℕ) (step : PathStep) → slice_get path k ≡ Some step → type_at structs inner (drop k path) ≡ type_at structs t path → Some u ≡ type_after structs inner step → type_at structs u (drop (k + 1) path) ≡ type_at structs t path
step_on structs t inner u path k step get held after =
    ap (option_and_then (λ w. type_at structs w (drop (k + 1) path))) after ∙ ap (type_at structs inner) (sym (drop_step path k step get)) ∙ held

pub no_step : (structs : Structs) (t inner : SizedType) (path : List PathStep) (k : ℕ) (step : PathStep) → slice_get path k ≡ Some step → type_at structs inner (drop k path) ≡ type_at structs t path → None ≡ type_after structs inner step → nested_type structs t path ≡ Err path_illegal
no_step structs t inner path k step get held after =
    ap or_illegal (sym held ∙ ap (type_at structs inner) (drop_step path k step get) ∙ ap (option_and_then (λ w. type_at structs w (drop (k + 1) path))) (sym after))
