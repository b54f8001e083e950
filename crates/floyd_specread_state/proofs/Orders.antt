-- Items that are put in sight one after the other.
use Rattle.std.proofs.Common.{◌≡◌, ℕ, zero, suc, ◌+◌, ◌<◌, List, [], ◌∷◌, length, drop, Some, None, refl, ap, arith}
use Rattle.std.specs.Prelude.{slice_get}
use Rattle.floyd_assert_changes.proofs.Parting.{left_at}
use Rattle.floyd_assert_trees.specs.declared.items.Fun.{Fun}
use Rattle.floyd_assert_trees.specs.declared.items.Lemma.{Lemma}
use Rattle.floyd_assert_trees.specs.declared.items.Pred.{Pred}
use Rattle.floyd_assert_trees.specs.declared.spec.Funspec.{Funspec}
use Rattle.floyd_termread_scope.specs.Scopes.{Named}
use Rattle.floyd_specread_state.specs.declared.state.State.{State}
use Rattle.floyd_specread_state.specs.States.{put_fun, put_lemma, put_pred, put_spec, with_funs, with_lemmas, with_preds, with_specs}

-- an item that is within the list is there
pub is_there : {X : Type 0} (items : List X) (i : ℕ) → i < length items → slice_get items i ≡ None → ⊥
is_there [] i within e = omega (arith, within)
is_there (x ∷ items) zero within e = absurd cc
is_there (x ∷ items) (suc i) within e = is_there items i (omega (arith, within)) e

pub next_fun : (items : Named Fun) (i : ℕ) (a : List ℕ × Fun) (s : State) → slice_get items i ≡ Some a → with_funs (drop i items) s ≡ with_funs (drop (i + 1) items) (put_fun a.0 a.1 s)
next_fun items i a s e = ap (λ (xs : Named Fun). with_funs xs s) (left_at items i (i + 1) a refl e)

pub next_pred : (items : Named Pred) (i : ℕ) (a : List ℕ × Pred) (s : State) → slice_get items i ≡ Some a → with_preds (drop i items) s ≡ with_preds (drop (i + 1) items) (put_pred a.0 a.1 s)
next_pred items i a s e = ap (λ (xs : Named Pred). with_preds xs s) (left_at items i (i + 1) a refl e)

pub next_lemma : (items : Named Lemma) (i : ℕ) (a : List ℕ × Lemma) (s : State) → slice_get items i ≡ Some a → with_lemmas (drop i items) s ≡ with_lemmas (drop (i + 1) items) (put_lemma a.0 a.1 s)
next_lemma items i a s e = ap (λ (xs : Named Lemma). with_lemmas xs s) (left_at items i (i + 1) a refl e)

pub next_spec : (items : Named Funspec) (i : ℕ) (a : List ℕ × Funspec) (s : State) → slice_get items i ≡ Some a → with_specs (drop i items) s ≡ with_specs (drop (i + 1) items) (put_spec a.0 a.1 s)
next_spec items i a s e = ap (λ (xs : Named Funspec). with_specs xs s) (left_at items i (i + 1) a refl e)
